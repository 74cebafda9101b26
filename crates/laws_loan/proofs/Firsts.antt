-- The first stage of each call of a loan channel has the fields of `IsFirst` (Begins), where no
-- row refuses the begin.
use Rattle.laws_loan.proofs.Names.{MovesRight, ◌≡◌, ◌≢◌, ℕ, ◌<◌, ◌≤◌, ◌⊎◌, ◌==◌, inl, inr, ⊎_elim, nat_le, true}
use Rattle.laws_loan.proofs.Names.{false, not, Option, Some, None, [], ◌∷◌, ◌++◌, get_or, refl, sym, ap, subst}
use Rattle.laws_loan.proofs.Names.{◌∙◌, cases_eq, nat_tests, submission_word, Event, Begun, LoanStart, LoanFlight}
use Rattle.laws_loan.proofs.Names.{Send, Receive, Reclaim, has_died, loan_of, give_up_of, take_back_of}
use Rattle.laws_loan.proofs.Names.{give_back_of, asks_for, taken_from, BeginsRight, Passing, With, move_of, spot_of}
use Rattle.laws_loan.proofs.Names.{receiver_of, reclaims_after, fresh, holds, Open, span_of, span_of-own}
use Rattle.laws_loan.proofs.Names.{span_of-other, IsShut}
use Rattle.std.proofs.Common.{arith}
use Rattle.steps.specs.declared.loan.reclaim.ReclaimStage.TheVariants as reclaims
use Rattle.steps.specs.declared.loan.send.SendStage.TheVariants as sends
use Rattle.steps.specs.declared.queues.overflow.PopStage.TheVariants as overflow_pops
use Rattle.steps.specs.declared.queues.overflow.PushStage.TheVariants as overflow_pushes
use Rattle.model.specs.declared.event.Start.TheVariants as starts
use Rattle.model.specs.declared.families.Flight.TheVariants as flights
use Rattle.model.specs.declared.families.loan.LoanStart.TheVariants as calls
use Rattle.model.specs.Families.Loan.Promises.{ComesFrom}
use Rattle.laws_loan.proofs.Begins.{Between, IsFirst, shut_none}
use Rattle.laws_loan.proofs.Channel.{Channel}
use Rattle.laws_loan.proofs.Invariant.{hung, reclaims_in, Carries}
use Rattle.laws_loan.proofs.Knows.{counts, ReclaimAt, At, FlightKnows}
use Rattle.laws_loan.proofs.OneMove.{OneMove, elsewhere, now_there, passes_on}
use Rattle.laws_loan.proofs.Placed.{Placed}
use Rattle.laws_loan.proofs.Rooms.{waits_few}
use Rattle.laws_loan.proofs.Spots.{spot_stays, with_passes, passing_same}
use Rattle.laws_loan.proofs.Still.{placed_still}
use Rattle.laws_loan.proofs.Table.{sender_begins, receiver_begins}
use Rattle.laws_loan.proofs.QueueEvents.{is_reclaiming}

-- ---- what the tests of a begin say that do not refuse it

-- numbers that the code does not find different are equal
pub is_that : (a b : ℕ) → not (a == b) ≡ false → a ≡ b
is_that = grind arith

-- an index that the code does not find at or above `slots` is below
pub is_below : (slots index : ℕ) → nat_le slots index ≡ false → index < slots
is_below = grind (arith, nat_tests)

-- a call begins while the channel is between two turns
module _ {T : Type 0} (now : Between T) where
  open now use {slots, queue, state as s, changes, holds as holds_now}

  -- what a begin has to show of the first stage of its call
  abbrev First : ℕ → LoanStart → LoanFlight → Type 0
  First p start flight = IsFirst now p start flight

  -- a party has the index for which its begin was not refused
  pub has_it : (p index : ℕ) → not (holds (get_or s.book.holders index None) p) ≡ false → spot_of index s.events ≡ With p
  has_it = grind arith

  -- the receiver of the book is not the sender, and is the one by the events
  pub receiver_is : (p : ℕ) → p ≡ s.book.receiver → (p ≢ 0) × (p ≡ receiver_of s.events)
  receiver_is = grind arith

  module _ (p : ℕ) (start : LoanStart) where
    abbrev begun : Event T
    begun = Begun p (starts.Loan start)

    -- the channel once the call has begun, which asks for this index, if any
    abbrev began : Option ℕ → Channel T
    began o = record s { book = taken_from s.book o; events = s.events ++ begun ∷ [] }

    -- The first stage of the call, where it asks for the index `o` or for none: it counts for nothing in the head and is no send that waits,
    -- its begin is right, and it stands at the stage.
    record Opens (o : Option ℕ) (flight : LoanFlight) : Type 0 where
      asks : asks_for start ≡ o
      light : counts flight ≡ 0
      calm : hung {T = T} s.submission.read (Some (flights.Loan flight)) ≡ None
      begins : BeginsRight s.events begun
      reclaiming : reclaims_after (is_reclaiming s.events) begun ≡ reclaims_in (span_of 0 (s.events ++ begun ∷ []))
      at : At slots queue (began o) p [] start flight
      knows : FlightKnows slots queue (began o) changes changes 0 flight

    -- the begin asks for no index, so it moves none
    module _ (none : move_of {T = T} begun ≡ None) where
      -- the begin leaves each index where it was
      stays_put : (index : ℕ) → spot_of index (s.events ++ begun ∷ []) ≡ spot_of index s.events
      stays_put index = spot_stays s.events begun index none

      -- a call that asks for no index has the fields of `IsFirst`, where its own part of it holds
      asks_none : (flight : LoanFlight) → Opens None flight → First p start flight
      asks_none flight opens =
          let asks = opens.asks in
          let placed =
          placed_still (begun ∷ [])
          (record { moves = none; receiver = λ r. refl; dead = λ q b. refl }, tt) holds_now.parts.placed in
          grind (arith, stays_put)

    -- the begin asks for the index, and moves it from its party into passing
    module _ (index : ℕ) (move_is : move_of {T = T} begun ≡ Some (record { index = index; from = With p; to = Passing p }))
        (has : spot_of index s.events ≡ With p) where
      -- the begin moves the index alone, from the party into passing in its call
      one_move : OneMove p index s.events (begun ∷ []) (With p) (Passing p)
      one_move = grind arith

      -- after the begin the index is in passing in the party's call
      now_passes : spot_of index (s.events ++ begun ∷ []) ≡ Passing p
      now_passes = now_there one_move

      -- an index in passing before the begin is so after it
      moves_it : (i q : ℕ) → spot_of i s.events ≡ Passing q → spot_of i (s.events ++ begun ∷ []) ≡ Passing q
      moves_it i q = passes_on one_move q (with_passes p q) i

      -- an index in passing after the begin was so before, or is the one that the begin takes
      moved_or_not : (i q : ℕ) → spot_of i (s.events ++ begun ∷ []) ≡ Passing q → (spot_of i s.events ≡ Passing q) ⊎ ((q ≡ p) × (i ≡ index))
      moved_or_not i q spot_is =
          ⊎_elim (λ (same : index ≡ i). inr (passing_same q p (sym spot_is ∙ (ap (λ n. spot_of n (s.events ++ begun ∷ [])) (sym same) ∙ now_passes)), sym same))
          (λ (ne : index ≢ i). inl (sym (elsewhere one_move i ne) ∙ spot_is))
          (cases_eq index i)

      -- a call that asks for an index has the fields of `IsFirst`, where its party has the index and its
      -- own part of it holds
      asks_one : {flight : LoanFlight} → Opens (Some index) flight → index < slots → Carries {T = T} index (Open (starts.Loan start) [])
          → Placed slots s.claims s.submission.waiting s.completion.waiting (taken_from s.book (Some index)) (s.events ++ begun ∷ [])
          → First p start flight
      asks_one opens below carries placed =
          let asks = opens.asks in
          let right : MovesRight slots s.events begun = subst (λ m. ComesFrom slots m s.events) (sym move_is) (below, has) in
          let passing : (i q : ℕ) → spot_of i (s.events ++ begun ∷ []) ≡ Passing q
          → (spot_of i s.events ≡ Passing q) ⊎ ((q ≡ p) × Carries {T = T} i (Open (starts.Loan start) [])) =
          λ i q e. ⊎_elim (λ old. inl old)
          (λ new. inr (new.0, subst (λ n. Carries {T = T} n (Open (starts.Loan start) [])) (sym new.1) carries))
          (moved_or_not i q e) in
          grind (arith, moves_it)

  -- ---- calls of the sender, while no reclaim is under way

  module _ (idle : reclaims_in (span_of 0 s.events) ≡ false) where
    -- no reclaim is under way
    quiet : is_reclaiming s.events ≡ false
    quiet = holds_now.reclaiming ∙ idle

    -- where no reclaim is under way, none is after the begin of a call that is no reclaim
    not_reclaiming : (start : LoanStart) → reclaims_in {T = T} (Open (starts.Loan start) []) ≡ false
        → is_reclaiming s.events ≡ reclaims_in (span_of 0 (s.events ++ Begun 0 (starts.Loan start) ∷ []))
    not_reclaiming = grind (arith, quiet, span_of-own)

    -- a loan has the fields of `IsFirst`
    pub loan_first : First 0 calls.Loan (loan_of slots)
    loan_first =
        asks_none 0 calls.Loan refl (loan_of slots) (record {
          asks = refl;
          light = refl;
          calm = refl;
          begins = refl;
          reclaiming = not_reclaiming calls.Loan refl;
          at = (refl, refl, refl, tt);
          knows = refl;
        })

    -- a take-back has the fields of `IsFirst`
    pub take_back_first : First 0 calls.TakeBack (take_back_of slots queue)
    take_back_first =
        asks_none 0 calls.TakeBack refl (take_back_of slots queue) (record {
          asks = refl;
          light = refl;
          calm = refl;
          begins = refl;
          reclaiming = not_reclaiming calls.TakeBack refl;
          at = (refl, refl, refl, refl, omega arith);
          knows = refl;
        })

    module _ (index : ℕ) (below : index < slots) (has : spot_of index s.events ≡ With 0) where
      -- each index is where the book and the events say, once the sender's index is in passing
      placed_then : (start : LoanStart) → move_of {T = T} (Begun 0 (starts.Loan start)) ≡ Some (record { index = index; from = With 0; to = Passing 0 })
          → Placed slots s.claims s.submission.waiting s.completion.waiting (taken_from s.book (Some index))
          (s.events ++ Begun 0 (starts.Loan start) ∷ [])
      placed_then start move_is =
          sender_begins holds_now.parts.placed index below start move_is has

      -- a give-up has the fields of `IsFirst`
      pub give_up_first : First 0 (calls.GiveUp index) (give_up_of slots index)
      give_up_first =
          let opens : Opens 0 (calls.GiveUp index) (Some index) (give_up_of slots index) =
          record {
            asks = refl;
            light = refl;
            calm = refl;
            begins = refl;
            reclaiming = not_reclaiming (calls.GiveUp index) refl;
            at = (refl, refl, refl, refl, (below, now_passes 0 (calls.GiveUp index) index refl has));
            knows = refl;
          } in
          asks_one 0 (calls.GiveUp index) index refl has opens below (refl, refl) (placed_then (calls.GiveUp index) refl)

      -- a send at its first stage
      abbrev pub send_at : LoanFlight
      send_at =
          Send (record {
            call = record { slots = slots; queue = queue; stage = sends.Pushes overflow_pushes.LoadsWrite };
            given = index;
            room = tt;
          })

      -- a send has the fields of `IsFirst`
      pub send_first : 1 ≤ queue → First 0 (calls.Send index) send_at
      send_first some =
          let opens : Opens 0 (calls.Send index) (Some index) send_at =
          record {
            asks = refl;
            light = refl;
            calm = refl;
            begins = refl;
            reclaiming = not_reclaiming (calls.Send index) refl;
            at = (refl, refl, refl, refl, refl, (some, (below, now_passes 0 (calls.Send index) index refl has)));
            knows = refl;
          } in
          asks_one 0 (calls.Send index) index refl has opens below (inl (refl, refl)) (placed_then (calls.Send index) refl)

    -- the reclaim at its first stage
    abbrev pub reclaim_at : LoanFlight
    reclaim_at = Reclaim (record { slots = slots; queue = queue; stage = reclaims.Drains overflow_pops.LoadsRead })

    -- a reclaim has the fields of `IsFirst`, where the receiver has died and the sender has no call under way
    pub reclaim_first : IsShut (span_of 0 s.events) → has_died s.book.receiver s.book.dead ≡ true → First 0 calls.Reclaim reclaim_at
    reclaim_first shut dead =
        let few = waits_few holds_now.parts.placed in
        let stands : ReclaimAt slots queue (began 0 calls.Reclaim None) [] (reclaims.Drains overflow_pops.LoadsRead) =
        record {
          dead = dead;
          sent =
              λ index e. absurd
              (shut_none index (span_of 0 s.events) shut (holds_now.passing index 0 (sym (stays_put 0 calls.Reclaim refl index) ∙ e)));
          claims = refl;
          publishes = refl;
          gives = refl;
          acts = refl;
          stage_at = (tt, (omega arith), refl, refl);
        } in
        asks_none 0 calls.Reclaim refl reclaim_at (record {
          asks = refl;
          light = refl;
          calm = refl;
          begins = refl;
          reclaiming = sym (ap reclaims_in (span_of-own 0 s.events (Begun 0 (starts.Loan calls.Reclaim) ∷ []) (refl, tt)));
          at = (refl, refl, refl, stands);
          knows = refl;
        })

  -- ---- calls of the receiver

  module _ (p : ℕ) (is_receiver : p ≡ s.book.receiver) where
    -- the receiver is not the sender
    other : p ≢ 0
    other = (receiver_is p is_receiver).0

    -- whether a reclaim is under way is as before the begin
    as_before : (start : LoanStart) → is_reclaiming s.events ≡ reclaims_in (span_of 0 (s.events ++ Begun p (starts.Loan start) ∷ []))
    as_before start =
        holds_now.reclaiming ∙ sym (ap reclaims_in (span_of-other p 0 s.events (Begun p (starts.Loan start) ∷ []) (λ z. other (sym z)) (refl, tt)))

    -- a receive at its first stage
    abbrev pub receive_at : LoanFlight
    receive_at =
        Receive p
        (record {
          call = record { base = submission_word slots; call = record { capacity = queue; stage = overflow_pops.LoadsRead } };
          given = tt;
          room = fresh;
        })

    -- a receive has the fields of `IsFirst`
    pub receive_first : 1 ≤ queue → First p calls.Receive receive_at
    receive_first some =
        asks_none p calls.Receive refl receive_at (record {
          asks = refl;
          light = refl;
          calm = refl;
          begins = (receiver_is p is_receiver).1;
          reclaiming = as_before calls.Receive;
          at = (other, refl, refl, refl, refl, λ alive. (is_receiver, some));
          knows = omega arith;
        })

    -- a give-back has the fields of `IsFirst`, of an index of the channel that the receiver has
    pub give_back_first : (index : ℕ) → index < slots → spot_of index s.events ≡ With p → First p (calls.GiveBack index) (give_back_of slots queue p index)
    give_back_first index below has =
        let receives = receiver_is p is_receiver in
        let opens : Opens p (calls.GiveBack index) (Some index) (give_back_of slots queue p index) =
        record {
          asks = refl;
          light = refl;
          calm = refl;
          begins = receives.1;
          reclaiming = as_before (calls.GiveBack index);
          at = (
            other,
            refl,
            refl,
            refl,
            refl,
            refl,
            omega arith,
            λ alive. (is_receiver, (below, now_passes p (calls.GiveBack index) index refl has), tt),
          );
          knows = refl;
        } in
        asks_one p (calls.GiveBack index) index refl has opens below (refl, refl)
        (receiver_begins holds_now.parts.placed index below p other receives.1 has)
