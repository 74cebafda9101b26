-- A begin that no row refuses keeps what holds of a loan channel.
use Rattle.laws_loan.proofs.Names.{◌≡◌, ℕ, ◌+◌, ◌≤◌, ◌==◌, Bool, false, not, Some, None, [], ◌∷◌, ◌++◌, get_or}
use Rattle.laws_loan.proofs.Names.{refl, sym, ap, subst, ◌∙◌, nat_tests, submission_word, Begun, Start, Flight, Book}
use Rattle.laws_loan.proofs.Names.{LoanStart, LoanFlight, Send, Receive, Reclaim, Coding, first_of}
use Rattle.laws_loan.proofs.Names.{kept_after_begin, first, loan_of, send_of, give_up_of, take_back_of, receive_of}
use Rattle.laws_loan.proofs.Names.{give_back_of, reclaim_of, has_died, call_rows, kept_rows, is_past, asks_for}
use Rattle.laws_loan.proofs.Names.{lacks_role, lacks_index, reclaims_early, fresh, holds, span_of, first_row, IsShut}
use Rattle.laws_loan.proofs.Names.{party_at_begin, Trace, MayBegin}
use Rattle.std.proofs.Common.{arith}
use Rattle.steps.specs.declared.loan.reclaim.ReclaimStage.TheVariants as reclaims
use Rattle.steps.specs.declared.loan.send.SendStage.TheVariants as sends
use Rattle.steps.specs.declared.queues.overflow.PopStage.TheVariants as overflow_pops
use Rattle.steps.specs.declared.queues.overflow.PushStage.TheVariants as overflow_pushes
use Rattle.model.specs.declared.event.Start.TheVariants as starts
use Rattle.model.specs.declared.families.Flight.TheVariants as flights
use Rattle.model.specs.declared.families.Registry.TheVariants as registries
use Rattle.model.specs.declared.families.loan.LoanStart.TheVariants as calls
use Rattle.model.specs.declared.turn.Kind.TheVariants as kinds
use Rattle.model.specs.declared.turn.Refusal.TheVariants.{BadIndex, NoRole, NotHeld, OwnerIsDead, OwnerLives}
use Rattle.model.specs.Parties.{party_of}
use Rattle.model.proofs.Frame as frame
use Rattle.laws_loan.proofs.Begins.{Between, IsFirst, after, holds_then, owes}
use Rattle.laws_loan.proofs.Channel.{kept_is}
use Rattle.laws_loan.proofs.Firsts.{is_that, is_below, has_it, loan_first, take_back_first, give_up_first, send_first}
use Rattle.laws_loan.proofs.Firsts.{reclaim_first, receive_first, give_back_first}
use Rattle.laws_loan.proofs.Invariant.{reclaims_in, HoldsNow, family}

-- five rows, none of which refuses
pub rows_passed : (a b c d e : Bool) → first_row ((a, BadIndex) ∷ (b, NoRole) ∷ (c, NotHeld) ∷ (d, OwnerIsDead) ∷ (e, OwnerLives) ∷ []) ≡ None
    → (a ≡ false) × (b ≡ false) × (c ≡ false) × (d ≡ false) × (e ≡ false)
rows_passed = grind arith

-- ---- on a queue with a capacity a call begins with a load

-- ---- as the submission queue has a capacity, each call on it begins with a load
module _ (slots queue : ℕ) (some : 1 ≤ queue) where
  -- the capacity of the submission queue is not 0
  loads_first : (queue == 0) ≡ false
  loads_first = grind (arith, nat_tests)

  -- a send begins with the load of the write position of the submission queue
  send_is : (index : ℕ) → send_of slots queue index ≡ Send (record {
    call = record { slots = slots; queue = queue; stage = sends.Pushes overflow_pushes.LoadsWrite };
    given = index;
    room = tt;
  })
  send_is index = rw loads_first refl

  -- a receive begins with the load of the read position of the submission queue
  receive_is : (p : ℕ) → receive_of slots queue p ≡ Receive p (record {
    call = record { base = submission_word slots; call = record { capacity = queue; stage = overflow_pops.LoadsRead } };
    given = tt;
    room = fresh;
  })
  receive_is p = rw loads_first refl

  -- a reclaim begins with a pop of the submission queue
  reclaim_is : reclaim_of slots queue
      ≡ Reclaim (record { slots = slots; queue = queue; stage = reclaims.Drains overflow_pops.LoadsRead })
  reclaim_is = rw loads_first refl

-- the channel is between two turns, and the party `p` has no call under way
module _ {T : Type 0} (now : Between T) (p : ℕ) (shut : IsShut (span_of p now.state.events)) where
  open now use {slots, queue, state as s, holds as holds_now}

  -- what a begin has to show of the first stage of its call
  abbrev First : LoanStart → LoanFlight → Type 0
  First start flight = IsFirst now p start flight

  -- a call of the sender may begin, where the sender has no other call under way
  as_sender : (start : LoanStart) (flight : LoanFlight) → not (p == 0) ≡ false
      → (p ≡ 0 → IsShut (span_of 0 s.events) → reclaims_in (span_of 0 s.events) ≡ false
      → IsFirst now 0 start flight)
      → First start flight
  as_sender = grind arith

  -- the sender has the index that its call asks for
  mine : (index : ℕ) → p ≡ 0 → not (holds (get_or s.book.holders index None) p) ≡ false → not (holds (get_or s.book.holders index None) 0) ≡ false
  mine index zero holds_it = rw (← zero) holds_it

  -- what the tests of a begin say where none of them refuses it
  passed : (start : LoanStart) → first_row (call_rows slots s.book p start) ≡ None
      → (is_past slots (asks_for start) ≡ false) × (lacks_role s.book p start ≡ false)
      × (lacks_index s.book p (asks_for start) ≡ false) × (has_died p s.book.dead ≡ false)
      × (reclaims_early s.book start ≡ false)
  passed = grind (arith, rows_passed, asks_for)

  -- where no row refuses the begin, its call stands at its first stage, and the begin is as `First` says
  pub first_is : (start : LoanStart) → first_row (call_rows slots s.book p start) ≡ None → First start (first slots s.book start)
  first_is calls.Loan not_refused =
      let rows = passed calls.Loan not_refused in
      as_sender calls.Loan (loan_of slots) rows.1 (λ zero over idle. loan_first now idle)
  first_is (calls.Send index) not_refused =
      let rows = passed (calls.Send index) not_refused in
      let below = is_below slots index rows.0 in
      subst (First (calls.Send index)) (sym (ap (λ q. send_of slots q index) holds_now.parts.capacity ∙ send_is slots queue holds_now.parts.some index))
      (as_sender (calls.Send index) _ rows.1
      (λ zero over idle. send_first now idle index below
      (has_it now 0 index (mine index zero rows.2)) holds_now.parts.some))
  first_is (calls.GiveUp index) not_refused =
      let rows = passed (calls.GiveUp index) not_refused in
      let below = is_below slots index rows.0 in
      as_sender (calls.GiveUp index) (give_up_of slots index) rows.1
      (λ zero over idle. give_up_first now idle index below
      (has_it now 0 index (mine index zero rows.2)))
  first_is calls.TakeBack not_refused =
      let rows = passed calls.TakeBack not_refused in
      subst (First calls.TakeBack) (sym (ap (take_back_of slots) holds_now.parts.capacity))
      (as_sender calls.TakeBack (take_back_of slots queue) rows.1 (λ zero over idle. take_back_first now idle))
  first_is calls.Receive not_refused =
      let rows = passed calls.Receive not_refused in
      let is_receiver = is_that p s.book.receiver rows.1 in
      subst (First calls.Receive)
      (sym (ap (λ q. receive_of slots q s.book.receiver) holds_now.parts.capacity
      ∙ (ap (receive_of slots queue) (sym is_receiver) ∙ receive_is slots queue holds_now.parts.some p)))
      (receive_first now p is_receiver holds_now.parts.some)
  first_is (calls.GiveBack index) not_refused =
      let rows = passed (calls.GiveBack index) not_refused in
      let is_receiver = is_that p s.book.receiver rows.1 in
      let below = is_below slots index rows.0 in
      subst (First (calls.GiveBack index))
      (sym
      (ap (λ q. give_back_of slots q s.book.receiver index) holds_now.parts.capacity ∙ ap (λ n. give_back_of slots queue n index) (sym is_receiver)))
      (give_back_first now p is_receiver index below
      (has_it now p index rows.2))
  first_is calls.Reclaim not_refused =
      let rows = passed calls.Reclaim not_refused in
      subst (First calls.Reclaim) (sym (ap (reclaim_of slots) holds_now.parts.capacity ∙ reclaim_is slots queue holds_now.parts.some))
      (as_sender calls.Reclaim _ rows.1
      (λ zero over idle. reclaim_first now idle over
      (frame.is_true (has_died s.book.receiver s.book.dead) rows.4)))

-- ---- the law

-- the call of a begin is the one that the table of a loan channel names
abbrev pub IsOwn : {T : Type 0} → ℕ → Book → Start T → Flight T → Type 0
IsOwn slots book (starts.Loan start) (flights.Loan flight) = first slots book start ≡ flight
IsOwn slots book start flight = ⊥

-- each call that a begin of a loan channel leads to is the one that the table names
pub begins_own : {T : Type 0} (slots : ℕ) (book : Book) (start : Start T) (flight : Flight T)
    → first_of kinds.Loan slots start (registries.Loan book) ≡ Some flight
    → IsOwn slots book start flight
begins_own = grind arith

module _ {T : Type 0} (code : Coding T) (slots queue : ℕ) where
  abbrev channel : frame.Family T
  channel = family code slots queue

  -- a begin that the turns admit, and that leads to a call, leaves a machine with the invariant
  pub begin_comes : (t : Trace T) (p : ℕ) (start : Start T) (flight : Flight T) (sound : frame.Sound channel t)
      → MayBegin t.world p start → first_of t.world.kind t.world.capacity start t.world.kept ≡ Some flight
      → frame.Comes channel t p (kept_after_begin t.world.coding t.world.capacity start p t.world.kept)
      t.world.words (party_at_begin start flight t.world.changes) (Begun p start ∷ []) t.world.changes
  begin_comes t p (starts.Loan start) (flights.Loan flight) sound may starts_at =
      let world = t.world in
      let channel_now = sound.state in
      let kept_there = kept_is world.kept world.words channel_now sound.fit in
      let same = sound.holds.same in
      -- what holds before the begin, by the events of the state
      let invariant : HoldsNow slots queue channel_now world.latest channel_now.events world.turns =
      subst (λ es. HoldsNow slots queue channel_now world.latest es world.turns) (sym same) sound.holds in
      let inv : frame.Inv channel channel_now world.latest channel_now.events world.changes =
      subst (λ es. frame.Inv channel channel_now world.latest es world.changes) (sym same) sound.inv in
      let over : IsShut (span_of p channel_now.events) =
      frame.shut channel channel_now p (party_of p world.latest) (span_of p channel_now.events) may.free (inv.calls p) in
      -- no row of the call refuses its begin
      let rows : first_row (kept_rows {T = T} world.capacity start (registries.Loan channel_now.book) p) ≡ None =
      subst (λ kept. first_row (kept_rows {T = T} world.capacity start kept p) ≡ None) kept_there.kept may.rows in
      let passed : first_row (call_rows slots channel_now.book p start) ≡ None =
      subst (λ n. first_row (call_rows n channel_now.book p start) ≡ None) sound.capacity rows in
      let named : first_of {T = T} kinds.Loan world.capacity (starts.Loan start) (registries.Loan channel_now.book)
      ≡ Some (flights.Loan flight) =
      subst (λ kept. first_of {T = T} kinds.Loan world.capacity (starts.Loan start) kept ≡ Some (flights.Loan flight)) kept_there.kept
      (subst (λ kind. first_of {T = T} kind world.capacity (starts.Loan start) world.kept ≡ Some (flights.Loan flight)) sound.kind starts_at)
      in
      -- the call is the one that the table names, and it is at its first stage
      let own : first slots channel_now.book start ≡ flight =
      subst (λ n. first n channel_now.book start ≡ flight) sound.capacity
      (begins_own world.capacity channel_now.book (starts.Loan start) (flights.Loan flight) named) in
      let now : Between T =
      record {
        coding = code;
        slots = slots;
        queue = queue;
        state = channel_now;
        latest = world.latest;
        turns = world.turns;
        changes = world.changes;
        holds = invariant;
      } in
      let known = subst (λ f. IsFirst now p start f) own (first_is now p over start passed) in
      let then_state = after now p start flight in
      subst (λ kept. frame.Comes channel t p (kept_after_begin world.coding world.capacity (starts.Loan start) p kept) world.words
      (party_at_begin (starts.Loan start) (flights.Loan flight) world.changes)
      (Begun p (starts.Loan start) ∷ []) world.changes)
      (sym kept_there.kept)
      (record {
        state = then_state;
        fit = (refl, kept_there.words);
        holds =
            subst (λ es. HoldsNow slots queue then_state _ (es ++ Begun p (starts.Loan start) ∷ []) (world.turns + 1)) same
            (holds_then now p start flight inv may.free known);
        owes =
            subst (λ es. frame.Owes channel then_state p _ world.latest es (Begun p (starts.Loan start) ∷ []) world.changes)
            same (owes now p start flight inv may.free known);
      })
  begin_comes t p start flight sound may starts_at =
      let world = t.world in
      let channel_now = sound.state in
      let kept_there = kept_is world.kept world.words channel_now sound.fit in
      let named : first_of kinds.Loan world.capacity start (registries.Loan channel_now.book) ≡ Some flight =
      subst (λ kept. first_of kinds.Loan world.capacity start kept ≡ Some flight) kept_there.kept
      (subst (λ kind. first_of kind world.capacity start world.kept ≡ Some flight) sound.kind starts_at)
      in
      absurd (begins_own world.capacity channel_now.book start flight named)
