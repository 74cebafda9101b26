-- The begin of a call of a loan channel keeps the invariant, where the call is at its
-- first stage (`IsFirst`).
use Rattle.laws_loan.proofs.Names.{◌≡◌, ◌≢◌, ℕ, ◌+◌, ◌⊎◌, ⊎_elim, Option, Some, None, List, [], ◌∷◌}
use Rattle.laws_loan.proofs.Names.{◌++◌, refl, sym, ap, subst, append-nil, cases_eq, fold-append, Event, Begun}
use Rattle.laws_loan.proofs.Names.{Flight, Book, LoanStart, LoanFlight, Party, Coding, asks_for, taken_from}
use Rattle.laws_loan.proofs.Names.{MovesRight, BeginsRight, Passing, spot_of, receiver_after, receiver_of}
use Rattle.laws_loan.proofs.Names.{reclaims_after, put, doing_of, flight_of, Span, Open, span_of, IsShut}
use Rattle.laws_loan.proofs.Names.{party_at_begin, party_put_same, party_put_other, span_of-own, span_of-other}
use Rattle.std.proofs.Common.{arith}
use Rattle.model.specs.declared.event.Start.TheVariants as starts
use Rattle.model.specs.declared.families.Flight.TheVariants as flights
use Rattle.model.specs.Parties.{party_of}
use Rattle.model.proofs.Frame as frame
use Rattle.laws_loan.proofs.Channel.{Channel, Holds}
use Rattle.laws_loan.proofs.Invariant.{sends_at, counted_for, hung, reclaims_in, Carries, HoldsNow, family}
use Rattle.laws_loan.proofs.Keeping.{at_stays}
use Rattle.laws_loan.proofs.Knows.{counts, wrote_in, At, FlightKnows}
use Rattle.laws_loan.proofs.Placed.{Placed}
use Rattle.laws_loan.proofs.Sender.{OwnTurn, owes_by}
use Rattle.laws_loan.proofs.QueueEvents.{items, is_reclaiming}
use Rattle.laws_loan.proofs.Turns.{Shows, now_more}

-- a call that has ended, or that was never made, carries no index in passing
pub shut_none : {T : Type 0} (index : ℕ) (span : Span T) → IsShut span → Carries index span → ⊥
shut_none = grind arith

-- a loan channel between two turns, and what holds of it there
pub record Between (T : Type 0) : Type 0 where
  pub coding : Coding T
  pub slots : ℕ  -- the number of indices
  pub queue : ℕ  -- the capacity of the submission queue
  pub state : Channel T
  pub latest : List (ℕ × Party T)  -- each party with its latest call
  pub turns : ℕ  -- taken so far
  pub changes : ℕ  -- how often words have changed so far
  pub holds : HoldsNow slots queue state latest state.events turns

-- the party `p` begins the call `start`, whose first stage is to be `flight`
module _ {T : Type 0} (now : Between T) (p : ℕ) (start : LoanStart) (flight : LoanFlight) where
  open now use {coding as code, slots, queue, state as s, latest, turns, changes, holds}

  abbrev channel : frame.Family T
  channel = family code slots queue

  abbrev pub begun : Event T
  begun = Begun p (starts.Loan start)

  -- the events with the begin
  abbrev pub events_then : List (Event T)
  events_then = s.events ++ Begun p (starts.Loan start) ∷ []

  -- the book once the call has begun: the index that it asks for is with nobody
  abbrev pub book_then : Book
  book_then = taken_from s.book (asks_for start)

  -- the channel once the call has begun
  abbrev pub after : Channel T
  after = record s { book = book_then; events = events_then }

  -- the party once the call has begun
  abbrev pub began : Party T
  began = party_at_begin (starts.Loan start) (flights.Loan flight) changes

  -- What a begin shows of its call: its party may begin it, and the index that it moves no
  -- other call has in passing.
  pub record IsFirst : Type 0 where
    -- each index is where the book and the events say, and only the holder of the index that the call asks
    -- for changes in the book
    pub placed : Placed slots s.claims s.submission.waiting s.completion.waiting book_then events_then
    pub queue_stays : book_then.queue ≡ s.book.queue
    pub places_stay : book_then.places ≡ s.book.places
    pub receiver_stays : book_then.receiver ≡ s.book.receiver
    pub dead_stay : book_then.dead ≡ s.book.dead
    -- the call counts nothing in the head and is no send that waits, and the begin is right
    pub light : counts flight ≡ 0
    pub calm : hung {T = T} s.submission.read (Some (flights.Loan flight)) ≡ None
    pub moves : MovesRight slots s.events begun
    pub begins : BeginsRight s.events begun
    pub reclaiming : reclaims_after (is_reclaiming s.events) begun ≡ reclaims_in (span_of 0 events_then)
    -- what was in passing is still in passing, and what is now is in this call, or was before
    pub stays : (index q : ℕ) → spot_of index s.events ≡ Passing q → spot_of index events_then ≡ Passing q
    pub passing : (index q : ℕ) → spot_of index events_then ≡ Passing q
        → (spot_of index s.events ≡ Passing q) ⊎ ((q ≡ p) × Carries {T = T} index (Open (starts.Loan start) []))
    -- the call stands at its first stage, and knows what the stage says
    pub at : At slots queue after p [] start flight
    pub knows : FlightKnows slots queue after changes changes 0 flight

  -- the invariant `inv` holds before the begin, the party has no call under way, and the call is at its first stage
  module _ (inv : frame.Inv channel s latest s.events changes)
      (free : flight_of (doing_of (party_of p latest)) ≡ None) (first : IsFirst) where
    -- the party has no call under way
    shut : IsShut (span_of p s.events)
    shut = grind arith

    -- the span of the party that begins is open with nothing written
    mine_opens : span_of p events_then ≡ Open (starts.Loan start) []
    mine_opens = span_of-own p s.events (begun ∷ []) (refl, tt)

    -- the spans of the other parties stay
    theirs_stays : (q : ℕ) → q ≢ p → span_of q events_then ≡ span_of q s.events
    theirs_stays q ne = span_of-other p q s.events (begun ∷ []) ne (refl, tt)

    -- what is read of the sender's call is unchanged, as the sender had none under way, or
    -- another party begins
    weighs_same : {A : Type 0} (f : Option (Flight T) → A) → f (Some (flights.Loan flight)) ≡ f None
        → f (sends_at (put p began latest)) ≡ f (sends_at latest)
    weighs_same {A} f e = ⊎_elim mine other (cases_eq p 0)
      where
        -- a begin of the sender leaves what `f` says of the sender's call
        mine : p ≡ 0 → f (sends_at (put p began latest)) ≡ f (sends_at latest)
        mine = grind (arith, sends_at, put, party_put_same)

        -- a begin of another party leaves the call of the sender
        other : p ≢ 0 → f (sends_at (put p began latest)) ≡ f (sends_at latest)
        other ne = ap (λ o. f (flight_of (doing_of o))) (party_put_other 0 p began latest (λ z. ne (sym z)))

    -- an index that is in passing is still carried by the span of its party's call
    still_carried : (index q : ℕ) → spot_of index s.events ≡ Passing q → Carries index (span_of q events_then)
    still_carried = grind (arith, shut_none, shut, theirs_stays, cases_eq)

    -- the three parts of the channel hold what they held, with the sender's call counted as it then is
    parts_then : Holds slots queue after (counted_for (sends_at (put p began latest)))
    parts_then =
        let light = weighs_same counted_for first.light in
        let placed = first.placed in
        let queue_stays = first.queue_stays in
        grind arith

    -- a begin leaves the receiver
    same_receiver : receiver_of events_then ≡ receiver_of s.events
    same_receiver = fold-append receiver_after 1 s.events (begun ∷ [])

    -- the begin keeps what holds between two turns (`Shows`, Turns)
    pub shows : Shows slots queue s after p began latest turns (begun ∷ [])
    shows =
        let sent = holds.sent in
        let given = holds.given in
        let same = same_receiver in
        let calm = weighs_same (hung s.submission.read) first.calm in
        let reclaiming = first.reclaiming in
        let moves = first.moves in
        let begins = first.begins in
        let passing : (i q : ℕ) → spot_of i events_then ≡ Passing q → Carries i (span_of q events_then) =
        λ i q e. ⊎_elim (λ old. still_carried i q old)
        (λ new. rw new.0 (subst (Carries i) (sym mine_opens) new.1))
        (first.passing i q e) in
        grind (arith, parts_then, append-nil, items)

    -- the begin gives the frame what it asks of a turn
    pub owes : frame.Owes channel after p began latest s.events (begun ∷ []) changes
    owes =
        let turn : OwnTurn T =
        record {
          coding = code;
          slots = slots;
          queue = queue;
          before = s;
          after = after;
          changes = changes;
          changes_then = changes;
          party = p;
          party_then = began;
          from = span_of p s.events;
          told = begun ∷ [];
          events = refl;
          own = (refl, tt);
          stands = (shut, tt);
          here =
              record {
                span = ap (λ wrote. Open (starts.Loan start) wrote) (sym (ap wrote_in mine_opens));
                steps = omega arith;
                at = subst (λ wrote. At slots queue after p wrote start flight) (sym (ap wrote_in mine_opens)) first.at;
              };
          knows = first.knows;
          at_others =
              λ q ne.
              at_stays slots queue s book_then events_then q
              (record {
                passes = λ index e. first.stays index q e;
                no_more = λ index e. ⊎_elim (λ (old : spot_of index s.events ≡ Passing q). old) (λ new. absurd (ne new.0)) (first.passing index q e);
                places = first.places_stay;
                receiver = first.receiver_stays;
                alive = λ alive. rw (← first.dead_stay) alive;
                dead = λ dead. rw first.dead_stay dead;
              });
          up = record { write = omega arith; read = omega arith; paid = omega arith };
        } in
        owes_by turn refl inv

    -- what holds between two turns holds after the begin
    pub holds_then : HoldsNow slots queue after (put p began latest) events_then (turns + 1)
    holds_then = now_more holds shows
