-- What holds of a loan channel's machine between any two turns beside what the frame says of every machine.
use Rattle.laws_loan.proofs.Names.{◌≡◌, ℕ, ◌+◌, ◌≤◌, ◌⊎◌, Bool, true, false, Option, Some, None, List, [], ◌∷◌, ◌++◌}
use Rattle.laws_loan.proofs.Names.{length, Event, Index, Start, Flight, Send, Party, Coding, MovesRight, BeginsRight}
use Rattle.laws_loan.proofs.Names.{AnswersRight, promise, Passing, spot_of, receiver_of, given_back, taken_back}
use Rattle.laws_loan.proofs.Names.{freed, pending_send, handed_out, doing_of, flight_of, Each, Span, Open, span_of}
use Rattle.laws_loan.proofs.Names.{Core}
use native.Mathlib.Omega.{arith}
use Rattle.model.specs.declared.event.Start.TheVariants as starts
use Rattle.model.specs.declared.families.Flight.TheVariants as flights
use Rattle.model.specs.declared.families.loan.LoanStart.TheVariants as calls
use Rattle.model.specs.declared.turn.Kind.TheVariants as kinds
use Rattle.model.specs.Families.Queues.Reading.{published}
use Rattle.model.specs.Parties.{party_of}
use Rattle.model.specs.Shape.{IsOpen}
use Rattle.model.proofs.Frame.{Family}
use Rattle.laws_loan.proofs.Channel.{Channel, Represents, Holds}
use Rattle.laws_loan.proofs.Knows.{counts, number_of, wrote_in, At, FlightKnows}
use Rattle.laws_loan.proofs.QueueEvents.{is_reclaiming, Told}

-- more indices than the capacity wait in the submission queue only while the send of the newest one has
-- published and not acted
abbrev pub Hangs : ℕ → Core ℕ → Option ℕ → Type 0
Hangs queue k None = length k.waiting ≤ queue
Hangs queue k (Some index) =
    (others : List ℕ) × (k.waiting ≡ others ++ index ∷ []) × (length others ≡ queue)

module _ {T : Type 0} where
  -- ---- the sender's call under way

  -- the call that the sender has under way
  abbrev pub sends_at : List (ℕ × Party T) → Option (Flight T)
  sends_at latest = flight_of (doing_of (party_of 0 latest))

  -- what the sender's call counts for in the head of the indices
  abbrev pub counted_for : Option (Flight T) → ℕ
  counted_for (Some (flights.Loan flight)) = counts flight
  counted_for other = 0

  -- the index with which a send waits for the read position to go on from `read`: the send has published it
  -- over a full queue
  abbrev pub hung : ℕ → Option (Flight T) → Option ℕ
  hung read (Some (flights.Loan (Send run))) = pending_send read run.given run.call.stage
  hung read other = None

  -- the span is that of a reclaim
  abbrev pub reclaims_in : Span T → Bool
  reclaims_in (Open (starts.Loan calls.Reclaim) wrote) = true
  reclaims_in span = false

  -- the call of this span has the index in passing. A send has its own index until it is published, and the
  -- one that it has taken out until that is freed. A reclaim may have any.
  abbrev pub Carries : ℕ → Span T → Type 0
  Carries index (Open (starts.Loan (calls.Send own)) wrote) =
      ((index ≡ own) × (published wrote ≡ [])) ⊎ ((handed_out wrote ≡ Index index ∷ []) × (freed wrote ≡ []))
  Carries index (Open (starts.Loan (calls.GiveUp own)) wrote) = (index ≡ own) × (freed wrote ≡ [])
  Carries index (Open (starts.Loan calls.TakeBack) wrote) = (taken_back wrote ≡ index ∷ []) × (freed wrote ≡ [])
  Carries index (Open (starts.Loan (calls.GiveBack own)) wrote) = (index ≡ own) × (given_back wrote ≡ [])
  Carries index (Open (starts.Loan calls.Reclaim) wrote) = Unit {0}
  Carries index span = ⊥

  -- a party that carries an index has a call under way
  pub carried_open : (index : ℕ) (span : Span T) → Carries index span → IsOpen (λ call. Unit {0}) (λ wrote. Unit {0}) span
  carried_open = grind arith

  -- ---- the channel, the latest calls and the events

  -- What holds of a channel of `slots` slots and capacity `queue` between any two turns, after `turns`
  -- turns; `latest` has the latest call of each party.
  pub record HoldsNow (slots queue : ℕ) (s : Channel T) (latest : List (ℕ × Party T)) (events : List (Event T)) (turns : ℕ) : Type 0 where
    pub same : s.events ≡ events
    -- the parts of the channel, what the events tell of its queues, and how many indices wait in the
    -- submission queue
    pub parts : Holds slots queue s (counted_for (sends_at latest))
    pub told : Told queue s.submission.waiting s.completion.waiting s.events
    pub hangs : Hangs queue s.submission (hung s.submission.read (sends_at latest))
    -- the events say that a reclaim is under way just where the sender's span does
    pub reclaiming : is_reclaiming events ≡ reclaims_in (span_of 0 events)
    -- positions and the receiver's number go up by no more than one a turn
    pub sent : s.submission.write ≤ turns
    pub given : s.completion.write ≤ turns
    pub receivers : (1 ≤ receiver_of events) × (receiver_of events ≤ turns + 1)
    -- each move of an index, each begin and each answer is right
    pub moves : Each (MovesRight slots) events
    pub begins : Each BeginsRight events
    pub answers : Each (AnswersRight slots) events
    -- an index in passing is carried by the span of its party's call
    pub passing : (index p : ℕ) → spot_of index events ≡ Passing p → Carries index (span_of p events)

  -- ---- the family of the loan channel

  -- how many steps a call of a machine has taken at most, if it is one of a channel
  abbrev any_number : ℕ → List (Event T) → Flight T → ℕ → ℕ
  any_number slots wrote (flights.Loan flight) backs = number_of slots wrote flight backs
  any_number slots wrote flight backs = 0

  -- where a call of a machine stands, if it is one of a channel
  abbrev FlightAt : ℕ → ℕ → Channel T → ℕ → List (Event T) → Start T → Flight T → Type 0
  FlightAt slots queue s p wrote (starts.Loan start) (flights.Loan flight) = At slots queue s p wrote start flight
  FlightAt slots queue s p wrote start flight = ⊥

  -- what a call of a machine knows, if it is one of a channel
  abbrev Knowing : ℕ → ℕ → Channel T → ℕ → ℕ → ℕ → Flight T → Type 0
  Knowing slots queue s since changes backs (flights.Loan flight) = FlightKnows slots queue s since changes backs flight
  Knowing slots queue s since changes backs flight = ⊥

  -- the loan channel as a family: what a state is, what holds of it, and what each call knows
  abbrev pub family : Coding T → ℕ → ℕ → Family T
  family code slots queue =
      record {
        coding = code;
        kind = kinds.Loan;
        promise = promise;
        capacity = slots;
        State = Channel T;
        Represents = Represents;
        Holds = λ s latest events turns. HoldsNow slots queue s latest events turns;
        written = λ s p flight. wrote_in (span_of p s.events);
        number = any_number slots;
        At = λ s p start flight. FlightAt slots queue s p (wrote_in (span_of p s.events)) start flight;
        Knows = λ s p events since changes backs flight. Knowing slots queue s since changes backs flight;
      }
