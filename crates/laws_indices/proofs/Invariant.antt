-- What holds of the machine of a unique index set between any two turns beside what the frame says of every machine, and
-- what a turn must show to keep it.
use Rattle.std.proofs.Common.{◌≡◌, ◌≢◌, ℕ, ◌+◌, ◌<◌, ◌≤◌, if◌then◌else◌, false, nat_lt, Option, Some}
use Rattle.std.proofs.Common.{None, List, [], ◌++◌, fold, refl, ap, ◌∙◌, arith}
use Rattle.laws_indices.proofs.Names.{fold-append, says_locked, NoIndex, Event, Finished, Start, Flight}
use Rattle.laws_indices.proofs.Names.{IndexFlight, Party, Coding, CountsRight, GoesStraight, party_of, put}
use Rattle.laws_indices.proofs.Names.{doing_of, flight_of, Scene}
use Rattle.steps.specs.declared.indices.enums.UniqueIndexSetAcquireFailure.TheVariants.{OutOfIndices}
use Rattle.model.specs.declared.event.Answer.TheVariants.{Number}
use Rattle.model.specs.declared.event.Start.TheVariants as any_starts
use Rattle.model.specs.declared.families.Flight.TheVariants as flights
use Rattle.model.specs.declared.families.Registry.TheVariants as registries
use Rattle.model.specs.declared.families.indices.IndexStart.TheVariants.{Acquire, BorrowedIndices}
use Rattle.model.specs.declared.turn.Kind.TheVariants as kinds
use Rattle.model.specs.Families.Indices.Promises.{HoldsRight, AnswersRight, promise}
use Rattle.model.specs.Families.Indices.Reading.{holder_after, holder_of, locked_after, is_locked, Tally, tally_after, tally_of, in_use}
use Rattle.model.specs.Reading.{Each}
use Rattle.model.proofs.Family as families
use Rattle.model.proofs.Family.{Outline}
use Rattle.model.proofs.Frame.{Family}
use Rattle.model.proofs.Parties.{found_each}
use Rattle.model.proofs.Readings.{AreRight, Each-append}
use Rattle.laws_indices.proofs.Core.{head_of, holder, held_below, Good}
use Rattle.laws_indices.proofs.Knows.{counts, takes, gives, flight_wrote, number_of, At, FlightKnows, IsSeen}
use Rattle.laws_indices.proofs.Totals.{weight_of, weight_at, total, total_put, total_longer}

-- the state of the set: its words, who holds each index, and a bound on the parties that have begun a call
pub record IndexSet : Type 0 where
  pub words : List ℕ
  pub holders : List (Option ℕ)
  pub seats : ℕ  -- the parties from this number on have begun no call

-- the bound `seats`, raised to have room for the party `p`
abbrev pub seats_with : ℕ → ℕ → ℕ
seats_with seats p = if nat_lt p seats then seats else p + 1

-- the tally of the set: how many indices are held, and how many calls are taking one or giving one back
abbrev pub tally_with : ℕ → List (Option ℕ) → ℕ → ℕ → Tally
tally_with c holders taking giving =
    record { held = held_below holders c; taking = taking; giving = giving }

module _ {T : Type 0} where
  -- ---- what the calls under way count for

  -- a number of a call of a machine: that of the call on the indices, else 0
  abbrev pub of_any : (IndexFlight → ℕ) → Flight T → ℕ
  of_any weight (flights.Indices flight) = weight flight
  of_any weight flight = 0

  -- how many calls under way are counted in the head
  abbrev pub all_counted : List (ℕ × Party T) → ℕ → ℕ
  all_counted latest n = total (of_any counts) latest n

  -- how many calls under way are acquires
  abbrev pub all_taking : List (ℕ × Party T) → ℕ → ℕ
  all_taking latest n = total (of_any takes) latest n

  -- how many calls under way are releases that have cleared their flag
  abbrev pub all_giving : List (ℕ × Party T) → ℕ → ℕ
  all_giving latest n = total (of_any gives) latest n

  -- What is proved of answers beyond the promise: an acquire that answers that no index is left finds no
  -- lock, and the number of borrowed indices is at most the capacity.
  abbrev pub AnswersFew : ℕ → List (Event T) → Event T → Type 0
  AnswersFew c before (Finished p (any_starts.Indices Acquire) (NoIndex OutOfIndices)) =
      (c + 1 ≤ in_use (tally_of before)) × (is_locked before ≡ false)
  AnswersFew c before (Finished p (any_starts.Indices BorrowedIndices) (Number number)) = CountsRight before number × (number ≤ c)
  AnswersFew c before e = AnswersRight c before e

  -- What holds of the set between any two turns: of its state, of the parties' latest
  -- calls, and of the events.
  pub record Holds (c : ℕ) (s : IndexSet) (latest : List (ℕ × Party T)) (events : List (Event T)) : Type 0 where
    pub bounded : (p : ℕ) (x : Party T) → party_of p latest ≡ Some x → p < s.seats
    pub good : Good c s.words s.holders (all_counted latest s.seats)
    -- the events tell the tally, the holders, and whether the set is locked
    pub tally : tally_of events ≡ tally_with c s.holders (all_taking latest s.seats) (all_giving latest s.seats)
    pub holders : (i : ℕ) → holder_of i events ≡ holder s.holders i
    pub lock : is_locked events ≡ says_locked (head_of s.words)
    -- calls without a loop have not turned back, and each hold and each answer is right
    pub straight : (p : ℕ) (x : Party T) → party_of p latest ≡ Some x → GoesStraight x.start x.backs
    pub holds : Each (HoldsRight c) events
    pub answers : Each (AnswersFew c) events

  -- ---- the family of the unique index set

  -- what a call of a machine has written, if it is on the indices
  abbrev pub any_wrote : ℕ → Flight T → List (Event T)
  any_wrote p (flights.Indices flight) = flight_wrote p flight
  any_wrote p flight = []

  abbrev number : ℕ → Flight T → ℕ → ℕ
  number c (flights.Indices flight) backs = number_of c flight backs
  -- where the party's call of the set stands; there is no call of another family
  number c flight backs = 0

  -- where a call of a machine stands, if it is on the indices
  abbrev pub FlightAt : ℕ → List (Option ℕ) → ℕ → Start T → Flight T → Type 0
  FlightAt c holders p (any_starts.Indices start) (flights.Indices flight) = At c holders p start flight
  FlightAt c holders p start flight = ⊥

  -- what the party's call knows of the words and the counts
  abbrev pub Knowing : ℕ → List ℕ → ℕ → ℕ → ℕ → Flight T → Type 0
  Knowing c words since changes backs (flights.Indices flight) = FlightKnows c words since changes backs flight
  Knowing c words since changes backs flight = ⊥

  -- the state of the set after a turn that leaves these words and holders
  abbrev pub set_then : Scene T IndexSet → List ℕ → List (Option ℕ) → IndexSet
  set_then scene words holders =
      record { words = words; holders = holders; seats = seats_with scene.state.seats scene.party }

  -- What a turn shows of the set, where it leaves the state `s'`, its party becomes `y` and had the call
  -- `was` under way, if any, and it writes the events `es`.
  pub record Preserves (scene : Scene T IndexSet) (s' : IndexSet) (was : Option (Flight T)) (y : Party T) (es : List (Event T)) (changes' : ℕ) : Type 0 where
    pub seats : s'.seats ≡ seats_with scene.state.seats scene.party
    -- what the events say is right
    pub right : AreRight (HoldsRight scene.capacity) scene.events es
    pub answers : AreRight (AnswersFew scene.capacity) scene.events es
    -- the words are right, with the number of busy calls as the party's call changes it
    pub good : (busy' : ℕ) → busy' + weight_of (of_any counts) was
        ≡ all_counted scene.latest scene.state.seats + weight_of (of_any counts) (flight_of (Some y.doing))
        → Good scene.capacity s'.words s'.holders busy'
    -- the events change the tally as the party's call does
    pub tally : (taking' giving' : ℕ)
        → taking' + weight_of (of_any takes) was
        ≡ all_taking scene.latest scene.state.seats + weight_of (of_any takes) (flight_of (Some y.doing))
        → giving' + weight_of (of_any gives) was ≡ all_giving scene.latest scene.state.seats + weight_of (of_any gives) (flight_of (Some y.doing))
        → fold tally_after (tally_with scene.capacity scene.state.holders (all_taking scene.latest scene.state.seats)
        (all_giving scene.latest scene.state.seats))
        es
        ≡ tally_with scene.capacity s'.holders taking' giving'
    -- the events say who holds each index, and whether the set is locked
    pub holders : (i : ℕ) → fold (holder_after i) (holder scene.state.holders i) es ≡ holder s'.holders i
    pub lock : fold locked_after (says_locked (head_of scene.state.words)) es ≡ says_locked (head_of s'.words)
    -- a call without a loop does not turn back, the changes of words are counted, and no other
    -- party loses an index
    pub straight : GoesStraight y.start y.backs
    pub seen : IsSeen scene.state.words s'.words scene.changes changes'
    pub keeps : (q : ℕ) → q ≢ scene.party → (index : ℕ) → holder scene.state.holders index ≡ Some q → holder s'.holders index ≡ Some q

  -- the unique index set as a family: what a state is, what holds of it, and what each call knows
  abbrev pub outline : Outline T
  outline =
      record {
        kind = kinds.Indices;
        no_loan = refl;
        promise = promise;
        State = IndexSet;
        words = λ s. s.words;
        kept = λ s. registries.Indices s.holders;
        Holds = λ code c s latest events turns. Holds c s latest events;
        written = λ c s p flight. any_wrote p flight;
        number = λ code c. number c;
        At = λ code c s p start flight. FlightAt c s.holders p start flight;
        Knows = λ code c s p events since changes backs flight. Knowing c s.words since changes backs flight;
        Preserves = λ scene s' was y es changes'. Preserves scene s' was y es changes';
      }

  abbrev pub family : Coding T → ℕ → Family T
  family = families.family outline

  -- the turn preserves what holds of the set (`preserves`), and that held before (`holds_now`)
  module _ {scene : Scene T IndexSet} {s' : IndexSet} {was : Option (Flight T)} {y : Party T} {es : List (Event T)} {changes' : ℕ}
      (flight_is : flight_of (doing_of (party_of scene.party scene.latest)) ≡ was) (preserves : Preserves scene s' was y es changes')
      (holds_now : Holds scene.capacity scene.state scene.latest scene.events) where
    open scene use {capacity as c, state as set, party as p, latest as latest, events as events}

    -- the latest calls after the turn
    abbrev pub latest' : List (ℕ × Party T)
    latest' = put p y latest

    abbrev pub seats' : ℕ
    seats' = s'.seats

    -- the seats are no fewer after the turn, and the party has one of them
    enough : (set.seats ≤ seats') × (p < seats')
    enough = let same = preserves.seats in grind arith

    -- a party beyond the seats has no call
    no_call : (q : ℕ) → set.seats ≤ q → party_of q latest ≡ None
    no_call = grind arith

    -- the sum over the calls under way changes as the party's own call does
    weight_moves : (weight : IndexFlight → ℕ)
        → total (of_any weight) latest' seats' + weight_of (of_any weight) was
        ≡ total (of_any weight) latest set.seats + weight_of (of_any weight) (flight_of (Some y.doing))
    weight_moves weight =
        let puts = total_put (of_any weight) latest p y seats' enough.1 in
        let grows = total_longer (of_any weight) latest set.seats seats' enough.0 no_call in
        let before : weight_at (of_any weight) latest p ≡ weight_of (of_any weight) was = ap (weight_of (of_any weight)) flight_is in
        omega arith

    -- what holds of the call of each party, and of the party's new call, holds of each call afterwards
    of_each : (P : ℕ → Party T → Type 0) → P p y → ((q : ℕ) (x : Party T) → party_of q latest ≡ Some x → P q x)
        → (q : ℕ) (x : Party T) → party_of q latest' ≡ Some x → P q x
    of_each P mine theirs = found_each P p y latest mine (λ q x ne. theirs q x)

    -- what holds of the set before a turn holds after it, where the turn preserves it
    pub holds_more : Holds c s' latest' (events ++ es)
    holds_more =
        record {
          bounded = of_each (λ q x. q < seats') enough.1 (λ q x found. let below = holds_now.bounded q x found in let low = enough.0 in omega arith);
          good = preserves.good (all_counted latest' seats') (weight_moves counts);
          tally =
              fold-append tally_after (record { held = 0; taking = 0; giving = 0 }) events es
              ∙ (ap (λ z. fold tally_after z es) holds_now.tally
              ∙ preserves.tally (all_taking latest' seats') (all_giving latest' seats') (weight_moves takes) (weight_moves gives));
          holders = λ i. fold-append (holder_after i) None events es ∙ (ap (λ o. fold (holder_after i) o es) (holds_now.holders i) ∙ preserves.holders i);
          lock = fold-append locked_after false events es ∙ (ap (λ b. fold locked_after b es) holds_now.lock ∙ preserves.lock);
          straight = of_each (λ q x. GoesStraight x.start x.backs) preserves.straight holds_now.straight;
          holds = Each-append (HoldsRight c) events es holds_now.holds preserves.right;
          answers = Each-append (AnswersFew c) events es holds_now.answers preserves.answers;
        }
