-- What the steps of a reclaim have in common, and what its end leaves.
use Rattle.laws_loan.proofs.Names.{◌≡◌, ℕ, ◌+◌, ◌%◌, ◌^◌, ◌<◌, ◌≢◌, inl, ⊎_elim, false, Option, Some, List, [], ◌∷◌}
use Rattle.laws_loan.proofs.Names.{◌++◌, sym, ap, ◌∙◌, append-nil, cases_eq, flat_map-append}
use Rattle.laws_loan.proofs.Names.{fold-append, ReclaimStage, place_at, Answer, Event, Finished, Book, LoanFlight}
use Rattle.laws_loan.proofs.Names.{Reclaim, KeepsBook, Passing, Spot, Move, move_of, spot_of, receiver_after}
use Rattle.laws_loan.proofs.Names.{receiver_of, Open, span_of}
use Rattle.std.proofs.Common.{arith}
use Rattle.std.specs.List.{flat_map}
use Rattle.steps.specs.declared.loan.places.Place.TheVariants as places
use Rattle.model.specs.declared.event.Start.TheVariants as starts
use Rattle.model.specs.declared.families.Flight.TheVariants as flights
use Rattle.model.specs.declared.families.loan.LoanStart.TheVariants as calls
use Rattle.laws_loan.proofs.Channel.{Channel}
use Rattle.laws_loan.proofs.Invariant.{sends_at}
use Rattle.laws_loan.proofs.Knows.{StageAt, ReclaimAt}
use Rattle.laws_loan.proofs.Lists.{lists_stay}
use Rattle.laws_loan.proofs.Placed.{Placed, placed_on}
use Rattle.laws_loan.proofs.Scene.{Scene, HoldsIn}
use Rattle.laws_loan.proofs.SentIndices.{IsHome, home_by, home_stays}
use Rattle.laws_loan.proofs.Spots.{spot_stays, spot_other, spot_moved}
use Rattle.laws_loan.proofs.Table.{IsAway, sent_there}

-- a reclaim at a stage
abbrev pub reclaim_at : ℕ → ℕ → ReclaimStage → LoanFlight
reclaim_at slots queue stage = Reclaim (record { slots = slots; queue = queue; stage = stage })

-- the sender's reclaim stands at this stage, and has written `wrote`
pub record Reclaims {T : Type 0} (scene : Scene T) (wrote : List (Event T)) (stage : ReclaimStage) : Type 0 where
  -- the invariant before the step
  pub holds : HoldsIn scene
  -- the sender's call is this reclaim, with this span; it knows what its stage says
  pub here : sends_at scene.latest ≡ Some (flights.Loan (reclaim_at scene.slots scene.queue stage))
  pub from : span_of 0 scene.state.events ≡ Open (starts.Loan calls.Reclaim) wrote
  pub known : ReclaimAt scene.slots scene.queue scene.state wrote stage
  -- it has not turned back
  pub straight : scene.caller.backs ≡ 0

-- ---- what a reclaim has written, with one step more

-- events that have nothing of a kind add nothing to none
pub none_more : {A X : Type 0} (f : A → List X) (wrote es : List A) → flat_map f wrote ≡ [] → flat_map f es ≡ [] → flat_map f (wrote ++ es) ≡ []
none_more f wrote es before none = flat_map-append f wrote es ∙ (ap (λ xs. xs ++ flat_map f es) before ∙ none)

-- a reclaim that goes on to a stage by a step that writes nothing knows what the stage says
pub goes_known : {T : Type 0} (slots queue : ℕ) (s : Channel T) (set' : List ℕ) (wrote : List (Event T)) (stage stage' : ReclaimStage)
    → ReclaimAt slots queue s wrote stage → StageAt slots s.submission s.completion s.book.places wrote stage'
    → ReclaimAt slots queue (record s { set = set'; claims = s.claims; book = s.book; events = s.events ++ [] }) wrote stage'
goes_known = grind (arith, append-nil)

-- ---- the reclaim takes an index out of a queue, in which only its own call then has it in passing

-- the reclaim writes the event `e`, which moves the index from a spot away from the sender into passing in the sender's call
module _ {T : Type 0} {slots queue : ℕ} {s : Channel T} {wrote : List (Event T)} {stage : ReclaimStage}
    (at : ReclaimAt slots queue s wrote stage) (keeps : KeepsBook s.book s.events) (e : Event T) (index : ℕ) (spot : Spot)
    (move_is : move_of e ≡ Some (record { index = index; from = spot; to = Passing 0 })) (was : spot_of index s.events ≡ spot)
    (away : IsAway spot) where
  -- the move of the index into the sender's call
  abbrev taking : Move
  taking = record { index = index; from = spot; to = Passing 0 }

  -- any other index stays where it is
  elsewhere : (i : ℕ) → index ≢ i → spot_of i (s.events ++ e ∷ []) ≡ spot_of i s.events
  elsewhere i ne = spot_other s.events e taking move_is i ne

  -- an index in passing in another party's call was in passing before
  pub passing_before : (i q : ℕ) → q ≢ 0 → spot_of i (s.events ++ e ∷ []) ≡ Passing q → spot_of i s.events ≡ Passing q
  passing_before i q theirs now = ⊎_elim
      (λ (same : index ≡ i).
      let both : Passing 0 ≡ Passing q = sym (spot_moved s.events e taking move_is) ∙ (ap (λ n. spot_of n (s.events ++ e ∷ [])) same ∙ now) in
      absurd (theirs (cc)))
      (λ (ne : index ≢ i). sym (elsewhere i ne) ∙ now)
      (cases_eq index i)

  -- an index in passing in the reclaim was sent
  pub passing_sent : (i : ℕ) → spot_of i (s.events ++ e ∷ []) ≡ Passing 0 → place_at s.book.places i ≡ places.Sent
  passing_sent = grind (arith, place_at, sent_there, elsewhere, cases_eq)

-- ---- the end of a reclaim

-- the book after a reclaim, which has the next receiver
abbrev pub reclaimed : Book → Book
reclaimed book = record book { receiver = (book.receiver + 1) % 2 ^ 64 }

-- the end of a reclaim
abbrev pub end_of : {T : Type 0} → Answer T → Event T
end_of answer = Finished 0 (starts.Loan calls.Reclaim) answer

module _ {T : Type 0} (events : List (Event T)) (answer : Answer T) where
  -- the receiver's number goes up by one
  pub receiver_then : receiver_of (events ++ end_of answer ∷ []) ≡ receiver_of events + 1
  receiver_then = fold-append receiver_after 1 events (end_of answer ∷ [])

  module _ (home : (index : ℕ) → IsHome (spot_of index events)) where
    -- no index is in passing after the end of a reclaim
    pub none_passing : {A : Type 0} (index p : ℕ) → spot_of index (events ++ end_of answer ∷ []) ≡ Passing p → A
    none_passing = grind (arith, home_stays, spot_stays)

    -- each index is where the book and the events say, after the end of a reclaim
    pub placed_ended : {slots : ℕ} {claims : List (Option ℕ)} {sent back : List ℕ} {book : Book}
        → Placed slots claims sent back book events → receiver_of events + 1 < 2 ^ 64
        → Placed slots claims sent back (reclaimed book) (events ++ end_of answer ∷ [])
    placed_ended = grind (arith, placed_on, receiver_then, fold-append, false, inl, home_by, lists_stay)
