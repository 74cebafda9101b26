-- A find that rests at a stage at which none may rest, or ends with another number than it has come to; and
-- calls that may lock and overlap.
use Rattle.std.proofs.Common.{◌≡◌, ◌≢◌, ℕ, ◌==◌, Bool, true, false, Option, Some, None, List, [], ◌∷◌, ◌++◌, if◌then◌else◌, refl, sym, subst, ◌∙◌}
use Rattle.std.proofs.lemmas.List.{same_from_push}
use Rattle.steps.specs.declared.container.find.FindStage.{FindStage}
use Rattle.steps.specs.declared.container.find.FindStage.TheVariants as finds
use Rattle.model.specs.declared.event.Answer.{Answer}
use Rattle.model.specs.declared.event.Answer.TheVariants.{State, Number}
use Rattle.model.specs.declared.event.Event.{Event}
use Rattle.model.specs.declared.event.Event.TheVariants.{Begun, Finished}
use Rattle.model.specs.declared.event.Start.{Start}
use Rattle.model.specs.declared.event.Start.TheVariants.{Robust}
use Rattle.model.specs.declared.families.Flight.{Flight}
use Rattle.model.specs.declared.families.Flight.TheVariants as flights
use Rattle.model.specs.declared.families.container.calls.ContainerFlight.TheVariants as calls
use Rattle.model.specs.declared.families.indices.robust.RobustStart.TheVariants.{Release}
use Rattle.model.specs.Reading.{Open, Never, ended}
use Rattle.model.proofs.Readings.{Each-append, Each-nil}
use Rattle.lock_free.specs.HistoryView.View.{View}
use Rattle.lock_free.specs.ReleaseMode.TheVariants.{Default, LockIfLastIndex}
use Rattle.lock_free.specs.ReleaseState.TheVariants.{Unlocked}
use Rattle.lock_free.specs.Container.Resting.{FindEndsAs, EndsAs, IsResting, Settles}
use Rattle.lock_free_owners.specs.Worn.{BeginsAlone, LocksApart, is_locking}

-- ---- a find that rests

-- the stage of a find
abbrev stage_of : Flight ℕ → Option FindStage
stage_of (flights.Container (calls.Find run)) = Some run.call.stage
stage_of flight = None

-- a find that ends with its next step ends as its stage says
find_ends : (flight : Flight ℕ) (answer : Answer ℕ) (stage : FindStage) → stage_of flight ≡ Some stage → EndsAs flight answer
    → FindEndsAs stage answer
find_ends (flights.Container (calls.Find run)) answer stage is ends =
    let at : run.call.stage ≡ stage = cc in
    subst (λ (s : FindStage). FindEndsAs s answer) at ends
find_ends flight answer stage is ends = absurd (cc)

-- refused: a find that rests at the load of a cell, before its question
pub rests_at_a_cell : (v : View ℕ) (k : IsResting v) (index found : ℕ)
    → stage_of k.flight ≡ Some (finds.LoadsCell index found)
    → ⊥
rests_at_a_cell v k index found is = find_ends k.flight k.answer (finds.LoadsCell index found) is k.ends

-- refused: a find that rests at the load of a count, before its question
pub rests_at_a_count : (v : View ℕ) (k : IsResting v) (index found : ℕ)
    → stage_of k.flight ≡ Some (finds.LoadsCount index found)
    → ⊥
rests_at_a_count v k index found is = find_ends k.flight k.answer (finds.LoadsCount index found) is k.ends

-- refused: a find that rests at the load of a word, before its question
pub rests_at_a_word : (v : View ℕ) (k : IsResting v) (index found count at : ℕ)
    → stage_of k.flight ≡ Some (finds.LoadsWord index found count at)
    → ⊥
rests_at_a_word v k index found count at is = find_ends k.flight k.answer (finds.LoadsWord index found count at) is k.ends

-- refused: a find that rests at the check of a count, before its question
pub rests_at_a_check : (v : View ℕ) (k : IsResting v) (index found count : ℕ)
    → stage_of k.flight ≡ Some (finds.ChecksCount index found count)
    → ⊥
rests_at_a_check v k index found count is = find_ends k.flight k.answer (finds.ChecksCount index found count) is k.ends

-- refused: a find that rested ends with another number than it had come to
pub ends_with_another_number : (v w : View ℕ) (k : Settles v w) (index found other p : ℕ) (start : Start ℕ) (before : List (Event ℕ))
    → stage_of k.resting.flight ≡ Some (finds.Asks index found)
    → w.seen ≡ before ++ Finished p start (Number other) ∷ []
    → other ≢ found
    → ⊥
ends_with_another_number v w k index found other p start before at is differs =
    let right : k.resting.answer ≡ Number found =
    find_ends k.resting.flight k.resting.answer (finds.Asks index found) at k.resting.ends
    in
    let last = (same_from_push (v.seen ++ k.others) before _ _ (sym k.seen ∙ is)).1 in
    let same : k.resting.answer ≡ Number other = cc in
    let number : other ≡ found = cc in
    differs number

-- ---- calls that may lock

abbrev release : Start ℕ
release = Robust (Release 0 7 LockIfLastIndex)

abbrev keeps : Start ℕ
keeps = Robust (Release 0 7 Default)

pub one_locks : LocksApart (Begun 0 release ∷ [])
one_locks = Each-append BeginsAlone [] (Begun 0 release ∷ []) (Each-nil BeginsAlone) ((λ locks q. refl), tt)

-- Two calls that may lock overlap if the second begins before the first has ended.
pub two_lock_at_once : LocksApart (Begun 0 release ∷ Begun 1 release ∷ []) → ⊥
two_lock_at_once locks_apart = let clash : true ≡ false = locks_apart (Begun 0 release ∷ []) [] (Begun 1 release) refl refl 0 in cc

-- A party whose call has ended has no call under way that may lock.
ended_call : (b : Bool)
    → is_locking {T = ℕ} (if b then ended (if b then Open release [] else Never) (State Unlocked) else (if b then Open release [] else Never)) ≡ false
ended_call true = refl
ended_call false = refl

-- They do not overlap if the second begins after the end of the first.
pub one_locks_after_the_other : LocksApart (Begun 0 release ∷ Finished 0 release (State Unlocked) ∷ Begun 1 release ∷ [])
one_locks_after_the_other =
    Each-append BeginsAlone [] (Begun 0 release ∷ Finished 0 release (State Unlocked) ∷ Begun 1 release ∷ []) (Each-nil BeginsAlone)
    ((λ locks q. refl), (tt, ((λ locks q. ended_call (0 == q)), tt)))
