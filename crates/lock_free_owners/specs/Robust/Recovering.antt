-- Where a recovery of a robust unique index set stands between two turns: which indices it has visited,
-- and with what its two closures were called.
use Rattle.std.specs.Prelude.{◌≡◌, ℕ, ◌+◌, ◌<◌, Bool, false, None, List, All}
use Rattle.std.specs.List.{FoldsTo}
use Rattle.steps.specs.declared.ask.After.{After}
use Rattle.steps.specs.declared.ask.After.TheVariants.{GoOn, Done}
use Rattle.steps.specs.declared.indices.enums.ReleaseMode.{ReleaseMode}
use Rattle.steps.specs.declared.indices.enums.ReleaseState.{ReleaseState}
use Rattle.steps.specs.declared.indices.robust.recover.Recover.{Recover}
use Rattle.steps.specs.declared.indices.robust.recover.RecoverStage.{RecoverStage}
use Rattle.steps.specs.declared.indices.robust.recover.RecoverStage.TheVariants as recovers
use Rattle.model.specs.Families.Indices.Reading.{is_locked}
use Rattle.history.specs.declared.view.View.{View}
use Rattle.history_owners.specs.Robust.{Visit, WasTold, came_to}
use Rattle.lock_free_owners.specs.Robust.Callable.{Owned, Asked, TheyAscend, QuestionsAscend, asks, tells}
use Rattle.lock_free_owners.specs.Robust.Callable.{questions_of, freed_of, TakesQuestions, HasVisited}
use Rattle.lock_free_owners.specs.Robust.Turns.{RecoverAt, RecoverEnds}

module _ {F S : Type 0} (step : F → ℕ → ℕ → Bool → F → Type 0) (tell : S → ℕ → ℕ → S → Type 0) where
  module _ (capacity : ℕ) (f : F) (s : S) where
    -- From f and s on, the closures were called with these questions and these frees, and became p and q. The
    -- questions are about ascending indices below `low`, and the frees about ascending indices below `high`.
    pub record Calls (asked : List Asked) (told : List Owned) (low high : ℕ) (p : F) (q : S) : Type 0 where
      pub questions : FoldsTo (asks step) f asked p
      pub calls : FoldsTo (tells tell) s told q
      pub asked_ascend : QuestionsAscend capacity asked
      pub told_ascend : TheyAscend capacity told
      pub asked_below : All (λ (a : Asked). a.of.index < low) asked
      pub told_below : All (λ (o : Owned). o.index < high) told

    -- the closures were called with just the questions and the frees of these visits
    abbrev pub Visits : List Visit → (low high : ℕ) → F → S → Type 0
    Visits visits low high p q = Calls (questions_of visits) (freed_of visits) low high p q

    -- What the closures were called with at each stage. The second one is called one step behind the
    -- first: at the exchange of a cell the visit is counted as told to free, and only then freed.
    abbrev pub SoFar : RecoverStage → List Visit → F → S → Type 0
    SoFar recovers.LoadsCounter visits p q = (p ≡ f) × (q ≡ s)
    SoFar (recovers.LoadsCell index) visits p q = Visits visits index index p q
    SoFar (recovers.Asks index owner) visits p q = Visits visits index index p q
    SoFar (recovers.EmptiesCell index owner) visits p q = Visits (came_to WasTold visits) (index + 1) index p q
    SoFar (recovers.Raises index raise) visits p q = Visits visits (index + 1) (index + 1) p q
    SoFar (recovers.Locks index lock) visits p q = Visits visits (index + 1) (index + 1) p q
    SoFar recovers.LoadsCounterAgain visits p q = (low : ℕ) × Visits visits low low p q

  -- of a recovery that began in the view `base` with the closures f and s
  module _ (capacity : ℕ) (mode : ReleaseMode) (base : View ℕ) (f : F) (s : S) where
    -- it is under way in the view `v`, and its closures are p and q
    abbrev pub StandsSo : View ℕ → Recover → F → S → Type 0
    StandsSo v call p q = (visits : List Visit) × RecoverAt mode base v call visits × SoFar capacity f s call.stage visits p q

    -- it has ended in the view `w`, and its closures are p and q
    abbrev pub EndsSo : View ℕ → ReleaseState → F → S → Type 0
    EndsSo w state p q = (visits : List Visit) × RecoverEnds mode base state visits w × HasVisited step tell f s visits p q

    -- it is under way at the next stage, or has ended
    abbrev pub LedTo : View ℕ → After Recover ReleaseState → F → S → Type 0
    LedTo w (GoOn d) p q = StandsSo w d p q
    LedTo w (Done state) p q = EndsSo w state p q

  -- a recovery stands at this call with the first closure p, which may be asked about each index that
  -- is still to come unless the lock was seen
  pub record MayAsk (pre : F → ℕ → ℕ → Type 0) (mode : ReleaseMode) (v : View ℕ) (call : Recover) (p : F) : Type 0 where
    pub base : View ℕ
    pub f : F
    pub s : S
    pub q : S
    pub idle : base.going ≡ None
    pub stands : StandsSo base.capacity mode base f s v call p q
    pub takes : is_locked base.seen ≡ false → TakesQuestions pre step base.capacity f

  -- Steps that do not call the second closure lead from the call in `v` to `after` in `w`, and the first
  -- closure from p to r. This holds whatever the view and the closures with which the recovery began.
  abbrev pub LeadsOn : ReleaseMode → View ℕ → Recover → F → After Recover ReleaseState → View ℕ → F → Type 0
  LeadsOn mode v call p after w r =
      (base : View ℕ) (f : F) (s q : S) → base.going ≡ None → StandsSo base.capacity mode base f s v call p q
      → LedTo base.capacity mode base f s w after r q
