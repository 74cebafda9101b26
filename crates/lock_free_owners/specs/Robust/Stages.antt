-- The steps of a find and of a recovery between which their closures are called, and how these are called.
use Rattle.std.specs.Prelude.{◌≡◌, ℕ, ◌<◌, Bool, true, false}
use Rattle.steps.specs.Indices.Robust.Parts.{empty}
use Rattle.steps.specs.Indices.Robust.Recover.{recover_after}
use Rattle.steps.specs.declared.ask.After.{After}
use Rattle.steps.specs.declared.ask.After.TheVariants.{GoOn, Done}
use Rattle.steps.specs.declared.enums.CallbackProgression.{CallbackProgression}
use Rattle.steps.specs.declared.enums.CallbackProgression.TheVariants.{Continue, Stop}
use Rattle.steps.specs.declared.indices.enums.ReleaseMode.{ReleaseMode}
use Rattle.steps.specs.declared.indices.enums.ReleaseState.{ReleaseState}
use Rattle.steps.specs.declared.indices.robust.recover.Recover.{Recover}
use Rattle.steps.specs.declared.indices.robust.recover.RecoverStage.{RecoverStage}
use Rattle.steps.specs.declared.indices.robust.recover.RecoverStage.TheVariants as recovers
use Rattle.model.specs.Turns.{number_of}

-- the closure's answer as the call of the model takes it
abbrev pub says : CallbackProgression → ℕ
says Continue = 1
says Stop = 0

-- what `look_again` does: a recovery past its last cell loads the counter again; at any other stage it
-- stays as it is
abbrev pub LooksAgain : Recover → ReleaseMode → RecoverStage
    → After Recover ReleaseState → Type 0
LooksAgain call mode recovers.LoadsCounterAgain after =
    (k : ℕ) × (after ≡ recover_after call mode k)
LooksAgain call mode stage after = after ≡ GoOn call

-- this stage comes right after the exchange that emptied a cell
abbrev pub stage_frees : RecoverStage → Bool
stage_frees recovers.LoadsCounter = false
stage_frees (recovers.LoadsCell index) = false
stage_frees (recovers.Asks index owner) = false
stage_frees (recovers.EmptiesCell index owner) = false
stage_frees (recovers.Raises index raise) = true
stage_frees (recovers.Locks index lock) = false
stage_frees recovers.LoadsCounterAgain = false

-- the step that led here emptied a cell
abbrev pub has_freed : After Recover ReleaseState → Bool
has_freed (GoOn d) = stage_frees d.stage
has_freed (Done state) = false

module _ {F S : Type 0} where
  -- what a step asks of the closures: at a question the first one may be called, and at the exchange of
  -- a cell the second one may be, since it is told of the index if the exchange frees it
  abbrev pub RecoverAsks : (F → ℕ → ℕ → Type 0) → (S → ℕ → ℕ → Type 0)
      → RecoverStage → F → S → Type 0
  RecoverAsks pre may recovers.LoadsCounter p s = Unit {0}
  RecoverAsks pre may (recovers.LoadsCell index) p s = Unit {0}
  RecoverAsks pre may (recovers.Asks index owner) p s = owner < empty → pre p owner index
  RecoverAsks pre may (recovers.EmptiesCell index owner) p s = owner < empty → may s owner index
  RecoverAsks pre may (recovers.Raises index raise) p s = Unit {0}
  RecoverAsks pre may (recovers.Locks index lock) p s = Unit {0}
  RecoverAsks pre may recovers.LoadsCounterAgain p s = Unit {0}

  -- the call goes on as its table of steps says for the answer `k`, and no closure is called
  abbrev pub GoesQuietly : Recover → ReleaseMode → ℕ → F → S → After Recover ReleaseState → F → S
      → Type 0
  GoesQuietly call mode k p s after q t =
      (q ≡ p) × (t ≡ s) × (after ≡ recover_after call mode k)

  -- How the call goes on from what it has heard, and what becomes of the closures. A question calls the
  -- first one, an exchange that frees the index the second one, and any other step none.
  abbrev pub RecoverMoves : (F → ℕ → ℕ → Bool → F → Type 0) → (S → ℕ → ℕ → S → Type 0)
      → Recover → ReleaseMode → RecoverStage → ℕ → F → S → After Recover ReleaseState
      → F → S → Type 0
  RecoverMoves step tell call mode recovers.LoadsCounter k p s after q t =
      GoesQuietly call mode k p s after q t
  RecoverMoves step tell call mode (recovers.LoadsCell index) k p s after q t =
      GoesQuietly call mode k p s after q t
  RecoverMoves step tell call mode (recovers.Asks index owner) k p s after q t =
      (owner < empty) × (t ≡ s) × ((yes : Bool) × step p owner index yes q × (k ≡ number_of yes))
      × (after ≡ recover_after call mode k)
  RecoverMoves step tell call mode (recovers.EmptiesCell index owner) k p s after q t =
      (owner < empty) × (q ≡ p) × (after ≡ recover_after call mode k)
      × (has_freed after ≡ true → tell s owner index t) × (has_freed after ≡ false → t ≡ s)
  RecoverMoves step tell call mode (recovers.Raises index raise) k p s after q t =
      GoesQuietly call mode k p s after q t
  RecoverMoves step tell call mode (recovers.Locks index lock) k p s after q t =
      GoesQuietly call mode k p s after q t
  RecoverMoves step tell call mode recovers.LoadsCounterAgain k p s after q t =
      GoesQuietly call mode k p s after q t
