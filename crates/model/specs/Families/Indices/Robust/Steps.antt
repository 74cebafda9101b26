-- What a step of a call of the robust index set writes down.
use Rattle.std.specs.Prelude.{ℕ, ◌==◌, List, [], ◌∷◌, if◌then◌else◌}
use Rattle.steps.specs.declared.ask.After.{After}
use Rattle.steps.specs.declared.ask.After.TheVariants.{Done}
use Rattle.steps.specs.declared.indices.enums.ReleaseState.{ReleaseState}
use Rattle.steps.specs.declared.indices.enums.ReleaseState.TheVariants.{Unlocked}
use Rattle.steps.specs.declared.indices.robust.acquire.AcquireStage.{AcquireStage}
use Rattle.steps.specs.declared.indices.robust.acquire.AcquireStage.TheVariants as acquires
use Rattle.steps.specs.declared.indices.robust.parts.Lock.{Lock}
use Rattle.steps.specs.declared.indices.robust.parts.Lock.TheVariants as locks
use Rattle.steps.specs.declared.indices.robust.parts.Raise.{Raise}
use Rattle.steps.specs.declared.indices.robust.recover.RecoverStage.{RecoverStage}
use Rattle.steps.specs.declared.indices.robust.recover.RecoverStage.TheVariants as recovers
use Rattle.steps.specs.declared.indices.robust.release.GiveBack.{GiveBack}
use Rattle.steps.specs.declared.indices.robust.release.ReleaseStage.{ReleaseStage}
use Rattle.steps.specs.declared.indices.robust.release.ReleaseStage.TheVariants as releases
use Rattle.steps.specs.Indices.Robust.Parts.{empty, raise_after}
use Rattle.model.specs.declared.event.Event.{Event}
use Rattle.model.specs.declared.event.Event.TheVariants.{Filled, Granted, FreedOf, Asked, Told, Locked}
use Rattle.model.specs.declared.families.indices.robust.calls.RobustFlight.{RobustFlight}
use Rattle.model.specs.declared.families.indices.robust.calls.RobustFlight.TheVariants.{Acquire, Release, Recover}
use Rattle.model.specs.Families.Indices.Robust.Calls.{after, goes_back}
use Rattle.model.specs.Step.{Step}

module _ {T : Type 0} where
  -- an exchange of the cell that found its owner there frees the index
  abbrev pub freed : (p index owner old : ℕ) → List (Event T)
  freed p index owner old = if old == owner then FreedOf p index owner ∷ [] else []

  -- an exchange of the counter that found the number expected locks the set
  abbrev pub locked_by : ℕ → Lock → ℕ → List (Event T)
  locked_by p (locks.Counts count) old = []
  locked_by p (locks.ExchangesCounter counter) old =
      if old == counter then Locked p ∷ [] else []

  -- An acquire is granted its index as its raise of the set's counter ends with the set unlocked.
  abbrev pub granted : (p index owner : ℕ) → After Raise ReleaseState → List (Event T)
  granted p index owner (Done Unlocked) = Granted p index owner ∷ []
  granted p index owner outcome = []

  -- the exchange of a cell from empty to its owner fills it
  abbrev pub acquire_effects : (p owner : ℕ) → AcquireStage → ℕ → List (Event T)
  acquire_effects p owner acquires.LoadsCounter old = []
  acquire_effects p owner (acquires.FillsCell counter index) old =
      if old == empty then Filled p index owner ∷ [] else []
  acquire_effects p owner (acquires.ChecksCounter counter) old = []
  acquire_effects p owner (acquires.Raises index raise) old =
      granted p index owner (raise_after raise old)

  -- What a release's step writes down, where its word has this old value:
  -- that it frees the index, or that it locks the set.
  abbrev pub release_effects : ℕ → GiveBack → ReleaseStage → ℕ → List (Event T)
  release_effects p given releases.EmptiesCell old =
      freed p given.index given.owner old
  release_effects p given (releases.Raises raise) old = []
  release_effects p given (releases.Locks lock) old = locked_by p lock old

  -- What a recovery's step writes down: loading a cell that has an owner asks about its index, a yes tells
  -- the recovery to free it, emptying the cell frees it, and the exchange of the counter may lock the set.
  abbrev pub recover_effects : ℕ → RecoverStage → ℕ → List (Event T)
  recover_effects p recovers.LoadsCounter old = []
  recover_effects p (recovers.LoadsCell index) old =
      if old == empty then [] else Asked p index old ∷ []
  recover_effects p (recovers.Asks index owner) old =
      if old == 0 then [] else Told p index owner ∷ []
  recover_effects p (recovers.EmptiesCell index owner) old = freed p index owner old
  recover_effects p (recovers.Raises index raise) old = []
  recover_effects p (recovers.Locks index lock) old = locked_by p lock old
  recover_effects p recovers.LoadsCounterAgain old = []

  -- what a step writes down, where its word has this old value: a find and the calls that look write nothing
  abbrev pub effects : ℕ → RobustFlight → ℕ → List (Event T)
  effects p (Acquire run) old = acquire_effects p run.given run.call.stage old
  effects p (Release run) old = release_effects p run.given run.call.stage old
  effects p (Recover run) old = recover_effects p run.call.stage old
  effects p flight old = []

  -- all that a step of a robust set's call comes to, where its word has this old value
  abbrev pub step : ℕ → RobustFlight → ℕ → List ℕ → Step RobustFlight (List ℕ) T
  step p flight old dead =
      record {
        after = after flight old;
        back = goes_back flight old;
        wrote = effects p flight old;
        kept = dead;
      }
