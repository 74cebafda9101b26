-- What a call of a container under way can still add to the counter of its set, and that each of its steps keeps to it.
use Rattle.std.proofs.Common.{◌≡◌, ◌≢◌, ℕ, ◌+◌, ◌*◌, ◌≤◌, Bool, false, arith}
use Rattle.steps.specs.Container.Add.{Added, add_takes}
use Rattle.steps.specs.Container.Recover.{recover_takes}
use Rattle.steps.specs.Container.Remove.{Removed, remove_takes}
use Rattle.steps.specs.Indices.Robust.Parts.{locked}
use Rattle.steps.specs.declared.ask.After.{After}
use Rattle.steps.specs.declared.ask.After.TheVariants.{GoOn, Done}
use Rattle.steps.specs.declared.container.add.Add as adding
use Rattle.steps.specs.declared.container.add.AddStage.{AddStage}
use Rattle.steps.specs.declared.container.add.AddStage.TheVariants as adds
use Rattle.steps.specs.declared.container.add.Owned.{Owned}
use Rattle.steps.specs.declared.container.recover.DeadOwner.{DeadOwner}
use Rattle.steps.specs.declared.container.recover.Recover as recovering
use Rattle.steps.specs.declared.container.recover.RecoverStage.{RecoverStage}
use Rattle.steps.specs.declared.container.recover.RecoverStage.TheVariants as recovers
use Rattle.steps.specs.declared.container.remove.Remove as removing
use Rattle.steps.specs.declared.container.remove.RemoveStage.{RemoveStage}
use Rattle.steps.specs.declared.container.remove.RemoveStage.TheVariants as removes
use Rattle.steps.specs.declared.copied.Buffer.{Buffer}
use Rattle.steps.specs.declared.indices.enums.ReleaseMode.{ReleaseMode}
use Rattle.steps.specs.declared.indices.enums.ReleaseMode.TheVariants.{LockIfLastIndex}
use Rattle.steps.specs.declared.indices.enums.ReleaseState.{ReleaseState}
use Rattle.steps.specs.declared.indices.robust.release.GiveBack.{GiveBack}
use Rattle.model.specs.declared.event.Answer.{Answer}
use Rattle.model.specs.declared.families.container.calls.ContainerFlight.{ContainerFlight}
use Rattle.model.specs.declared.families.container.calls.ContainerFlight.TheVariants.{Add, Remove, Recover, Count}
use Rattle.model.specs.Families.Container.Steps.{add_effects, remove_effects, recover_effects}
use Rattle.laws_container.proofs.Counter.{add_then, add_old, remove_then, remove_old, recover_then, recover_old}
use Rattle.lock_free_owners.specs.Worn.{changes}
use Rattle.lock_free_owners.proofs.Worn.Parts.{moved_none, moved_most, raise_moves}
use Rattle.lock_free_owners.proofs.Worn.Parts.{lock_credit, lock_late, lock_pays}
use Rattle.lock_free_owners.proofs.Worn.Parts.{acquire_credit, acquire_pays}
use Rattle.lock_free_owners.proofs.Worn.Parts.{for_mode, for_mode_most, locks_in, release_credit, release_late}
use Rattle.lock_free_owners.proofs.Worn.Parts.{counts_move, counts_none, StandsIn, release_pays}
use Rattle.lock_free_owners.proofs.Worn.RobustPays.{late_in}

-- ---- the stages

-- The credit of an add at this stage.
abbrev pub add_credit : AddStage → ℕ
add_credit (adds.Acquires stage) = acquire_credit stage
add_credit stage = 0

-- The credit of a remove at this stage.
abbrev pub remove_credit : ReleaseMode → RemoveStage → ℕ
remove_credit mode (removes.Releases count stage) = release_credit mode stage
remove_credit mode stage = 0

-- How late a remove is at this stage: 1 where its lock has to count again.
abbrev pub remove_late : ℕ → RemoveStage → ℕ
remove_late n (removes.Releases count stage) = release_late n stage
remove_late n stage = 0

-- a remove stands at its lock only in the mode that locks
abbrev pub RemoveStands : ReleaseMode → RemoveStage → Type 0
RemoveStands mode (removes.Releases count stage) = StandsIn mode stage
RemoveStands mode stage = Unit {0}

-- the credit of a recovery of a container: after it has freed an index what the change is good for in
-- its mode, at its lock that of the lock
abbrev pub recover_credit : ReleaseMode → RecoverStage → ℕ
recover_credit mode (recovers.Hides index count) = for_mode mode
recover_credit mode (recovers.Raises index raise) = for_mode mode
recover_credit mode (recovers.Locks index lock) = lock_credit lock
recover_credit mode stage = 0

-- How late a recovery is at this stage: 1 where its lock has to count again.
abbrev pub recover_late : ℕ → RecoverStage → ℕ
recover_late n (recovers.Locks index lock) = lock_late n lock
recover_late n stage = 0

-- a recovery stands at its lock only in the mode that locks
abbrev pub RecoverStands : ReleaseMode → RecoverStage → Type 0
RecoverStands mode (recovers.Locks index lock) = mode ≡ LockIfLastIndex
RecoverStands mode stage = Unit {0}

-- ---- an add

module _ {T : Type 0} where
  -- What an add can still add as it goes on from a step, and 0 once it has ended.
  abbrev pub add_left : After (adding.Add T) Added → ℕ
  add_left (GoOn run) = add_credit run.stage
  add_left (Done answer) = 0

  -- n is the counter before the step, new the counter after it, cell what another word had, p the
  -- party
  module _ (size : ℕ) (call : adding.Add T) (n new p cell : ℕ) (given : Owned T) where
    -- the step of an add at this stage keeps to what the add can still add to the counter
    abbrev AddPays : AddStage → Type 0
    AddPays stage =
        new + add_left (add_takes size call stage (add_old stage n cell)) + counts_move false n new
        ≤ n + add_credit stage + 3 * changes {T = T} (add_effects p given stage (add_old stage n cell))

    -- each step of an add keeps to what it can still add
    pub add_pays : (stage : AddStage) → new ≡ add_then stage n → AddPays stage
    add_pays stage is = grind (arith, acquire_pays, moved_none)

-- ---- a remove

-- What a remove can still add as it goes on from a step, and 0 once it has ended.
abbrev pub remove_left : ReleaseMode → ℕ → After removing.Remove Removed → ℕ
remove_left mode new (GoOn run) = remove_credit mode run.stage + remove_late new run.stage
remove_left mode new (Done answer) = 0

-- n is the counter before the step, new the counter after it, cell what another word had, p the
-- party
module _ (T : Type 0) (call : removing.Remove) (n new p cell : ℕ) (given : GiveBack) where
  -- the step of a remove at this stage keeps to what the remove can still add to the counter
  abbrev RemovePays : RemoveStage → Type 0
  RemovePays stage =
      new + remove_left given.mode new (remove_takes call stage given (remove_old stage n cell)) + counts_move (locks_in given.mode) n new
      ≤ n + (remove_credit given.mode stage + remove_late n stage) + 3 * changes {T = T} (remove_effects p given stage (remove_old stage n cell))

  -- each step of a remove keeps to what it can still add, unless it locks
  pub remove_pays : (stage : RemoveStage) → RemoveStands given.mode stage → new ≡ remove_then stage n → new ≢ locked → RemovePays stage
  remove_pays stage stands is open_then = grind (arith, counts_none, release_pays)

-- ---- a recovery

-- A recovery of a container with its room.
abbrev pub Recovering : Type 0 → Type 0
Recovering T = recovering.Recover T (Buffer 128)

module _ {T : Type 0} where
  -- What a recovery can still add as it goes on from a step, and 0 once it has ended.
  abbrev pub recover_left : ReleaseMode → ℕ → After (Recovering T) ReleaseState → ℕ
  recover_left mode new (GoOn run) = recover_credit mode run.stage + recover_late new run.stage
  recover_left mode new (Done state) = 0

  module _ (call : Recovering T) (n new : ℕ) where
    module _ (size p cell : ℕ) (given : DeadOwner) (value : T) where
      -- the step of a recovery at this stage keeps to what the recovery can still add
      abbrev RecoverPays : RecoverStage → Type 0
      RecoverPays stage =
          new + recover_left given.mode new (recover_takes size call stage given (recover_old stage n cell)) + counts_move (locks_in given.mode) n new
          ≤ n + (recover_credit given.mode stage + recover_late n stage)
          + 3 * changes {T = T} (recover_effects p given value stage (recover_old stage n cell))

      -- each step of a recovery but one that locks keeps to what the recovery can still add
      pub recover_pays : (stage : RecoverStage) → RecoverStands given.mode stage → new ≡ recover_then stage n → new ≢ locked → RecoverPays stage
      recover_pays stage stands is open_then =
          grind (arith, counts_none, for_mode_most, moved_none, moved_most, raise_moves, lock_pays)

-- ---- any call

module _ {T : Type 0} where
  -- the raises that changes so far have paid for, and that a call of a container, or a lock because of
  -- it, may still make
  abbrev pub container_credit : ContainerFlight T → ℕ
  container_credit (Add run) = add_credit run.call.stage
  container_credit (Remove run) = remove_credit run.given.mode run.call.stage
  container_credit (Recover run) = recover_credit run.given.mode run.call.stage
  container_credit (Count which run) = 2
  container_credit flight = 0

  -- How late a call of a container is: 1 where its lock has to count again.
  abbrev pub container_late : ℕ → ContainerFlight T → ℕ
  container_late n (Remove run) = late_in run.given.mode (remove_late n run.call.stage)
  container_late n (Recover run) = late_in run.given.mode (recover_late n run.call.stage)
  container_late n flight = 0

  -- Whether a call of a container may lock.
  abbrev pub container_locks : ContainerFlight T → Bool
  container_locks (Remove run) = locks_in run.given.mode
  container_locks (Recover run) = locks_in run.given.mode
  container_locks flight = false

  -- the call stands at a lock only in the mode that locks
  abbrev pub ContainerStands : ContainerFlight T → Type 0
  ContainerStands (Remove run) = RemoveStands run.given.mode run.call.stage
  ContainerStands (Recover run) = RecoverStands run.given.mode run.call.stage
  ContainerStands flight = Unit {0}

module _ {T : Type 0} where
  -- What a call of a container can still add as it goes on from a step, and 0 once it has ended.
  abbrev pub container_left : ℕ → After (ContainerFlight T) (Answer T) → ℕ
  container_left new (GoOn flight) = container_credit flight + container_late new flight
  container_left new (Done answer) = 0

  -- a call that goes on may lock just if it could before
  abbrev pub SameMode : Bool → After (ContainerFlight T) (Answer T) → Type 0
  SameMode may (GoOn flight) = container_locks flight ≡ may
  SameMode may (Done answer) = Unit {0}
