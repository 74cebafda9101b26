-- Each step of a call of a container keeps to what it can still add to the counter of its set.
use Rattle.std.proofs.Common.{◌≡◌, ◌≢◌, ℕ, ◌+◌, ◌*◌, ◌≤◌, true, Option, List, arith}
use Rattle.steps.specs.Indices.Robust.Parts.{locked}
use Rattle.steps.specs.declared.container.recover.RecoverStage.{RecoverStage}
use Rattle.steps.specs.declared.container.remove.RemoveStage.{RemoveStage}
use Rattle.steps.specs.declared.container.state.ContainerState.{ContainerState}
use Rattle.steps.specs.declared.indices.enums.ReleaseMode.{ReleaseMode}
use Rattle.model.specs.declared.event.Start.TheVariants.{Container}
use Rattle.model.specs.declared.families.container.ContainerStart.{ContainerStart}
use Rattle.model.specs.declared.families.container.calls.ContainerFlight.{ContainerFlight}
use Rattle.model.specs.declared.families.container.calls.ContainerFlight.TheVariants.{Add, Remove, Replace, Find, Recover, Look, Count, IsLocked}
use Rattle.model.specs.Coding.{Coding}
use Rattle.model.specs.Families.Container.Calls.{after}
use Rattle.model.specs.Families.Container.Reading.{Act}
use Rattle.model.specs.Families.Container.Steps.{effects}
use Rattle.model.specs.Families.Indices.Robust.Reading.{SetAct}
use Rattle.laws_container.proofs.CallProgress.{At}
use Rattle.lock_free_owners.specs.Worn.{changes, may_lock}
use Rattle.lock_free_owners.proofs.Worn.Parts.{moved_none, moved_most, count_moves, count_ends, counts_move}
use Rattle.lock_free_owners.proofs.Worn.RobustPays.{late_in, late_in_most, release_late_in}
use Rattle.lock_free_owners.proofs.Worn.ContainerPays.{add_pays, remove_late, remove_pays, RemoveStands}
use Rattle.lock_free_owners.proofs.Worn.ContainerPays.{recover_late, recover_pays, RecoverStands}
use Rattle.laws_container.proofs.Counter.{container_then, container_old}
use Rattle.lock_free_owners.proofs.Worn.ContainerPays.{container_credit, container_late, container_locks, ContainerStands}
use Rattle.lock_free_owners.proofs.Worn.ContainerPays.{container_left, SameMode}

-- ---- a lock alone is late

module _ (n : ℕ) where
  -- a remove is late only in the mode that locks
  pub remove_late_in : (mode : ReleaseMode) (stage : RemoveStage) → RemoveStands mode stage → remove_late n stage ≤ late_in mode (remove_late n stage)
  remove_late_in mode stage stands = grind (arith, release_late_in)

  -- a recovery is late only in the mode that locks
  pub recover_late_in : (mode : ReleaseMode) (stage : RecoverStage) → RecoverStands mode stage
      → recover_late n stage ≤ late_in mode (recover_late n stage)
  recover_late_in mode stage stands = grind arith

-- ---- its step

module _ {T : Type 0} (code : Coding T) (state : Option (ContainerState T)) where
  -- A step keeps whether the call is one that may lock: a remove or a recovery in the mode that locks.
  pub container_mode : (flight : ContainerFlight T) (old : ℕ) → SameMode (container_locks flight) (after code state flight old)
  container_mode (Add run) old = grind arith
  container_mode (Remove run) old = grind arith
  container_mode (Replace run) old = grind arith
  container_mode (Find run) old = grind arith
  container_mode (Recover run) old = grind arith
  container_mode (Look which call) old = grind arith
  container_mode (Count which run) old = grind arith
  container_mode (IsLocked run) old = tt

  -- the step of a call of a container keeps to what the call can still add to the counter
  abbrev pub ContainerPays : ℕ → ℕ → ℕ → ℕ → ContainerFlight T → Type 0
  ContainerPays n new p cell flight =
      new + container_left new (after code state flight (container_old flight n cell)) + counts_move (container_locks flight) n new
      ≤ n + (container_credit flight + container_late n flight) + 3 * changes (effects code p state flight (container_old flight n cell))

  -- each step of a call of a container keeps to what the call can still add, unless it locks
  pub container_pays : (n new p cell : ℕ) (flight : ContainerFlight T) → ContainerStands flight → new ≡ container_then flight n → new ≢ locked
      → ContainerPays n new p cell flight
  container_pays n new p cell (Add run) stands is open_then = grind (arith, add_pays)
  -- a remove and a recovery may lock, so they may be late
  container_pays n new p cell (Remove run) stands is open_then = grind (arith, remove_pays, remove_late_in, late_in_most)
  container_pays n new p cell (Recover run) stands is open_then = grind (arith, recover_pays, recover_late_in, late_in_most)
  -- a replace, a find, a look and the look at the lock leave the counter
  container_pays n new p cell (Replace run) stands is open_then = grind (arith, moved_none)
  container_pays n new p cell (Find run) stands is open_then = grind (arith, moved_none)
  container_pays n new p cell (Look which call) stands is open_then = grind (arith, moved_none)
  container_pays n new p cell (IsLocked run) stands is open_then = grind (arith, moved_none)
  -- a count raises the counter once at most, for which it has two
  container_pays n new p cell (Count which run) stands is open_then = grind (arith, count_moves, count_ends, moved_none, moved_most)

module _ {T : Type 0} (code : Coding T) where
  -- A flight that fits its span stands at a stage that there is.
  pub container_stands : (c : ℕ) (all : List SetAct) (done : List (Act T)) (start : ContainerStart T) (flight : ContainerFlight T)
      → At c code.size all done start flight → ContainerStands flight
  container_stands c all done start flight at = grind arith

  -- A flight that may lock is of a begin that may lock.
  pub container_may : (c : ℕ) (all : List SetAct) (done : List (Act T)) (start : ContainerStart T) (flight : ContainerFlight T)
      → At c code.size all done start flight → container_locks flight ≡ true → may_lock (Container start) ≡ true
  container_may c all done start flight at e = grind arith
