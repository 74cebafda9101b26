-- What a call of a robust index set can still add to the counter while it is under way, and that each of its steps stays within that.
use Rattle.std.proofs.Common.{◌≡◌, ◌≢◌, ℕ, ◌+◌, ◌*◌, ◌≤◌, Bool, false, arith}
use Rattle.steps.specs.Indices.Robust.Parts.{locked}
use Rattle.steps.specs.Indices.Robust.Recover.{recover_takes}
use Rattle.steps.specs.declared.ask.After.{After}
use Rattle.steps.specs.declared.ask.After.TheVariants.{GoOn, Done}
use Rattle.steps.specs.declared.indices.enums.ReleaseMode.{ReleaseMode}
use Rattle.steps.specs.declared.indices.enums.ReleaseMode.TheVariants.{Default, LockIfLastIndex}
use Rattle.steps.specs.declared.indices.enums.ReleaseState.{ReleaseState}
use Rattle.steps.specs.declared.indices.robust.recover.Recover as recovering
use Rattle.steps.specs.declared.indices.robust.recover.RecoverStage.{RecoverStage}
use Rattle.steps.specs.declared.indices.robust.recover.RecoverStage.TheVariants as recovers
use Rattle.steps.specs.declared.indices.robust.release.ReleaseStage.{ReleaseStage}
use Rattle.model.specs.declared.event.Answer.{Answer}
use Rattle.model.specs.declared.families.indices.robust.calls.RobustFlight.{RobustFlight}
use Rattle.model.specs.declared.families.indices.robust.calls.RobustFlight.TheVariants.{Acquire, Release, Find, Recover, BorrowedIndices, IsLocked}
use Rattle.model.specs.Families.Indices.Robust.Calls.{after}
use Rattle.model.specs.Families.Indices.Robust.Steps.{recover_effects, effects}
use Rattle.laws_robust.proofs.Counter.{recover_then, recover_old, robust_then, robust_old}
use Rattle.lock_free_owners.specs.Worn.{changes}
use Rattle.lock_free_owners.proofs.Worn.Parts.{moved_none, moved_most, raise_moves}
use Rattle.lock_free_owners.proofs.Worn.Parts.{count_moves, count_ends}
use Rattle.lock_free_owners.proofs.Worn.Parts.{lock_credit, lock_late, lock_pays}
use Rattle.lock_free_owners.proofs.Worn.Parts.{acquire_credit, acquire_pays}
use Rattle.lock_free_owners.proofs.Worn.Parts.{for_mode, for_mode_most, locks_in, release_credit, release_late}
use Rattle.lock_free_owners.proofs.Worn.Parts.{counts_move, counts_none, StandsIn, release_pays}

-- how late a call in this mode is, where its lock is late by this: in mode `Default` it is not late
abbrev pub late_in : ReleaseMode → ℕ → ℕ
late_in Default late = 0
late_in LockIfLastIndex late = late

-- In either mode a call is late at most by what its lock is late by.
pub late_in_most : (mode : ReleaseMode) (late : ℕ) → late_in mode late ≤ late
late_in_most mode late = grind arith

-- ---- a recovery

-- the credit of a recovery: after it has freed an index what the change is good for in its mode, at its
-- lock that of the lock
abbrev pub recover_credit : ReleaseMode → RecoverStage → ℕ
recover_credit mode (recovers.Raises index raise) = for_mode mode
recover_credit mode (recovers.Locks index lock) = lock_credit lock
recover_credit mode stage = 0

-- a recovery is late at its lock, as the lock is
abbrev pub recover_late : ℕ → RecoverStage → ℕ
recover_late n (recovers.Locks index lock) = lock_late n lock
recover_late n stage = 0

-- what is left of a recovery after a step
abbrev pub recover_left : ReleaseMode → ℕ → After recovering.Recover ReleaseState → ℕ
recover_left mode new (GoOn run) = recover_credit mode run.stage + recover_late new run.stage
recover_left mode new (Done state) = 0

-- a recovery stands at its lock only in the mode that locks
abbrev pub RecoverStands : ReleaseMode → RecoverStage → Type 0
RecoverStands mode (recovers.Locks index lock) = mode ≡ LockIfLastIndex
RecoverStands mode stage = Unit {0}

module _ (call : recovering.Recover) (n new : ℕ) where
  module _ (T : Type 0) (p : ℕ) (mode : ReleaseMode) (cell : ℕ) where
    -- the step of a recovery at this stage keeps to what the recovery can still add
    abbrev RecoverPays : RecoverStage → Type 0
    RecoverPays stage =
        new + recover_left mode new (recover_takes call stage mode (recover_old stage n cell)) + counts_move (locks_in mode) n new
        ≤ n + (recover_credit mode stage + recover_late n stage) + 3 * changes {T = T} (recover_effects p stage (recover_old stage n cell))

    -- each step of a recovery but one that locks keeps to what the recovery can still add
    pub recover_pays : (stage : RecoverStage) → RecoverStands mode stage → new ≡ recover_then stage n → new ≢ locked → RecoverPays stage
    recover_pays stage stands is open_then =
        grind (arith, counts_none, for_mode_most, moved_none, moved_most, raise_moves, lock_pays)

-- ---- any call

-- the raises that changes so far have paid for, and that a call of a robust set, or a lock because of
-- it, may still make
abbrev pub robust_credit : RobustFlight → ℕ
robust_credit (Acquire run) = acquire_credit run.call.stage
robust_credit (Release run) = release_credit run.given.mode run.call.stage
robust_credit (Find run) = 0
robust_credit (Recover run) = recover_credit run.given run.call.stage
robust_credit (BorrowedIndices run) = 2
robust_credit (IsLocked run) = 0

-- 1 where the call stands at a lock that has to count again
abbrev pub robust_late : ℕ → RobustFlight → ℕ
robust_late n (Release run) = late_in run.given.mode (release_late n run.call.stage)
robust_late n (Recover run) = late_in run.given (recover_late n run.call.stage)
robust_late n flight = 0

-- whether the call may lock
abbrev pub robust_locks : RobustFlight → Bool
robust_locks (Release run) = locks_in run.given.mode
robust_locks (Recover run) = locks_in run.given
robust_locks flight = false

-- the call stands at a lock only in the mode that locks
abbrev pub RobustStands : RobustFlight → Type 0
RobustStands (Release run) = StandsIn run.given.mode run.call.stage
RobustStands (Recover run) = RecoverStands run.given run.call.stage
RobustStands flight = Unit {0}

module _ (n : ℕ) where
  -- a release is late only in the mode that locks
  pub release_late_in : (mode : ReleaseMode) (stage : ReleaseStage) → StandsIn mode stage
      → release_late n stage ≤ late_in mode (release_late n stage)
  release_late_in mode stage stands = grind arith

  -- a recovery is late only in the mode that locks
  pub recover_late_in : (mode : ReleaseMode) (stage : RecoverStage) → RecoverStands mode stage
      → recover_late n stage ≤ late_in mode (recover_late n stage)
  recover_late_in mode stage stands = grind arith

module _ {T : Type 0} where
  -- what is left of a call of a robust set after a step
  abbrev pub robust_left : ℕ → After RobustFlight (Answer T) → ℕ
  robust_left new (GoOn flight) = robust_credit flight + robust_late new flight
  robust_left new (Done answer) = 0

  -- a call that goes on may lock just if it could before
  abbrev pub SameMode : Bool → After RobustFlight (Answer T) → Type 0
  SameMode may (GoOn flight) = robust_locks flight ≡ may
  SameMode may (Done answer) = Unit {0}

module _ (T : Type 0) where
  -- after a step a call may lock just if it could before
  pub robust_mode : (flight : RobustFlight) (old : ℕ) → SameMode (robust_locks flight) (after {T = T} flight old)
  robust_mode flight old = grind arith

  -- the step of a call of a robust set keeps to what the call can still add
  abbrev pub RobustPays : ℕ → ℕ → ℕ → ℕ → RobustFlight → Type 0
  RobustPays n new p cell flight =
      new + robust_left new (after {T = T} flight (robust_old flight n cell)) + counts_move (robust_locks flight) n new
      ≤ n + (robust_credit flight + robust_late n flight) + 3 * changes {T = T} (effects p flight (robust_old flight n cell))

  -- each step of a call of a robust set keeps to what the call can still add, unless it locks
  pub robust_pays : (n new p cell : ℕ) (flight : RobustFlight) → RobustStands flight → new ≡ robust_then flight n → new ≢ locked
      → RobustPays n new p cell flight
  robust_pays n new p cell (Acquire run) stands is open_then = grind (arith, acquire_pays)
  robust_pays n new p cell (Release run) stands is open_then = grind (arith, release_pays, release_late_in, late_in_most)
  robust_pays n new p cell (Find run) stands is open_then = grind (arith, moved_none)
  robust_pays n new p cell (Recover run) stands is open_then = grind (arith, recover_pays, recover_late_in, late_in_most)
  robust_pays n new p cell (BorrowedIndices run) stands is open_then = grind (arith, count_moves, count_ends, moved_none, moved_most)
  robust_pays n new p cell (IsLocked run) stands is open_then = grind (arith, moved_none)
