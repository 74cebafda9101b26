-- What a part of a call (a raise, a count, a lock, an acquire, a release) can still add to the
-- generation counter, and that its steps keep to it. Each change of the history pays for three: one
-- raise of the counter, one further raise that a lock may have to make because of it, and a first raise
-- of a lock.
--
-- In this file and in `RobustPays`, of each part and each call at a stage:
--
-- - credit: the raises that changes so far have paid for, and that it, or a lock because of it, may
--   still make;
-- - late: 1 where a lock has to count again, since the counter has moved, else 0;
-- - left: credit and late of the call as it goes on from the step, 0 where it is done;
-- - pays: the counter and left after the step are at most the counter, credit and late before it, and
--   three for each change;
-- - n and new: the counter before the step and after it.
use Rattle.std.proofs.Common.{◌≡◌, ◌≢◌, ◌⊎◌, ℕ, ◌+◌, ◌*◌, ◌≤◌, ◌==◌, if◌then◌else◌}
use Rattle.std.proofs.Common.{Bool, true, false, arith, eq-eqb}
use Rattle.steps.specs.Indices.Robust.Acquire.{Acquired, acquire_takes}
use Rattle.steps.specs.Indices.Robust.Parts.{locked, greatest, one_more, raise_after}
use Rattle.steps.specs.Indices.Robust.Parts.{count_after, lock_after}
use Rattle.steps.specs.Indices.Robust.Release.{Released, release_takes}
use Rattle.steps.specs.declared.ask.After.{After}
use Rattle.steps.specs.declared.ask.After.TheVariants.{GoOn, Done}
use Rattle.steps.specs.declared.indices.enums.ReleaseMode.{ReleaseMode}
use Rattle.steps.specs.declared.indices.enums.ReleaseMode.TheVariants.{Default, LockIfLastIndex}
use Rattle.steps.specs.declared.indices.enums.ReleaseState.{ReleaseState}
use Rattle.steps.specs.declared.indices.robust.acquire.Acquire.{Acquire}
use Rattle.steps.specs.declared.indices.robust.acquire.AcquireStage.{AcquireStage}
use Rattle.steps.specs.declared.indices.robust.acquire.AcquireStage.TheVariants as acquires
use Rattle.steps.specs.declared.indices.robust.parts.Count.{Count}
use Rattle.steps.specs.declared.indices.robust.parts.Counted.{Counted}
use Rattle.steps.specs.declared.indices.robust.parts.Counted.TheVariants as ends
use Rattle.steps.specs.declared.indices.robust.parts.Lock.{Lock}
use Rattle.steps.specs.declared.indices.robust.parts.Lock.TheVariants as locks
use Rattle.steps.specs.declared.indices.robust.parts.Raise.{Raise}
use Rattle.steps.specs.declared.indices.robust.release.GiveBack.{GiveBack}
use Rattle.steps.specs.declared.indices.robust.release.Release.{Release}
use Rattle.steps.specs.declared.indices.robust.release.ReleaseStage.{ReleaseStage}
use Rattle.steps.specs.declared.indices.robust.release.ReleaseStage.TheVariants as releases
use Rattle.model.specs.Families.Indices.Robust.Steps.{acquire_effects, release_effects}
use Rattle.laws_robust.proofs.Counter.{tested, raise_then, count_then, count_old, lock_then, lock_old}
use Rattle.laws_robust.proofs.Counter.{acquire_then, acquire_old, release_then, release_old}
use Rattle.lock_free_owners.specs.Worn.{changes}

-- 1 where the counter is another after the step, else 0
abbrev pub moved : ℕ → ℕ → ℕ
moved n new = if new == n then 0 else 1

-- A counter that is as it was has moved 0 times.
pub moved_none : (n new : ℕ) → new ≡ n → moved n new ≡ 0
moved_none n new same = grind (arith, eq-eqb)

-- a step moves the counter once at most
pub moved_most : (n new : ℕ) → moved n new ≤ 1
moved_most n new = grind arith

-- ---- a raise

-- A raise that goes on has left the counter, and one that has ended has raised it by 1 at most.
abbrev pub RaiseMoves : ℕ → ℕ → After Raise ReleaseState → Type 0
RaiseMoves n new (GoOn raise) = new ≡ n
RaiseMoves n new (Done state) = new ≤ n + 1

-- each step of a raise moves the counter as `RaiseMoves` says
pub raise_moves : (raise : Raise) (n new : ℕ) → new ≡ raise_then raise n → RaiseMoves n new (raise_after raise n)
raise_moves raise n new is = grind (arith, tested, one_more)

-- ---- a count

-- A count that goes on, or has found the lock, has left the counter. One that has counted knows the
-- counter that it has left, raised by 1 at most, or left it at the greatest.
abbrev pub CountMoves : ℕ → ℕ → After Count Counted → Type 0
CountMoves n new (GoOn count) = new ≡ n
CountMoves n new (Done ends.Locked) = new ≡ n
CountMoves n new (Done (ends.Filled filled counter)) =
    ((new ≡ n) × (counter ≡ greatest)) ⊎ ((new ≤ n + 1) × (new ≡ counter))

-- each step of a count moves the counter as `CountMoves` says
pub count_moves : (c : ℕ) (count : Count) (n new cell : ℕ) → new ≡ count_then count n
    → CountMoves n new (count_after c count (count_old count n cell))
count_moves c count n new cell is = grind (arith, tested, one_more)

-- a count that has ended has raised the counter by 1 at most
pub count_ends : (n new : ℕ) (filled counter : ℕ) → CountMoves n new (Done (ends.Filled filled counter)) → new ≤ n + 1
count_ends n new filled counter moves = grind arith

-- ---- a lock

-- A lock may still raise the counter while it counts. It is late where the counter is another than the
-- one that its count has left: then it counts again.
abbrev pub lock_credit : Lock → ℕ
lock_credit (locks.Counts count) = 1
lock_credit (locks.ExchangesCounter counter) = 0

-- 1 where a lock has to count again, since the counter has moved, else 0.
abbrev pub lock_late : ℕ → Lock → ℕ
lock_late n (locks.Counts count) = 0
lock_late n (locks.ExchangesCounter counter) = if n == counter then 0 else 1

-- A lock is late by 1 at most.
pub lock_late_most : (n : ℕ) (lock : Lock) → lock_late n lock ≤ 1
lock_late_most n lock = grind (arith, moved_most)

-- a step of a lock adds to the counter, and leaves to be added, no more than its credit
-- and late were before it
abbrev pub LockPays : ℕ → ℕ → Lock → After Lock ReleaseState → Type 0
LockPays n new lock (GoOn next) = new + (lock_credit next + lock_late new next) ≤ n + (lock_credit lock + lock_late n lock)
LockPays n new lock (Done state) = new ≤ n + (lock_credit lock + lock_late n lock)

-- each step of a lock but the one that locks keeps to what the lock can still add
pub lock_pays : (c : ℕ) (lock : Lock) (n new cell : ℕ) → new ≡ lock_then lock n → new ≢ locked
    → LockPays n new lock (lock_after c lock (lock_old lock n cell))
lock_pays c lock n new cell is open_then = grind (arith, count_moves, count_ends, eq-eqb)

-- ---- an acquire

-- An acquire that has filled a cell has two: the raise that it makes next, and one that a lock may make
-- because of it.
abbrev pub acquire_credit : AcquireStage → ℕ
acquire_credit acquires.LoadsCounter = 0
acquire_credit (acquires.FillsCell counter index) = 0
acquire_credit (acquires.ChecksCounter counter) = 0
acquire_credit (acquires.Raises index raise) = 2

-- what is left of an acquire after a step
abbrev pub acquire_left : After Acquire Acquired → ℕ
acquire_left (GoOn run) = acquire_credit run.stage
acquire_left (Done answer) = 0

module _ (call : Acquire) (n new : ℕ) where
  module _ (T : Type 0) (p owner : ℕ) (cell : ℕ) where
    -- the step of an acquire at this stage keeps to what the acquire can still add
    abbrev AcquirePays : AcquireStage → Type 0
    AcquirePays stage =
        new + acquire_left (acquire_takes call stage (acquire_old stage n cell)) + moved n new
        ≤ n + acquire_credit stage + 3 * changes {T = T} (acquire_effects p owner stage (acquire_old stage n cell))

    -- each step of an acquire keeps to what the acquire can still add
    pub acquire_pays : (stage : AcquireStage) → new ≡ acquire_then stage n → AcquirePays stage
    acquire_pays stage is = grind (arith, moved_none, moved_most, tested, raise_moves)

-- ---- a release

-- what a change is good for, by the mode of the call that makes it
abbrev pub for_mode : ReleaseMode → ℕ
for_mode Default = 2
for_mode LockIfLastIndex = 3

-- A change is good for 3 at most.
pub for_mode_most : (mode : ReleaseMode) → for_mode mode ≤ 3
for_mode_most mode = grind arith

-- whether a call in this mode may lock
abbrev pub locks_in : ReleaseMode → Bool
locks_in Default = false
locks_in LockIfLastIndex = true

-- the credit of a release: after it has freed its index what the change is good for in its mode, at its
-- lock that of the lock
abbrev pub release_credit : ReleaseMode → ReleaseStage → ℕ
release_credit mode releases.EmptiesCell = 0
release_credit mode (releases.Raises raise) = for_mode mode
release_credit mode (releases.Locks lock) = lock_credit lock

-- a release is late at its lock, as the lock is
abbrev pub release_late : ℕ → ReleaseStage → ℕ
release_late n releases.EmptiesCell = 0
release_late n (releases.Raises raise) = 0
release_late n (releases.Locks lock) = lock_late n lock

-- what is left of a release after a step: its credit, and 1 where its lock is late
abbrev pub release_left : ReleaseMode → ℕ → After Release Released → ℕ
release_left mode new (GoOn run) = release_credit mode run.stage + release_late new run.stage
release_left mode new (Done answer) = 0

-- A move of the counter is counted against a call that may not lock, since the move may make the lock
-- of another call late.
abbrev pub counts_move : Bool → ℕ → ℕ → ℕ
counts_move true n new = 0
counts_move false n new = moved n new

-- Where the counter did not move, no move is counted.
pub counts_none : (may : Bool) (n new : ℕ) → new ≡ n → counts_move may n new ≡ 0
counts_none may n new same = grind (arith, moved_none)

-- a release stands at its lock only in the mode that locks
abbrev pub StandsIn : ReleaseMode → ReleaseStage → Type 0
StandsIn mode (releases.Locks lock) = mode ≡ LockIfLastIndex
StandsIn mode stage = Unit {0}

module _ (call : Release) (n new : ℕ) where
  module _ (T : Type 0) (p : ℕ) (given : GiveBack) (cell : ℕ) where
    -- the step of a release at this stage keeps to what the release can still add
    abbrev ReleasePays : ReleaseStage → Type 0
    ReleasePays stage =
        new + release_left given.mode new (release_takes call stage given (release_old stage n cell))
        + counts_move (locks_in given.mode) n new
        ≤ n + (release_credit given.mode stage + release_late n stage)
        + 3 * changes {T = T} (release_effects p given stage (release_old stage n cell))

    -- each step of a release but one that locks keeps to what the release can still add
    pub release_pays : (stage : ReleaseStage) → StandsIn given.mode stage → new ≡ release_then stage n → new ≢ locked → ReleasePays stage
    release_pays stage stands is open_then = grind (arith, counts_none, for_mode_most, moved_none, moved_most, raise_moves, lock_pays)
