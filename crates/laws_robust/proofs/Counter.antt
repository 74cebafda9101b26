-- What an operation of a call of a robust index set does to the counter, which is the first word, and what
-- value it finds. Functions named `.._then` give the counter after the step of a part or call at a stage;
-- functions named `.._old` give the value that the step finds, where `cell` is the value of its cell.
use Rattle.model.specs.Families.{ask_of, is_question}
use Rattle.model.specs.Families.Indices.Robust.Calls.{want}
use Rattle.model.specs.Turns.{old_of, words_after}
use Rattle.model.specs.declared.families.indices.robust.calls.RobustFlight.{RobustFlight}
use Rattle.model.specs.declared.families.indices.robust.calls.RobustFlight.TheVariants.{Acquire, BorrowedIndices, Find, IsLocked, Recover, Release}
use Rattle.std.proofs.Common.{List, Some, arith, get_or, get_or-set_other, get_or-set_same, if◌then◌else◌, length, refl, true, ℕ, ◌<◌, ◌==◌, ◌≡◌, ◌≤◌}
use Rattle.std.proofs.lemmas.Bool.Decides.{nat_tests}
use Rattle.steps.specs.Ask.{written}
use Rattle.steps.specs.Indices.Robust.Acquire.{acquire_asks}
use Rattle.steps.specs.Indices.Robust.Find.{find_asks}
use Rattle.steps.specs.Indices.Robust.Parts.{cell_word, count_want, empty, lock_want, locked, one_more, raise_want}
use Rattle.steps.specs.Indices.Robust.Recover.{recover_asks}
use Rattle.steps.specs.Indices.Robust.Release.{release_asks}
use Rattle.steps.specs.declared.ask.Op.{Op}
use Rattle.steps.specs.declared.ask.Op.TheVariants.{Exchange, Load}
use Rattle.steps.specs.declared.indices.robust.release.GiveBack.{GiveBack}
use Rattle.steps.specs.declared.indices.robust.acquire.AcquireStage.{AcquireStage}
use Rattle.steps.specs.declared.indices.robust.acquire.AcquireStage.TheVariants as acquires
use Rattle.steps.specs.declared.indices.robust.find.FindStage.{FindStage}
use Rattle.steps.specs.declared.indices.robust.find.FindStage.TheVariants as finds
use Rattle.steps.specs.declared.indices.robust.parts.Count.{Count}
use Rattle.steps.specs.declared.indices.robust.parts.Count.TheVariants as counts
use Rattle.steps.specs.declared.indices.robust.parts.Lock.{Lock}
use Rattle.steps.specs.declared.indices.robust.parts.Lock.TheVariants as locks
use Rattle.steps.specs.declared.indices.robust.parts.Raise.{Raise}
use Rattle.steps.specs.declared.indices.robust.parts.Raise.TheVariants as raises
use Rattle.steps.specs.declared.indices.robust.recover.RecoverStage.{RecoverStage}
use Rattle.steps.specs.declared.indices.robust.recover.RecoverStage.TheVariants as recovers
use Rattle.steps.specs.declared.indices.robust.release.ReleaseStage.{ReleaseStage}
use Rattle.steps.specs.declared.indices.robust.release.ReleaseStage.TheVariants as releases

-- two numbers whose test answers true are equal
pub tested : (a b : ℕ) → (a == b) ≡ true → a ≡ b
tested a b t = grind (arith, nat_tests)

-- ---- the counter after a step, and the value that the step finds

-- the counter after a step of a raise, where it was `n`
abbrev pub raise_then : Raise → ℕ → ℕ
raise_then raises.LoadsCounter n = n
raise_then (raises.ExchangesCounter k) n = if n == k then one_more k else n

-- the counter after a step of a count, where it was `n`
abbrev pub count_then : Count → ℕ → ℕ
count_then counts.LoadsCounter n = n
count_then (counts.LoadsCell counter index filled) n = n
count_then (counts.ExchangesCounter k filled) n = if n == k then one_more k else n

-- what a step of a count finds, where the counter is `n` and the cell is `cell`
abbrev pub count_old : Count → ℕ → ℕ → ℕ
count_old counts.LoadsCounter n cell = n
count_old (counts.LoadsCell counter index filled) n cell = cell
count_old (counts.ExchangesCounter k filled) n cell = n

-- the counter after a step of a lock, where it was `n`
abbrev pub lock_then : Lock → ℕ → ℕ
lock_then (locks.Counts count) n = count_then count n
lock_then (locks.ExchangesCounter k) n = if n == k then locked else n

-- what a step of a lock finds, where the counter is `n` and the cell is `cell`
abbrev pub lock_old : Lock → ℕ → ℕ → ℕ
lock_old (locks.Counts count) n cell = count_old count n cell
lock_old (locks.ExchangesCounter k) n cell = n

-- the counter after a step of an acquire, where it was `n`
abbrev pub acquire_then : AcquireStage → ℕ → ℕ
acquire_then acquires.LoadsCounter n = n
acquire_then (acquires.FillsCell counter index) n = n
acquire_then (acquires.ChecksCounter k) n = if n == k then k else n
acquire_then (acquires.Raises index raise) n = raise_then raise n

-- what a step of an acquire finds, where the counter is `n` and the cell is `cell`
abbrev pub acquire_old : AcquireStage → ℕ → ℕ → ℕ
acquire_old acquires.LoadsCounter n cell = n
acquire_old (acquires.FillsCell counter index) n cell = cell
acquire_old (acquires.ChecksCounter k) n cell = n
acquire_old (acquires.Raises index raise) n cell = n

-- the counter after a step of a release, where it was `n`
abbrev pub release_then : ReleaseStage → ℕ → ℕ
release_then releases.EmptiesCell n = n
release_then (releases.Raises raise) n = raise_then raise n
release_then (releases.Locks lock) n = lock_then lock n

-- what a step of a release finds, where the counter is `n` and the cell is `cell`
abbrev pub release_old : ReleaseStage → ℕ → ℕ → ℕ
release_old releases.EmptiesCell n cell = cell
release_old (releases.Raises raise) n cell = n
release_old (releases.Locks lock) n cell = lock_old lock n cell

-- the counter after a step of a recovery, where it was `n`
abbrev pub recover_then : RecoverStage → ℕ → ℕ
recover_then (recovers.Raises index raise) n = raise_then raise n
recover_then (recovers.Locks index lock) n = lock_then lock n
recover_then stage n = n

-- the value that a recovery's step finds
abbrev pub recover_old : RecoverStage → ℕ → ℕ → ℕ
recover_old recovers.LoadsCounter n cell = n
recover_old (recovers.LoadsCell index) n cell = cell
recover_old (recovers.Asks index owner) n cell = cell
recover_old (recovers.EmptiesCell index owner) n cell = cell
recover_old (recovers.Raises index raise) n cell = n
recover_old (recovers.Locks index lock) n cell = lock_old lock n cell
recover_old recovers.LoadsCounterAgain n cell = n

-- the counter after a step of any call
abbrev pub robust_then : RobustFlight → ℕ → ℕ
robust_then (Acquire run) n = acquire_then run.call.stage n
robust_then (Release run) n = release_then run.call.stage n
robust_then (Find run) n = n
robust_then (Recover run) n = recover_then run.call.stage n
robust_then (BorrowedIndices run) n = count_then run.call.count n
robust_then (IsLocked run) n = n

-- the value that a step of any call finds
abbrev pub robust_old : RobustFlight → ℕ → ℕ → ℕ
robust_old (Acquire run) n cell = acquire_old run.call.stage n cell
robust_old (Release run) n cell = release_old run.call.stage n cell
robust_old (Find run) n cell = cell
robust_old (Recover run) n cell = recover_old run.call.stage n cell
robust_old (BorrowedIndices run) n cell = count_old run.call.count n cell
robust_old (IsLocked run) n cell = n

-- the counter of a set: its first word
abbrev pub counter_of : List ℕ → ℕ
counter_of words = get_or words 0 0

module _ (words : List ℕ) where
  abbrev n : ℕ
  n = counter_of words

  -- ---- the value that an operation finds is the one that `.._old` says

  -- a raise finds the counter at each of its steps
  pub raise_finds : (raise : Raise) → old_of words (ask_of (raise_want raise)) ≡ counter_of words
  raise_finds raises.LoadsCounter = refl
  raise_finds (raises.ExchangesCounter k) = refl

  -- what a count finds at a step, where it reads the counter or a cell
  pub count_finds : (count : Count)
      → old_of words (ask_of (count_want count)) ≡ count_old count (counter_of words) (old_of words (ask_of (count_want count)))
  count_finds counts.LoadsCounter = refl
  count_finds (counts.LoadsCell counter index filled) = refl
  count_finds (counts.ExchangesCounter k filled) = refl

  -- what a lock finds at a step, where it reads the counter or a cell
  pub lock_finds : (lock : Lock)
      → old_of words (ask_of (lock_want lock)) ≡ lock_old lock (counter_of words) (old_of words (ask_of (lock_want lock)))
  lock_finds (locks.Counts count) = count_finds count
  lock_finds (locks.ExchangesCounter k) = refl

  -- an operation of an acquire finds the value that `acquire_old` says
  pub acquire_finds : (stage : AcquireStage) (owner : ℕ)
      → old_of words (ask_of (acquire_asks stage owner)) ≡ acquire_old stage (counter_of words) (old_of words (ask_of (acquire_asks stage owner)))
  acquire_finds acquires.LoadsCounter owner = refl
  acquire_finds (acquires.FillsCell counter index) owner = refl
  acquire_finds (acquires.ChecksCounter k) owner = refl
  acquire_finds (acquires.Raises index raise) owner = raise_finds raise

  -- an operation of a release finds the value that `release_old` says
  pub release_finds : (stage : ReleaseStage) (given : GiveBack)
      → old_of words (ask_of (release_asks stage given)) ≡ release_old stage (counter_of words) (old_of words (ask_of (release_asks stage given)))
  release_finds releases.EmptiesCell given = refl
  release_finds (releases.Raises raise) given = raise_finds raise
  release_finds (releases.Locks lock) given = lock_finds lock

  -- ---- the counter that an operation leaves is the one that `.._then` says

  module _ (some : 0 < length words) where
    -- an operation on the first word writes the counter
    pub first_then : (op : Op) → counter_of (words_after words (Some (record { word = 0; op = op }))) ≡ written op (counter_of words)
    first_then op = get_or-set_same words 0 (written op (counter_of words)) 0 some

    -- an operation on another word leaves the counter
    pub other_then : (word : ℕ) (op : Op) → 1 ≤ word → counter_of (words_after words (Some (record { word = word; op = op }))) ≡ counter_of words
    other_then word op later = get_or-set_other words word 0 (written op (get_or words word 0)) 0 (λ e. absurd (omega arith))

    -- the counter after a step of a raise
    pub raise_leaves : (raise : Raise) → counter_of (words_after words (ask_of (raise_want raise))) ≡ raise_then raise (counter_of words)
    raise_leaves raises.LoadsCounter = first_then Load
    raise_leaves (raises.ExchangesCounter k) = first_then (Exchange k (one_more k))

    -- the counter after a step of a count
    pub count_leaves : (count : Count) → counter_of (words_after words (ask_of (count_want count))) ≡ count_then count (counter_of words)
    count_leaves counts.LoadsCounter = first_then Load
    count_leaves (counts.LoadsCell counter index filled) = other_then (cell_word index) Load (omega arith)
    count_leaves (counts.ExchangesCounter k filled) = first_then (Exchange k (one_more k))

    -- the counter after a step of a lock
    pub lock_leaves : (lock : Lock) → counter_of (words_after words (ask_of (lock_want lock))) ≡ lock_then lock (counter_of words)
    lock_leaves (locks.Counts count) = count_leaves count
    lock_leaves (locks.ExchangesCounter k) = first_then (Exchange k locked)

    -- an operation of an acquire leaves the counter that `acquire_then` says
    pub acquire_leaves : (stage : AcquireStage) (owner : ℕ)
        → counter_of (words_after words (ask_of (acquire_asks stage owner))) ≡ acquire_then stage (counter_of words)
    acquire_leaves acquires.LoadsCounter owner = first_then Load
    acquire_leaves (acquires.FillsCell counter index) owner = other_then (cell_word index) (Exchange empty owner) (omega arith)
    acquire_leaves (acquires.ChecksCounter k) owner = first_then (Exchange k k)
    acquire_leaves (acquires.Raises index raise) owner = raise_leaves raise

    -- an operation of a release leaves the counter that `release_then` says
    pub release_leaves : (stage : ReleaseStage) (given : GiveBack)
        → counter_of (words_after words (ask_of (release_asks stage given))) ≡ release_then stage (counter_of words)
    release_leaves releases.EmptiesCell given = other_then (cell_word given.index) (Exchange given.owner empty) (omega arith)
    release_leaves (releases.Raises raise) given = raise_leaves raise
    release_leaves (releases.Locks lock) given = lock_leaves lock

-- ---- any call

module _ (words : List ℕ) where
  -- an operation of any call finds the value that `robust_old` says
  pub robust_finds : (flight : RobustFlight)
      → old_of words (ask_of (want flight)) ≡ robust_old flight (counter_of words) (old_of words (ask_of (want flight)))
  robust_finds (Acquire run) = acquire_finds words run.call.stage run.given
  robust_finds (Release run) = release_finds words run.call.stage run.given
  robust_finds (Find run) = refl
  robust_finds (Recover run) = recover_finds run.call.stage
    where
      -- an operation of a recovery finds the value that `recover_old` says
      recover_finds : (stage : RecoverStage)
          → old_of words (ask_of (recover_asks stage)) ≡ recover_old stage (counter_of words) (old_of words (ask_of (recover_asks stage)))
      recover_finds recovers.LoadsCounter = refl
      recover_finds (recovers.LoadsCell index) = refl
      recover_finds (recovers.Asks index owner) = refl
      recover_finds (recovers.EmptiesCell index owner) = refl
      recover_finds (recovers.Raises index raise) = raise_finds words raise
      recover_finds (recovers.Locks index lock) = lock_finds words lock
      recover_finds recovers.LoadsCounterAgain = refl
  robust_finds (BorrowedIndices run) = count_finds words run.call.count
  robust_finds (IsLocked run) = refl

  module _ (some : 0 < length words) where
    -- an operation of a recovery leaves the counter that `recover_then` says
    recover_leaves : (stage : RecoverStage) → counter_of (words_after words (ask_of (recover_asks stage))) ≡ recover_then stage (counter_of words)
    recover_leaves recovers.LoadsCounter = first_then words some Load
    recover_leaves (recovers.LoadsCell index) = other_then words some (cell_word index) Load (omega arith)
    recover_leaves (recovers.Asks index owner) = refl
    recover_leaves (recovers.EmptiesCell index owner) = other_then words some (cell_word index) (Exchange owner empty) (omega arith)
    recover_leaves (recovers.Raises index raise) = raise_leaves words some raise
    recover_leaves (recovers.Locks index lock) = lock_leaves words some lock
    recover_leaves recovers.LoadsCounterAgain = first_then words some Load

    -- an operation of any call leaves the counter that `robust_then` says
    pub robust_leaves : (flight : RobustFlight) → counter_of (words_after words (ask_of (want flight))) ≡ robust_then flight (counter_of words)
    robust_leaves (Acquire run) = acquire_leaves words some run.call.stage run.given
    robust_leaves (Release run) = release_leaves words some run.call.stage run.given
    robust_leaves (Find run) = find_leaves run.call.stage
      where
        -- no stage of a find changes the counter
        find_leaves : (stage : FindStage) → counter_of (words_after words (ask_of (find_asks stage))) ≡ counter_of words
        find_leaves (finds.LoadsCell index found) = other_then words some (cell_word index) Load (omega arith)
        find_leaves (finds.Asks index found) = refl
    robust_leaves (Recover run) = recover_leaves run.call.stage
    robust_leaves (BorrowedIndices run) = count_leaves words some run.call.count
    robust_leaves (IsLocked run) = first_then words some Load

-- a question leaves the counter, and the call gets the decision
pub robust_asks : (flight : RobustFlight) (n cell : ℕ) → is_question (want flight) ≡ true
    → (n ≡ robust_then flight n) × (cell ≡ robust_old flight n cell)
robust_asks flight n cell due = grind arith
