-- What the calls of the robust set of indices keep to: none of them stores, and those that end by themselves come
-- nearer to their end at each step.
use Rattle.std.specs.Prelude.{◌≡◌, ℕ, ◌+◌, ◌-◌, ◌*◌, ◌<◌, ◌≤◌, IsTrue, nat_lt}
use Rattle.std.proofs.Common.{arith, ap}
use Rattle.std.proofs.lemmas.Bool.Decides.{nat_tests}
use Rattle.steps.specs.Ask.{is_store}
use Rattle.steps.specs.Laws.{no_store}
use Rattle.steps.specs.Picks.{by_eq, by_test}
use Rattle.steps.specs.declared.ask.After.{After}
use Rattle.steps.specs.declared.ask.After.TheVariants.{GoOn, Done}
use Rattle.steps.specs.declared.indices.robust.parts.Raise.{Raise}
use Rattle.steps.specs.declared.indices.robust.parts.Raise.TheVariants as raises
use Rattle.steps.specs.declared.indices.robust.parts.Count.{Count}
use Rattle.steps.specs.declared.indices.robust.parts.Count.TheVariants as counts
use Rattle.steps.specs.declared.indices.robust.parts.Lock.{Lock}
use Rattle.steps.specs.declared.indices.robust.parts.Lock.TheVariants as locks
use Rattle.steps.specs.declared.indices.robust.acquire.Acquire.{Acquire}
use Rattle.steps.specs.declared.indices.robust.acquire.AcquireStage.{AcquireStage}
use Rattle.steps.specs.declared.indices.robust.acquire.AcquireStage.TheVariants as acquires
use Rattle.steps.specs.declared.indices.robust.release.Release.{Release}
use Rattle.steps.specs.declared.indices.robust.release.GiveBack.{GiveBack}
use Rattle.steps.specs.declared.indices.robust.release.ReleaseStage.{ReleaseStage}
use Rattle.steps.specs.declared.indices.robust.release.ReleaseStage.TheVariants as releases
use Rattle.steps.specs.declared.indices.robust.find.Find.{Find}
use Rattle.steps.specs.declared.indices.robust.find.FindStage.{FindStage}
use Rattle.steps.specs.declared.indices.robust.find.FindStage.TheVariants as finds
use Rattle.steps.specs.declared.indices.enums.ReleaseMode.{ReleaseMode}
use Rattle.steps.specs.declared.indices.robust.recover.Recover.{Recover}
use Rattle.steps.specs.declared.indices.robust.recover.RecoverStage.{RecoverStage}
use Rattle.steps.specs.declared.indices.robust.recover.RecoverStage.TheVariants as recovers
use Rattle.steps.specs.declared.indices.robust.looks.BorrowedIndices.{BorrowedIndices}
use Rattle.steps.specs.declared.indices.robust.looks.IsLocked.{IsLocked}
use Rattle.steps.specs.Indices.Robust.Parts.{one_more, raise_want, count_want, lock_want}
use Rattle.steps.specs.Indices.Robust.Acquire.{acquire_asks, acquire_takes}
use Rattle.steps.specs.Indices.Robust.Release.{release_asks, release_takes}
use Rattle.steps.specs.Indices.Robust.Find.{at_find, find_asks, find_comes_to, find_takes, find_after, find_left}
use Rattle.steps.specs.Indices.Robust.Recover.{recover_asks, recover_takes}
use Rattle.steps.specs.Indices.Robust.Looks.{borrowed_after, locked_after}

-- ---- the parts ask for no store

-- no step of a raise is a store
pub raise_stores_not : {A : Type 0} (raise : Raise) → IsTrue (is_store (raise_want raise)) → A
raise_stores_not raises.LoadsCounter t = no_store t
raise_stores_not (raises.ExchangesCounter counter) t = no_store t

-- no step of a count is a store
count_stores_not : {A : Type 0} (count : Count) → IsTrue (is_store (count_want count)) → A
count_stores_not counts.LoadsCounter t = no_store t
count_stores_not (counts.LoadsCell counter index filled) t = no_store t
count_stores_not (counts.ExchangesCounter counter filled) t = no_store t

-- no step of a lock is a store
pub lock_stores_not : {A : Type 0} (lock : Lock) → IsTrue (is_store (lock_want lock)) → A
lock_stores_not (locks.Counts count) t = count_stores_not count t
lock_stores_not (locks.ExchangesCounter counter) t = no_store t

-- ---- nor do the calls

-- an acquire has no store
pub acquire_tells : (c : Acquire) (stage : AcquireStage) (owner : ℕ)
    (room : Unit {0}) (m n : ℕ) → IsTrue (is_store (acquire_asks stage owner))
    → (acquire_takes c stage m ≡ acquire_takes c stage n) × (room ≡ room)
acquire_tells c acquires.LoadsCounter owner room m n t = no_store t
acquire_tells c (acquires.FillsCell counter index) owner room m n t = no_store t
acquire_tells c (acquires.ChecksCounter counter) owner room m n t = no_store t
acquire_tells c (acquires.Raises index raise) owner room m n t =
    raise_stores_not raise t

-- a release has no store, so there is no store whose old value it could use
pub release_tells : (c : Release) (stage : ReleaseStage) (given : GiveBack)
    (room : Unit {0}) (m n : ℕ) → IsTrue (is_store (release_asks stage given))
    → (release_takes c stage given m ≡ release_takes c stage given n) × (room ≡ room)
release_tells c releases.EmptiesCell given room m n t = no_store t
release_tells c (releases.Raises raise) given room m n t = raise_stores_not raise t
release_tells c (releases.Locks lock) given room m n t = lock_stores_not lock t

-- a find only loads
pub find_tells : (c : Find) (stage : FindStage) (owner : ℕ) (room : Unit {0}) (m n : ℕ)
    → IsTrue (is_store (find_asks stage))
    → (find_takes c stage owner m ≡ find_takes c stage owner n) × (room ≡ room)
find_tells c (finds.LoadsCell index found) owner room m n t = no_store t
find_tells c (finds.Asks index found) owner room m n t = no_store t

-- a recovery has no store
pub recover_tells : (c : Recover) (stage : RecoverStage) (mode : ReleaseMode)
    (room : Unit {0}) (m n : ℕ) → IsTrue (is_store (recover_asks stage))
    → (recover_takes c stage mode m ≡ recover_takes c stage mode n) × (room ≡ room)
recover_tells c recovers.LoadsCounter mode room m n t = no_store t
recover_tells c (recovers.LoadsCell index) mode room m n t = no_store t
recover_tells c (recovers.Asks index owner) mode room m n t = no_store t
recover_tells c (recovers.EmptiesCell index owner) mode room m n t = no_store t
recover_tells c (recovers.Raises index raise) mode room m n t = raise_stores_not raise t
recover_tells c (recovers.Locks index lock) mode room m n t = lock_stores_not lock t
recover_tells c recovers.LoadsCounterAgain mode room m n t = no_store t

-- a call that counts the borrowed indices never stores, so there is no store whose old value it could use
pub borrowed_tells : (c : BorrowedIndices) (count : Count) (room : Unit {0}) (m n : ℕ)
    → IsTrue (is_store (count_want count)) → (borrowed_after c m ≡ borrowed_after c n)
    × (room ≡ room)
borrowed_tells c count room m n t = count_stores_not count t

-- ---- find and is_locked end by themselves

-- one more than `find_left` of the call, which each step lowers, and 0 once the call has ended
abbrev find_then : After Find ℕ → ℕ
find_then (GoOn d) = find_left d.capacity d.stage + 1
find_then (Done e) = 0

-- to go on to the next index leaves fewer steps than a new question at this one
next_nearer : (c : Find) (index found : ℕ)
    → find_then (find_comes_to c (index + 1) found) ≤ 2 * (c.capacity - index)
next_nearer c index found =
    by_test (λ a. find_then a ≤ 2 * (c.capacity - index)) (nat_lt (index + 1) c.capacity)
    (GoOn (at_find c (finds.LoadsCell (index + 1) found))) (Done found)
    (λ t. let further : index + 1 < c.capacity = grind (arith, nat_tests) in omega arith)
    (λ t. omega arith)

-- each step of a find after which it goes on leaves fewer steps than were left before
find_stage_fewer : (c : Find) (stage : FindStage) (owner k : ℕ)
    → find_then (find_takes c stage owner k) ≤ find_left c.capacity stage
find_stage_fewer c (finds.LoadsCell index found) owner k =
    by_eq (λ a. find_then a ≤ 2 * (c.capacity - index) + 1) k owner
    (GoOn (at_find c (finds.Asks index (one_more found))))
    (find_comes_to c (index + 1) found)
    (λ e. omega arith) (λ e. let next = next_nearer c index found in omega arith)
find_stage_fewer c (finds.Asks index found) owner k =
    by_eq (λ a. find_then a ≤ 2 * (c.capacity - index)) k 0 (Done found)
    (find_comes_to c (index + 1) found)
    (λ e. omega arith) (λ e. next_nearer c index found)

-- where a find goes on after a step, `find_left` is less
pub find_fewer : (c d : Find) (owner n : ℕ) → find_after c owner n ≡ GoOn d
    → find_left d.capacity d.stage < find_left c.capacity c.stage
find_fewer c d owner n goes =
    let e = ap find_then goes in let f = find_stage_fewer c c.stage owner n in omega arith

-- the look at the lock never goes on: it ends with its first step
pub locked_fewer : (c d : IsLocked) (n : ℕ) → locked_after c n ≡ GoOn d → 0 < 0
locked_fewer c d n goes = cc
