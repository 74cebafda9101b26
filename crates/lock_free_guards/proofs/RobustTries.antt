-- Acquires of a robust unique index set for an owner that are tried again: what each try adds, and how
-- the last one ends them.
use Rattle.std.proofs.Common.{◌≡◌, ℕ, ◌+◌, ◌-◌, ◌≤◌, false, Result, Ok, Err, IfOk, IfErr, subst, arith}
use Rattle.steps.specs.declared.indices.enums.UniqueIndexSetAcquireFailure.{UniqueIndexSetAcquireFailure}
use Rattle.steps.specs.declared.indices.enums.UniqueIndexSetAcquireFailure.TheVariants.{OutOfIndices}
use Rattle.model.specs.declared.event.Answer.TheVariants.{NoIndex}
use Rattle.model.specs.declared.event.Start.{Start}
use Rattle.model.specs.declared.event.Start.TheVariants.{Robust}
use Rattle.model.specs.declared.families.indices.robust.RobustStart.TheVariants.{Acquire}
use Rattle.model.specs.Families.Indices.Reading.{is_locked}
use Rattle.history.specs.History.{Called}
use Rattle.history.specs.Passes.{Goes}
use Rattle.history.specs.declared.view.View.{View}
use Rattle.lock_free_owners.specs.Robust.Contracts.{HasTaken}
use Rattle.lock_free_owners.specs.RobustUniqueIndexSet.{history, view, SamePass}
use Rattle.lock_free_owners.specs.declared.mpmc.robust_unique_index_set.Pass.{Pass}
use Rattle.lock_free_guards.specs.declared.robust_index.RobustIndex.{RobustIndex}
use Rattle.lock_free_guards.specs.Acquired.{HasAcquired, HasFailed}
use Rattle.lock_free_guards.specs.Guards.{index_pass, index_view, value_of}
use Rattle.lock_free_guards.specs.Tries.{HasTried, EndsTries, EndsWithin}
use Rattle.lock_free_guards.proofs.Trying.{one_more, last_try, unlocked_before}

-- The begin of an acquire for this owner.
abbrev start : ℕ → Start ℕ
start owner = Robust (Acquire owner)

as_many : (n : ℕ) → n ≤ n
as_many = omega arith

module _ (owner : ℕ) where
  -- from u to v the pass has tried n times; it goes on from v to w
  module _ (n : ℕ) (u v w : View ℕ) (tried : HasTried n (start owner) u v) (goes : Goes v w) where
    -- A last try that took an index ends the tries.
    pub acquired : (i : ℕ) → HasAcquired owner i v w → EndsTries n (start owner) (HasAcquired owner i) u w
    acquired i has_acquired = last_try (start owner) n u v w tried goes (HasAcquired owner i) has_acquired

    -- A last try that took none ends the tries.
    pub failed : (failure : UniqueIndexSetAcquireFailure) → HasFailed owner failure v w → EndsTries n (start owner) (HasFailed owner failure) u w
    failed failure has_failed = last_try (start owner) n u v w tried goes (HasFailed owner failure) has_failed

    -- One more try to which no index was left makes n + 1 tries.
    pub one_next : HasTaken owner (Err OutOfIndices) v w → HasTried (n + 1) (start owner) u w
    one_next taken =
        one_more (start owner) n u v w tried goes taken.by
        (subst (λ es. Called taken.by (start owner) (NoIndex OutOfIndices) es v w) taken.tells taken.called)

  -- ---- ---- the last one of several tries, by its answer

  module _ (tries : ℕ) (first v : Pass) (tried : HasTried (tries - 1) (start owner) (view first) (view v)) where
    -- an index that the last of at most `tries` tries took ends them within their limit
    pub within : {R : Type 0} (r : Result (RobustIndex R) (UniqueIndexSetAcquireFailure × Pass)) → IfOk r (λ i. SamePass v (index_pass i))
        → IfOk r (λ i. HasAcquired owner (value_of i) (view v) (index_view i))
        → IfOk r (λ i. EndsWithin (start owner) (HasAcquired owner (value_of i)) tries (view first) (index_view i))
    within (Err e) same h = tt
    within (Ok i) same h =
        (tries - 1, as_many (tries - 1), acquired (tries - 1) (view first) (view v) (index_view i) tried same.goes (value_of i) h)

    -- If the last try found no index left, no lock had been seen before the tries.
    unlocked_so : (e : UniqueIndexSetAcquireFailure × Pass) → HasFailed owner e.0 (view v) (view e.1) → e.0 ≡ OutOfIndices
        → is_locked (history first) ≡ false
    unlocked_so e has_failed is = unlocked_before (start owner) (tries - 1) (view first) (view v) tried (has_failed.refused.unlocked is)

    -- Of a result: if the last try found no index left, no lock had been seen before the tries.
    pub unlocked : {R : Type 0} (r : Result (RobustIndex R) (UniqueIndexSetAcquireFailure × Pass))
        → IfErr r (λ e. HasFailed owner e.0 (view v) (view e.1)) → IfErr r (λ e. e.0 ≡ OutOfIndices → is_locked (history first) ≡ false)
    unlocked (Ok i) h = tt
    unlocked (Err e) h = unlocked_so e h
