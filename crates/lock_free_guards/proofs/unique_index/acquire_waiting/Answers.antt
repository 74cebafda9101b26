-- `acquire_waiting` (src/unique_index.rt): the invariant of its loop holds at the start and after
-- each iteration, and its returns meet the clauses `acquired`, `held`, `locked` and `lock`.
use Rattle.std.proofs.Common.{refl, subst, ◌∙◌, ◌+◌}
use Rattle.model.specs.declared.event.Start.TheVariants.{Indices}
use Rattle.model.specs.declared.families.indices.IndexStart.TheVariants.{Acquire}
use Rattle.steps.specs.declared.indices.enums.UniqueIndexSetAcquireFailure.TheVariants.{IsLocked}
use Rattle.lock_free_sets.specs.Unique.Contracts.{WasRefused}
use Rattle.lock_free_sets.specs.UniqueIndexSet.{index_pass, index_view, value_of, view}
use Rattle.lock_free_guards.proofs.Trying.{none_tried}
use Rattle.lock_free_guards.proofs.UniqueTries.{acquired, holds_more, lock_seen, one_next, refused}
use Rattle.lock_free_guards.proofs.unique_index.acquire_waiting.Goals as goal

-- the invariant of the loop holds before its first iteration
pub loop-init : goal.loop-init
loop-init g c = (refl, (0, none_tried (Indices Acquire) (view c.args.pass)))

-- a try that took none is one more of the tries that took none
pub loop-preserved : goal.loop-preserved
loop-preserved g c =
    let was = c.loop.invariant in
    let same = c.in-Err.ensures.refused_same in
    let none = subst (λ f. WasRefused f (view c.loop.pass) (view c.in-Err.back)) c.in-OutOfIndices.is c.in-Err.ensures.refused in
    (same.set ∙ was.0, (was.1.0 + 1, one_next was.1.0 c.args.pass c.loop.pass c.in-Err.back was.1.1 same none))

-- a try that took an index ends as clause `acquired` says
pub returns-in-Ok-clause-acquired : goal.returns-in-Ok-clause-acquired
returns-in-Ok-clause-acquired g c =
    let was = c.loop.invariant in
    let i = c.in-Ok.index in
    (was.1.0, acquired was.1.0 c.args.pass c.loop.pass (index_pass i) was.1.1 c.in-Ok.ensures.same (value_of i) c.in-Ok.ensures.acquired)

-- a pass whose try took an index holds it beside those that it held (clause `held`)
pub returns-in-Ok-clause-held : goal.returns-in-Ok-clause-held
returns-in-Ok-clause-held g c =
    let was = c.loop.invariant in
    let i = c.in-Ok.index in
    holds_more was.1.0 (view c.args.pass) (view c.loop.pass) was.1.1 (index_view i) (value_of i) c.in-Ok.ensures.acquired

pub returns-in-IsLocked-clause-locked : goal.returns-in-IsLocked-clause-locked
returns-in-IsLocked-clause-locked g c =
    let was = c.loop.invariant in
    let shut = subst (λ f. WasRefused f (view c.loop.pass) (view c.in-Err.back)) c.in-IsLocked.is c.in-Err.ensures.refused in
    (was.1.0, refused was.1.0 c.args.pass c.loop.pass c.in-Err.back was.1.1 c.in-Err.ensures.refused_same IsLocked shut)

-- a try that is refused because the set is locked has seen the lock (clause `lock`)
pub returns-in-IsLocked-clause-lock : goal.returns-in-IsLocked-clause-lock
returns-in-IsLocked-clause-lock g c =
    lock_seen (view c.loop.pass) (view c.in-Err.back)
    (subst (λ f. WasRefused f (view c.loop.pass) (view c.in-Err.back)) c.in-IsLocked.is c.in-Err.ensures.refused)
