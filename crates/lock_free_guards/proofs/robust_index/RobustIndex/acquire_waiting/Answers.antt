-- `RobustIndex::acquire_waiting` (src/robust_index/waits.rt): the invariant of its loop holds at
-- the start and after each iteration, and its returns meet the clauses `acquired`, `locked` and
-- `lock`.
use Rattle.std.proofs.Common.{refl, subst, ◌∙◌, ◌+◌}
use Rattle.model.specs.declared.event.Start.TheVariants.{Robust}
use Rattle.model.specs.declared.families.indices.robust.RobustStart.TheVariants.{Acquire}
use Rattle.steps.specs.declared.indices.enums.UniqueIndexSetAcquireFailure.TheVariants.{IsLocked}
use Rattle.lock_free_owners.specs.RobustUniqueIndexSet.{view}
use Rattle.lock_free_guards.specs.Acquired.{HasFailed}
use Rattle.lock_free_guards.specs.Guards.{index_view, value_of}
use Rattle.lock_free_guards.proofs.Trying.{none_tried}
use Rattle.lock_free_guards.proofs.RobustTries.{acquired, failed, one_next}
use Rattle.lock_free_guards.proofs.robust_index.RobustIndex.acquire_waiting.Goals as goal

-- the invariant of the loop holds before its first iteration
pub loop-init : goal.loop-init
loop-init g c = (refl, (0, none_tried (Robust (Acquire c.args.owner)) (view c.args.pass)))

-- a try that took none is one more of the tries that took none
pub loop-preserved : goal.loop-preserved
loop-preserved g c =
    let was = c.loop.invariant in
    let same = c.in-Err.ensures.failed_same in
    let none = subst (λ f. HasFailed c.args.owner f (view c.loop.pass) (view c.in-Err.back)) c.in-OutOfIndices.is c.in-Err.ensures.failed in (
      same.set ∙ was.0,
      (was.1.0 + 1, one_next c.args.owner was.1.0 (view c.args.pass) (view c.loop.pass) (view c.in-Err.back) was.1.1 same.goes none.taken),
    )

-- the try that took an index ends the tries
pub returns-in-Ok-clause-acquired : goal.returns-in-Ok-clause-acquired
returns-in-Ok-clause-acquired g c =
    let was = c.loop.invariant in
    let i = c.in-Ok.index in (
      was.1.0,
      acquired c.args.owner was.1.0 (view c.args.pass) (view c.loop.pass) (index_view i) was.1.1 c.in-Ok.ensures.same.goes (value_of i)
          c.in-Ok.ensures.acquired,
    )

-- the try that saw the lock ends the tries
pub returns-in-IsLocked-clause-locked : goal.returns-in-IsLocked-clause-locked
returns-in-IsLocked-clause-locked g c =
    let was = c.loop.invariant in
    let shut = subst (λ f. HasFailed c.args.owner f (view c.loop.pass) (view c.in-Err.back)) c.in-IsLocked.is c.in-Err.ensures.failed in (
      was.1.0,
      failed c.args.owner was.1.0 (view c.args.pass) (view c.loop.pass) (view c.in-Err.back) was.1.1 c.in-Err.ensures.failed_same.goes IsLocked
          shut,
    )

-- a try that is refused because the set is locked has seen the lock (clause `lock`)
pub returns-in-IsLocked-clause-lock : goal.returns-in-IsLocked-clause-lock
returns-in-IsLocked-clause-lock g c =
    (subst (λ f. HasFailed c.args.owner f (view c.loop.pass) (view c.in-Err.back)) c.in-IsLocked.is c.in-Err.ensures.failed).refused.locked refl
