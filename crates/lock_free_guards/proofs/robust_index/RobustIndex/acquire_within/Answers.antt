-- `RobustIndex::acquire_within` (src/robust_index/waits.rt): the invariant of its loop holds at
-- the start and after each iteration, and its returns meet the clauses `acquired`, `locked`,
-- `lock` and `unlocked`.
use Rattle.std.proofs.Common.{◌≡◌, ◌≤◌, ◌-◌, refl, subst, ◌∙◌, arith}
use Rattle.model.specs.declared.event.Start.TheVariants.{Robust}
use Rattle.model.specs.declared.families.indices.robust.RobustStart.TheVariants.{Acquire}
use Rattle.steps.specs.declared.indices.enums.UniqueIndexSetAcquireFailure.TheVariants.{IsLocked}
use Rattle.lock_free_owners.specs.RobustUniqueIndexSet.{view}
use Rattle.lock_free_guards.specs.Acquired.{HasFailed}
use Rattle.lock_free_guards.specs.Guards.{index_view, value_of}
use Rattle.lock_free_guards.specs.Tries.{HasTried}
use Rattle.lock_free_guards.proofs.Trying.{none_tried}
use Rattle.lock_free_guards.proofs.RobustTries as tries
use Rattle.lock_free_guards.proofs.robust_index.RobustIndex.acquire_within.Goals as goal

-- the invariant of the loop holds before its first iteration
pub loop-init : goal.loop-init
loop-init g c = (refl, none_tried (Robust (Acquire c.args.owner)) (view c.args.pass))

-- a try that took none is one more of the tries that took none
pub loop-preserved : goal.loop-preserved
loop-preserved g c =
    let was = c.loop.invariant in
    let same = c.in-Err.ensures.failed_same in
    let none = subst (λ f. HasFailed c.args.owner f (view c.loop.pass) (view c.in-Err.back)) c.in-OutOfIndices.is c.in-Err.ensures.failed in (
      same.set ∙ was.0,
      tries.one_next c.args.owner c.loop.counter (view c.args.pass) (view c.loop.pass) (view c.in-Err.back) was.1 same.goes none.taken,
    )

-- the try that took an index ends the tries within their limit
pub returns-in-Ok-clause-acquired : goal.returns-in-Ok-clause-acquired
returns-in-Ok-clause-acquired g c =
    let i = c.in-Ok.index in
    let few : c.loop.counter ≤ c.args.tries - 1 = omega arith in (
      c.loop.counter,
      few,
      tries.acquired c.args.owner c.loop.counter (view c.args.pass) (view c.loop.pass) (index_view i) c.loop.invariant.1 c.in-Ok.ensures.same.goes
          (value_of i) c.in-Ok.ensures.acquired,
    )

-- the try that saw the lock ends the tries within their limit
pub returns-in-IsLocked-clause-locked : goal.returns-in-IsLocked-clause-locked
returns-in-IsLocked-clause-locked g c is =
    let few : c.loop.counter ≤ c.args.tries - 1 = omega arith in
    let shut = subst (λ f. HasFailed c.args.owner f (view c.loop.pass) (view c.in-Err.back)) is c.in-Err.ensures.failed in (
      c.loop.counter,
      few,
      tries.failed c.args.owner c.loop.counter (view c.args.pass) (view c.loop.pass) (view c.in-Err.back) c.loop.invariant.1
          c.in-Err.ensures.failed_same.goes IsLocked shut,
    )

-- a try that is refused because the set is locked has seen the lock (clause `lock`)
pub returns-in-IsLocked-clause-lock : goal.returns-in-IsLocked-clause-lock
returns-in-IsLocked-clause-lock g c is =
    (subst (λ f. HasFailed c.args.owner f (view c.loop.pass) (view c.in-Err.back)) is c.in-Err.ensures.failed).refused.locked refl

-- the last try, if it took an index, ends the tries within their limit (clause `acquired`)
pub returns-clause-acquired : goal.returns-clause-acquired
returns-clause-acquired g c =
    let all : c.loop.counter ≡ c.args.tries - 1 = omega arith in
    let tried = subst (λ n. HasTried n (Robust (Acquire c.args.owner)) (view c.args.pass) (view c.loop.pass)) all c.loop.invariant.1 in
    tries.within c.args.owner c.args.tries c.args.pass c.loop.pass tried c.acquire-2.result c.acquire-2.ensures.same c.acquire-2.ensures.acquired

-- where the last try found no index left, the set was not seen locked before (clause `unlocked`)
pub returns-clause-unlocked : goal.returns-clause-unlocked
returns-clause-unlocked g c =
    let all : c.loop.counter ≡ c.args.tries - 1 = omega arith in
    let tried = subst (λ n. HasTried n (Robust (Acquire c.args.owner)) (view c.args.pass) (view c.loop.pass)) all c.loop.invariant.1 in
    tries.unlocked c.args.owner c.args.tries c.args.pass c.loop.pass tried c.acquire-2.result c.acquire-2.ensures.failed
