-- `acquire_within` (src/unique_index.rt): the invariant of its loop holds at the start and after
-- each iteration, and its returns meet the clauses `acquired`, `held`, `locked`, `lock`,
-- `unlocked` and `kept`.
use Rattle.std.proofs.Common.{◌≡◌, ◌≤◌, ◌-◌, refl, subst, ◌∙◌, arith}
use Rattle.model.specs.declared.event.Start.TheVariants.{Indices}
use Rattle.model.specs.declared.families.indices.IndexStart.TheVariants.{Acquire}
use Rattle.steps.specs.declared.indices.enums.UniqueIndexSetAcquireFailure.TheVariants.{IsLocked}
use Rattle.lock_free_sets.specs.Unique.Contracts.{WasRefused}
use Rattle.lock_free_sets.specs.UniqueIndexSet.{index_pass, index_view, value_of, view}
use Rattle.lock_free_guards.specs.Tries.{HasTried}
use Rattle.lock_free_guards.proofs.Trying.{none_tried}
use Rattle.lock_free_guards.proofs.UniqueTries as tries
use Rattle.lock_free_guards.proofs.unique_index.acquire_within.Goals as goal

-- the invariant of the loop holds before its first iteration
pub loop-init : goal.loop-init
loop-init g c = (refl, none_tried (Indices Acquire) (view c.args.pass))

-- a try that took none is one more of the tries that took none
pub loop-preserved : goal.loop-preserved
loop-preserved g c =
    let was = c.loop.invariant in
    let same = c.in-Err.ensures.refused_same in
    let none = subst (λ f. WasRefused f (view c.loop.pass) (view c.in-Err.back)) c.in-OutOfIndices.is c.in-Err.ensures.refused in
    (same.set ∙ was.0, tries.one_next c.loop.counter c.args.pass c.loop.pass c.in-Err.back was.1 same none)

-- the try that took an index ends the tries within their limit
pub returns-in-Ok-clause-acquired : goal.returns-in-Ok-clause-acquired
returns-in-Ok-clause-acquired g c =
    let i = c.in-Ok.index in
    let few : c.loop.counter ≤ c.args.tries - 1 = omega arith in (
      c.loop.counter,
      few,
      tries.acquired c.loop.counter c.args.pass c.loop.pass (index_pass i) c.loop.invariant.1 c.in-Ok.ensures.same (value_of i)
          c.in-Ok.ensures.acquired,
    )

-- a pass whose try took an index holds it beside those that it held (clause `held`)
pub returns-in-Ok-clause-held : goal.returns-in-Ok-clause-held
returns-in-Ok-clause-held g c =
    let i = c.in-Ok.index in
    tries.holds_more c.loop.counter (view c.args.pass) (view c.loop.pass) c.loop.invariant.1 (index_view i) (value_of i) c.in-Ok.ensures.acquired

-- the try that saw the lock ends the tries within their limit
pub returns-in-IsLocked-clause-locked : goal.returns-in-IsLocked-clause-locked
returns-in-IsLocked-clause-locked g c is =
    let few : c.loop.counter ≤ c.args.tries - 1 = omega arith in
    let shut = subst (λ f. WasRefused f (view c.loop.pass) (view c.in-Err.back)) is c.in-Err.ensures.refused in (
      c.loop.counter,
      few,
      tries.refused c.loop.counter c.args.pass c.loop.pass c.in-Err.back c.loop.invariant.1 c.in-Err.ensures.refused_same IsLocked shut,
    )

-- a try that is refused because the set is locked has seen the lock (clause `lock`)
pub returns-in-IsLocked-clause-lock : goal.returns-in-IsLocked-clause-lock
returns-in-IsLocked-clause-lock g c is =
    tries.lock_seen (view c.loop.pass) (view c.in-Err.back)
    (subst (λ f. WasRefused f (view c.loop.pass) (view c.in-Err.back)) is c.in-Err.ensures.refused)

-- a pass whose last try took an index holds it beside those that it held (clause `held`)
pub returns-clause-held : goal.returns-clause-held
returns-clause-held g c =
    let all : c.loop.counter ≡ c.args.tries - 1 = omega arith in
    let tried = subst (λ n. HasTried n (Indices Acquire) (view c.args.pass) (view c.loop.pass)) all c.loop.invariant.1 in
    tries.held c.args.tries c.args.pass c.loop.pass tried c.acquire-2.result c.acquire-2.ensures.acquired

-- where the last try found no index left, the set was not seen locked before (clause `unlocked`)
pub returns-clause-unlocked : goal.returns-clause-unlocked
returns-clause-unlocked g c =
    let all : c.loop.counter ≡ c.args.tries - 1 = omega arith in
    let tried = subst (λ n. HasTried n (Indices Acquire) (view c.args.pass) (view c.loop.pass)) all c.loop.invariant.1 in
    tries.unlocked c.args.tries c.args.pass c.loop.pass tried c.acquire-2.result c.acquire-2.ensures.refused

-- a pass whose last try took none holds what it held (clause `kept`)
pub returns-clause-kept : goal.returns-clause-kept
returns-clause-kept g c =
    let all : c.loop.counter ≡ c.args.tries - 1 = omega arith in
    let tried = subst (λ n. HasTried n (Indices Acquire) (view c.args.pass) (view c.loop.pass)) all c.loop.invariant.1 in
    tries.kept c.args.tries c.args.pass c.loop.pass tried c.acquire-2.result c.acquire-2.ensures.refused_same c.acquire-2.ensures.refused
