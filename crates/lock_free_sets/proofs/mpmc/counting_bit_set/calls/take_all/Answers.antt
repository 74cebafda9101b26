-- `take_all` (src/mpmc/counting_bit_set/calls.rt): its call of `step` meets the requirements `rule` and `at`, its call of `call_where`
-- meets what that requires, the invariant of its loop holds at the start and after each iteration, and its return meets the clauses
-- `done`, `taken` and `steps`.
use Rattle.lock_free_sets.proofs.Names.{refl, sym, subst, ◌∙◌, fresh, seen}
use Rattle.lock_free_sets.specs.Sets.Kinds.{Counts}
use Rattle.lock_free_sets.proofs.Sets.Emptying.{keeps}
use Rattle.lock_free_sets.proofs.Sets.Emptied.{took}
use Rattle.lock_free_sets.proofs.Counts.Taken.{SoFar, first_so_far, within, so_far_on, taken_all, taken_steps}
use Rattle.lock_free_sets.proofs.mpmc.counting_bit_set.calls.take_all.Goals as goal
use Rattle.lock_free_sets.proofs.mpmc.counting_bit_set.calls.take_all.Given as given

-- each step of the loop keeps the rule of the table (requirement `rule`)
pub step-after-requires-clause-rule : goal.step-after-requires-clause-rule
step-after-requires-clause-rule g c = keeps Counts

-- by the invariant of the loop the call is under way (requirement `at`)
pub step-after-requires-clause-at : goal.step-after-requires-clause-at
step-after-requires-clause-at g c = (seen c.args.seated.now, c.loop-next.invariant.2.call.at)

-- the closure may be called with the place and the count that the step took out, if this is above
-- 0
pub call_where-requires : goal.call_where-requires
call_where-requires g c some small =
    let h = c.loop-next.invariant.2 in
    c.requires.states.at h.handed.states c.loop-next.visit
    (record { bit = c.loop-next.call.word; count = c.step-after.new.room.0 }) h.handed.folds h.handed.ascend h.handed.below
    (within c.loop-next.invariant.2 (took Counts c.step-after.ensures.taken c.step-after.ensures.told))
    some small

-- after each step that goes on, the closure was called with what the call has taken out
pub loop-next-preserved : goal.loop-next-preserved
loop-next-preserved g c = (
  (
    c.step-after.ensures.same.0 ∙ c.loop-next.invariant.0.0,
    c.step-after.ensures.same.1 ∙ c.loop-next.invariant.0.1,
    c.step-after.ensures.same.2 ∙ c.loop-next.invariant.0.2,
  ),
  c.step-after.ensures.capacity ∙ c.loop-next.invariant.1,
  so_far_on c.loop-next.invariant.2 (took Counts c.step-after.ensures.taken c.step-after.ensures.told)
      c.call_where.ensures.small c.call_where.ensures.called c.call_where.ensures.passed c.in-GoOn.is,
)

-- as the loop begins nothing is taken out, and the closure was not called
pub loop-next-init : goal.loop-next-init
loop-next-init g c =
    let start = first_so_far (λ p x q. given.F-step g p x tt q) c.args.capacity c.args.visit.now (seen c.args.seated.now) c.requires.idle c.requires.places in (
      (refl, refl, refl),
      refl,
      subst (λ call. SoFar (λ p x q. given.F-step g p x tt q) c.args.capacity c.args.visit.now (seen c.args.seated.now)
          (seen c.args.seated.now) call fresh c.args.visit.now)
          (sym c.counts-call.ensures) start,
    )

-- the call is over, and the pass is as a whole call on a set leaves it (clause `done`)
pub returns-in-Done-clause-done : goal.returns-in-Done-clause-done
returns-in-Done-clause-done g c =
    (taken_all c.loop-next.invariant.2 (took Counts c.step-after.ensures.taken c.step-after.ensures.told)
    c.call_where.ensures.small c.call_where.ensures.called c.call_where.ensures.passed c.in-Done.is).1

-- the call took out just the counts that the closure was called with
pub returns-in-Done-clause-taken : goal.returns-in-Done-clause-taken
returns-in-Done-clause-taken g c =
    (taken_all c.loop-next.invariant.2 (took Counts c.step-after.ensures.taken c.step-after.ensures.told)
    c.call_where.ensures.small c.call_where.ensures.called c.call_where.ensures.passed c.in-Done.is).0

-- the call takes one step for each place at most
pub returns-in-Done-clause-steps : goal.returns-in-Done-clause-steps
returns-in-Done-clause-steps g c =
    taken_steps c.loop-next.invariant.2 (took Counts c.step-after.ensures.taken c.step-after.ensures.told) c.in-Done.is
