-- `clear_all` (src/mpmc/bit_set/calls.rt): its call of `step` meets the requirements `rule` and `at`, that of `visit_word` the
-- requirement `visits`, the invariant of its loop holds at the start and after each iteration, and its return meets the clauses `done`,
-- `cleared` and `steps`.
use Rattle.lock_free_sets.proofs.Names.{refl, sym, subst, ◌∙◌, fresh, seen}
use Rattle.lock_free_sets.specs.Sets.Kinds.{Flags}
use Rattle.lock_free_sets.proofs.Sets.Emptying.{keeps}
use Rattle.lock_free_sets.proofs.Sets.Emptied.{took}
use Rattle.lock_free_sets.proofs.Bits.Cleared.{SoFar, first_so_far, may_visit, so_far_on, cleared_all, cleared_steps}
use Rattle.lock_free_sets.proofs.mpmc.bit_set.calls.clear_all.Goals as goal
use Rattle.lock_free_sets.proofs.mpmc.bit_set.calls.clear_all.Given as given

-- each step of the loop keeps the rule of the table (requirement `rule`)
pub step-after-requires-clause-rule : goal.step-after-requires-clause-rule
step-after-requires-clause-rule g c = keeps Flags

-- by the invariant of the loop the call is under way (requirement `at`)
pub step-after-requires-clause-at : goal.step-after-requires-clause-at
step-after-requires-clause-at g c = (seen c.args.seated.now, c.loop-next.invariant.2.call.at)

-- the closure may be called with each of the 64 places whose flag was found
pub visit_word-requires-clause-visits : goal.visit_word-requires-clause-visits
visit_word-requires-clause-visits g c n now few stood visited =
    may_visit c.loop-next.invariant.2 (took Flags c.step-after.ensures.taken c.step-after.ensures.told) c.requires.visits n now few stood visited

-- as the loop begins nothing is cleared, and the closure was not called
pub loop-next-init : goal.loop-next-init
loop-next-init g c =
    let start = first_so_far (λ p x q. given.F-step g p x tt q) c.args.capacity c.args.visit.now (seen c.args.seated.now) c.requires.idle c.requires.places in (
      (refl, refl, refl),
      refl,
      subst (λ call. SoFar (λ p x q. given.F-step g p x tt q) c.args.capacity c.args.visit.now (seen c.args.seated.now)
          (seen c.args.seated.now) call fresh c.args.visit.now)
          (sym c.bits-call.ensures) start,
    )

-- after each step that goes on, the closure was called with what the call has cleared
pub loop-next-preserved : goal.loop-next-preserved
loop-next-preserved g c = (
  (
    c.step-after.ensures.same.0 ∙ c.loop-next.invariant.0.0,
    c.step-after.ensures.same.1 ∙ c.loop-next.invariant.0.1,
    c.step-after.ensures.same.2 ∙ c.loop-next.invariant.0.2,
  ),
  c.step-after.ensures.capacity ∙ c.loop-next.invariant.1,
  so_far_on c.loop-next.invariant.2 (took Flags c.step-after.ensures.taken c.step-after.ensures.told) c.visit_word.new.visit c.visit_word.ensures c.in-GoOn.is,
)

-- the call is over, and the pass is as a whole call on a set leaves it (clause `done`)
pub returns-in-Done-clause-done : goal.returns-in-Done-clause-done
returns-in-Done-clause-done g c =
    (cleared_all c.loop-next.invariant.2 (took Flags c.step-after.ensures.taken c.step-after.ensures.told)
    c.visit_word.new.visit c.visit_word.ensures c.in-Done.is).1

-- the call cleared just the places that the closure was called with
pub returns-in-Done-clause-cleared : goal.returns-in-Done-clause-cleared
returns-in-Done-clause-cleared g c =
    (cleared_all c.loop-next.invariant.2 (took Flags c.step-after.ensures.taken c.step-after.ensures.told)
    c.visit_word.new.visit c.visit_word.ensures c.in-Done.is).0

-- the call takes one step for each word of flags at most
pub returns-in-Done-clause-steps : goal.returns-in-Done-clause-steps
returns-in-Done-clause-steps g c =
    cleared_steps c.loop-next.invariant.2 (took Flags c.step-after.ensures.taken c.step-after.ensures.told) c.in-Done.is
