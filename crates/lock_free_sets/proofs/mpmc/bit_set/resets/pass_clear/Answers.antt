-- `pass_clear` (src/mpmc/bit_set/resets.rt): its call of `step_reset` meets what that requires, each iteration keeps the invariant of
-- its loop, and its return meets the clause `goes`.
use Rattle.lock_free_sets.proofs.Names.{◌∙◌, sym, subst, seen}
use Rattle.steps.specs.declared.bits.bit_set.ResetNext.{ResetNext}
use Rattle.lock_free_sets.specs.Bits.Resetting.{ResetAt}
use Rattle.lock_free_sets.proofs.Bits.Turns.{gone_on, has_ended, loads_next, loads}
use Rattle.lock_free_sets.proofs.mpmc.bit_set.resets.pass_clear.Goals as goal

pub step_reset-requires : goal.step_reset-requires
step_reset-requires c = record { board = c.places.invariant.1; at = (c.requires.at.0, c.places.invariant.2 c.requires.at.0 c.requires.at.1) }

-- an iteration after which the loop goes on keeps its invariant
pub places-preserved : goal.places-preserved
places-preserved c =
    let so_far = c.places.invariant in
    let called = c.step_reset in
    let here = loads c.args.capacity c.args.start c.places.so_many c.places.so_many in
    let next = loads_next c.args.capacity c.args.start c.places.so_many called.ensures.after.0 _ c.in-LoadsElement.passed c.in-GoOn.next
    (sym called.ensures.after.1 ∙ c.in-GoOn.is) c.in-LoadsElement.is in (
      (called.ensures.same.0 ∙ so_far.0.0, called.ensures.same.1 ∙ so_far.0.1, called.ensures.same.2 ∙ so_far.0.2),
      called.ensures.board,
      λ base at. subst (λ (d : ResetNext). ResetAt base (seen called.new.seat) d tt) next.0
          (gone_on (seen c.places.seat) (seen called.new.seat) here c.in-GoOn.is called.ensures.goes (so_far.2 base at)),
    )

-- where a step has led to another stage, clause `goes` holds of that stage
pub returns-in_default-clause-goes : goal.returns-in_default-clause-goes
returns-in_default-clause-goes c base at =
    let called = c.step_reset in
    gone_on (seen c.places.seat) (seen called.new.seat) (loads c.args.capacity c.args.start c.places.so_many c.places.so_many)
    c.in-GoOn.is called.ensures.goes (c.places.invariant.2 base at)

-- where the step has ended the call, clause `goes` holds of its end
pub returns-in-Done-clause-goes : goal.returns-in-Done-clause-goes
returns-in-Done-clause-goes c base at =
    let called = c.step_reset in
    has_ended (seen c.places.seat) (seen called.new.seat) (loads c.args.capacity c.args.start c.places.so_many c.places.so_many)
    c.in-Done.is called.ensures.goes (c.places.invariant.2 base at)
