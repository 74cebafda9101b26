-- `take_steps` (src/parts.rt): each iteration keeps the invariant of its loop.
use Rattle.std.proofs.Common.{◌≡◌, ◌+◌, refl, subst, arith}
use Rattle.model.specs.Coding.{coding_by}
use Rattle.model.specs.Small.{HasSmallCounts}
use Rattle.machine_parts.specs.Parts.{around}
use Rattle.machine_parts.proofs.Steps.{around_small, one_more_step}
use Rattle.machine_parts.proofs.parts.take_steps.Goals as goal

-- with each step that was taken there is one step more, and the counts stay small
pub loop-taken-preserved : goal.loop-taken-preserved
loop-taken-preserved g c =
    let code = coding_by g.T.Words in
    let a = around c.args.party.now c.args.words.now.items c.args.kept.now c.args.changes.now c.args.events.now.items in
    let mid = around c.loop-taken.party c.loop-taken.words.items c.loop-taken.kept c.loop-taken.changes c.loop-taken.events.items in
    let b = around c.take_step.new.party c.take_step.new.words.items c.take_step.new.kept c.take_step.new.changes c.take_step.new.events.items in
    let i = c.loop-taken.invariant in
    let few = around_small code c.args.number (c.args.turns + c.loop-taken.taken) mid b i.small i.changes c.in-Ok.ensures.ok in
    let next : c.args.turns + c.loop-taken.taken + 1 ≡ c.args.turns + (c.loop-taken.taken + 1) = omega arith in
    record {
      steps = one_more_step code c.args.number c.loop-taken.taken a mid b i.steps (c.if-looks_beside.ensures refl) c.in-Ok.ensures.allowed c.in-Ok.ensures.ok;
      small = subst (λ n. HasSmallCounts n c.take_step.new.changes c.take_step.new.party) next few.0;
      changes = omega (arith, few.1);
    }
