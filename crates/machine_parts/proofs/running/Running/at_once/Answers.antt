-- `Running::at_once` (src/running.rt): its call of `steps` meets what that requires, and `self` meets the invariant of its type.
use Rattle.std.proofs.Common.{replicate}
use Rattle.model.specs.Coding.{coding_by}
use Rattle.model.specs.declared.turn.Turn.TheVariants.{Next}
use Rattle.model.specs.Turns.{after_turns}
use Rattle.machine_parts.specs.Parts.{trace_of}
use Rattle.machine_parts.proofs.Behind.{behind_is, all_behind, small_behind}
use Rattle.machine_parts.proofs.running.Running.at_once.Goals as goal

pub steps-requires : goal.steps-requires
steps-requires g c = small_behind (trace_of (coding_by g.T.Words) c.self.inside.parts) c.self.invariant

pub invariant_of-self : goal.invariant_of-self
invariant_of-self g c =
    let inside = trace_of (coding_by g.T.Words) c.self.inside.parts in
    behind_is (trace_of (coding_by g.T.Words) c.steps.new.self)
    (after_turns inside (replicate c.steps.result (Next c.args.party))) c.steps.ensures.ok
    (all_behind inside (replicate c.steps.result (Next c.args.party)) c.steps.ensures.allowed c.self.invariant)
