-- `Running::nexts` (src/running.rt): each iteration keeps the invariant of its loop.
use Rattle.model.specs.Coding.{coding_by}
use Rattle.model.specs.declared.turn.Turn.TheVariants.{Next}
use Rattle.model.specs.World.{trace_in}
use Rattle.machine_parts.proofs.Behind.{once_more}
use Rattle.machine_parts.proofs.running.Running.nexts.Goals as goal

pub loop-taken-preserved : goal.loop-taken-preserved
loop-taken-preserved g c =
    let more =
    once_more (trace_in (coding_by g.T.Words) c.args.self.now)
    (trace_in (coding_by g.T.Words) c.loop-taken.self)
    (trace_in (coding_by g.T.Words) c.step.new.self)
    c.loop-taken.taken (Next c.args.party)
    c.loop-taken.invariant.allowed
    c.loop-taken.invariant.taken
    c.in_default.ensures.allowed
    c.in_default.ensures.ok
    in
    record { allowed = more.0; taken = more.1 }
