-- `Running::step` (src/running.rt): its call of `step` meets what that requires, `self` meets the invariant of its type, and its return
-- meets the clauses `allowed` and `ok`.
use Rattle.model.specs.Coding.{coding_by}
use Rattle.machine_parts.specs.Parts.{trace_of}
use Rattle.model.specs.Turns.{after_turn}
use Rattle.machine_parts.proofs.Behind.{behind_is, more_behind, small_behind}
use Rattle.machine_parts.proofs.running.Running.step.Goals as goal

pub step-requires : goal.step-requires
step-requires g c = small_behind (trace_of (coding_by g.T.Words) c.self.inside.parts) c.self.invariant

pub invariant_of-self-2 : goal.invariant_of-self-2
invariant_of-self-2 g c =
    behind_is (trace_of (coding_by g.T.Words) c.step.new.self)
    (after_turn (trace_of (coding_by g.T.Words) c.self.inside.parts) c.args.turn)
    c.in_ok-step.ensures.ok
    (more_behind (trace_of (coding_by g.T.Words) c.self.inside.parts)
    c.args.turn c.in_ok-step.ensures.allowed c.self.invariant)

pub returns-clause-allowed : goal.returns-clause-allowed
returns-clause-allowed g c = rw (← c.self.view_is) c.in_ok-step.ensures.allowed

pub returns-clause-ok : goal.returns-clause-ok
returns-clause-ok g c = rw (← c.self.view_is) c.in_ok-step.ensures.ok
