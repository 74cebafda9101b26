-- `Machine::reached` (src/lib.rt): its return meets what it ensures (`IsReached`).
use Rattle.std.proofs.Common.{subst}
use Rattle.model.specs.Coding.{coding_by}
use Rattle.model.specs.Turns.{IsReached}
use Rattle.model.specs.World.{State, trace_in}
use Rattle.machine.proofs.Machine.reached.Goals as goal

-- the machine is one that turns have reached, as the invariant of its type says
pub returns : goal.returns
returns g c =
    let code = coding_by g.T.Words in
    subst (λ (s : State _). IsReached (trace_in code s)) c.self.view_is c.self.invariant
