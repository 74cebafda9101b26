-- `Running::reached` (src/running.rt): its return meets what it ensures.
use Rattle.std.proofs.Common.{subst}
use Rattle.model.specs.Coding.{coding_by}
use Rattle.model.specs.World.{State, trace_in}
use Rattle.machine_parts.specs.Forgotten.{IsReachedBehind}
use Rattle.machine_parts.proofs.running.Running.reached.Goals as goal

pub returns : goal.returns
returns g c =
    let code = coding_by g.T.Words in
    subst (λ (s : State _). IsReachedBehind (trace_in code s)) c.self.view_is c.self.invariant
