-- `Machine::linearizable` (src/lib.rt): its return meets what it ensures (`IsLinearizableRun`).
use Rattle.std.proofs.Common.{subst}
use Rattle.model.specs.Coding.{coding_by}
use Rattle.model.specs.Turns.{IsReached}
use Rattle.model.specs.World.{State, trace_in}
use Rattle.model.proofs.Linearizable.Kinds as laws
use Rattle.model.proofs.Orders.{reached_kept}
use Rattle.machine.proofs.Laws.{laws_of}
use Rattle.machine.proofs.Machine.linearizable.Goals as goal

-- turns have reached the machine, so its run keeps its promises, and so it is linearizable
pub returns : goal.returns
returns g c =
    let code = coding_by g.T.Words in
    laws.run_linearizable (trace_in code c.args.self.now)
    (reached_kept laws_of (trace_in code c.args.self.now) (subst (λ (s : State _). IsReached (trace_in code s)) c.self.view_is c.self.invariant))
