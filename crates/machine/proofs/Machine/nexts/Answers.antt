-- `Machine::nexts` (src/lib.rt): each iteration keeps the invariant of its loop, and its return meets the clauses `each_before` and
-- `each`.
use Rattle.std.proofs.Common.{◌≡◌, replicate, subst, arith}
use Rattle.model.specs.Coding.{coding_by}
use Rattle.model.specs.declared.turn.Turn.TheVariants.{Next}
use Rattle.model.specs.Turns.{AreAllowed, IsReached}
use Rattle.model.specs.World.{State, trace_in}
use Rattle.model.proofs.Orders.{reached_turns}
use Rattle.machine.proofs.Laws.{laws_of, once_more}
use Rattle.machine.proofs.Machine.nexts.Goals as goal

-- where the answer is `Err`, its return meets the clause `each_before`
pub returns-in-Err-clause-each_before : goal.returns-in-Err-clause-each_before
returns-in-Err-clause-each_before g c =
    reached_turns laws_of (trace_in (coding_by g.T.Words) c.args.self.now)
    (replicate c.loop-taken.taken (Next c.args.party))
    (subst (λ (s : State _). IsReached (trace_in (coding_by g.T.Words) s))
    c.self.view_is c.self.invariant)
    c.loop-taken.invariant.allowed

-- each iteration keeps the invariant of the loop
pub loop-taken-preserved : goal.loop-taken-preserved
loop-taken-preserved g c =
    let more =
    once_more (trace_in (coding_by g.T.Words) c.args.self.now)
    (trace_in (coding_by g.T.Words) c.loop-taken.self)
    (trace_in (coding_by g.T.Words) c.step.new.self)
    c.loop-taken.taken (Next c.args.party)
    c.loop-taken.invariant.allowed
    c.loop-taken.invariant.taken
    c.in_default.ensures.allowed
    c.in_default.ensures.ok
    in
    record { allowed = more.0; taken = more.1; kept = c.in_default.ensures.kept }

-- its return meets the clause `each`
pub returns-clause-each : goal.returns-clause-each
returns-clause-each g c =
    let all : c.loop-taken.taken ≡ c.args.most = omega (arith, c.at_once-first.ensures.most) in
    reached_turns laws_of (trace_in (coding_by g.T.Words) c.args.self.now)
    (replicate c.args.most (Next c.args.party))
    (subst (λ (s : State _). IsReached (trace_in (coding_by g.T.Words) s))
    c.self.view_is c.self.invariant)
    (subst (λ n. AreAllowed (trace_in (coding_by g.T.Words) c.args.self.now)
    (replicate n (Next c.args.party)))
    all c.loop-taken.invariant.allowed)
