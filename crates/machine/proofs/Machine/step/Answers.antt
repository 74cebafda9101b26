-- `Machine::step` (src/lib.rt): its call of `step` meets what that requires, `self` meets the invariant of its type, and its return
-- meets the clauses `allowed`, `ok`, `later`, `word`, `call`, `counts`, `others`, `tells`, `events` and `kept`.
use Rattle.std.proofs.Common.{ap, sym, subst}
use Rattle.model.specs.Coding.{coding_by}
use Rattle.model.specs.World.{trace_in}
use Rattle.machine_parts.specs.Parts.{trace_of}
use Rattle.model.specs.Turns.{after_turn}
use Rattle.model.specs.Promises.{IsKept}
use Rattle.model.proofs.Orders.{reached_kept, step_turn}
use Rattle.model.proofs.Reached.{reached_is, reached_more}
use Rattle.model.proofs.Small.{reached_small}
use Rattle.machine.proofs.Laws.{laws_of}
use Rattle.machine.proofs.Machine.step.Goals as goal

pub step-requires : goal.step-requires
step-requires g c = reached_small (trace_of (coding_by g.T.Words) c.self.inside.parts) c.self.invariant

-- the machine that the turn leaves is one that turns have reached
pub invariant_of-self-2 : goal.invariant_of-self-2
invariant_of-self-2 g c =
    reached_is (trace_of (coding_by g.T.Words) c.step.new.self)
    (after_turn (trace_of (coding_by g.T.Words) c.self.inside.parts) c.args.turn)
    c.in_ok-step.ensures.ok
    (reached_more (trace_of (coding_by g.T.Words) c.self.inside.parts)
    c.args.turn c.in_ok-step.ensures.allowed c.self.invariant)

-- the turn that was taken is one that the machine does not refuse
pub returns-clause-allowed : goal.returns-clause-allowed
returns-clause-allowed g c = rw (← c.self.view_is) c.in_ok-step.ensures.allowed

-- the machine after the turn is the one to which the turn leads in the model
pub returns-clause-ok : goal.returns-clause-ok
returns-clause-ok g c = rw (← c.self.view_is) c.in_ok-step.ensures.ok

-- its return meets the clause `later`
pub returns-clause-later : goal.returns-clause-later
returns-clause-later g c =
    (step_turn laws_of (trace_of (coding_by g.T.Words) c.self.inside.parts)
    (trace_in (coding_by g.T.Words) c.args.self.now)
    (trace_of (coding_by g.T.Words) c.step.new.self) c.args.turn
    (ap (trace_in (coding_by g.T.Words)) c.self.view_is) c.self.invariant
    c.in_ok-step.ensures.allowed c.in_ok-step.ensures.ok).later

-- its return meets the clause `word`
pub returns-clause-word : goal.returns-clause-word
returns-clause-word g c =
    (step_turn laws_of (trace_of (coding_by g.T.Words) c.self.inside.parts)
    (trace_in (coding_by g.T.Words) c.args.self.now)
    (trace_of (coding_by g.T.Words) c.step.new.self) c.args.turn
    (ap (trace_in (coding_by g.T.Words)) c.self.view_is) c.self.invariant
    c.in_ok-step.ensures.allowed c.in_ok-step.ensures.ok).word

-- its return meets the clause `call`
pub returns-clause-call : goal.returns-clause-call
returns-clause-call g c =
    (step_turn laws_of (trace_of (coding_by g.T.Words) c.self.inside.parts)
    (trace_in (coding_by g.T.Words) c.args.self.now)
    (trace_of (coding_by g.T.Words) c.step.new.self) c.args.turn
    (ap (trace_in (coding_by g.T.Words)) c.self.view_is) c.self.invariant
    c.in_ok-step.ensures.allowed c.in_ok-step.ensures.ok).call

-- its return meets the clause `counts`
pub returns-clause-counts : goal.returns-clause-counts
returns-clause-counts g c =
    (step_turn laws_of (trace_of (coding_by g.T.Words) c.self.inside.parts)
    (trace_in (coding_by g.T.Words) c.args.self.now)
    (trace_of (coding_by g.T.Words) c.step.new.self) c.args.turn
    (ap (trace_in (coding_by g.T.Words)) c.self.view_is) c.self.invariant
    c.in_ok-step.ensures.allowed c.in_ok-step.ensures.ok).counts

-- its return meets the clause `others`
pub returns-clause-others : goal.returns-clause-others
returns-clause-others g c =
    (step_turn laws_of (trace_of (coding_by g.T.Words) c.self.inside.parts)
    (trace_in (coding_by g.T.Words) c.args.self.now)
    (trace_of (coding_by g.T.Words) c.step.new.self) c.args.turn
    (ap (trace_in (coding_by g.T.Words)) c.self.view_is) c.self.invariant
    c.in_ok-step.ensures.allowed c.in_ok-step.ensures.ok).others

-- its return meets the clause `tells`
pub returns-clause-tells : goal.returns-clause-tells
returns-clause-tells g c =
    (step_turn laws_of (trace_of (coding_by g.T.Words) c.self.inside.parts)
    (trace_in (coding_by g.T.Words) c.args.self.now)
    (trace_of (coding_by g.T.Words) c.step.new.self) c.args.turn
    (ap (trace_in (coding_by g.T.Words)) c.self.view_is) c.self.invariant
    c.in_ok-step.ensures.allowed c.in_ok-step.ensures.ok).tells

-- its return meets the clause `events`
pub returns-clause-events : goal.returns-clause-events
returns-clause-events g c =
    (step_turn laws_of (trace_of (coding_by g.T.Words) c.self.inside.parts)
    (trace_in (coding_by g.T.Words) c.args.self.now)
    (trace_of (coding_by g.T.Words) c.step.new.self) c.args.turn
    (ap (trace_in (coding_by g.T.Words)) c.self.view_is) c.self.invariant
    c.in_ok-step.ensures.allowed c.in_ok-step.ensures.ok).events

-- its return meets the clause `kept`
pub returns-clause-kept : goal.returns-clause-kept
returns-clause-kept g c =
    let inside = trace_of (coding_by g.T.Words) c.self.inside.parts in
    let turn : IsKept (after_turn inside c.args.turn) =
    reached_kept laws_of (after_turn inside c.args.turn) (reached_more inside c.args.turn c.in_ok-step.ensures.allowed c.self.invariant)
    in
    subst IsKept (sym c.in_ok-step.ensures.ok) turn

-- where the turn is refused, the machine is as before, and its run still keeps its promises
pub returns-in_err-step-clause-kept : goal.returns-in_err-step-clause-kept
returns-in_err-step-clause-kept g c =
    let inside = trace_of (coding_by g.T.Words) c.self.inside.parts in
    let kept : IsKept inside = reached_kept laws_of inside c.self.invariant in
    subst IsKept (sym (ap (trace_in (coding_by g.T.Words)) c.in_err-step.ensures.err)) kept
