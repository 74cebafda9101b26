-- `Machine::at_once` (src/lib.rt): its call of `steps` meets what that requires, `self` meets the invariant of its type, and its return
-- meets the clause `kept`.
use Rattle.std.proofs.Common.{replicate, sym, subst}
use Rattle.model.specs.Coding.{coding_by}
use Rattle.model.specs.declared.turn.Turn.TheVariants.{Next}
use Rattle.model.specs.Turns.{after_turns, IsReached}
use Rattle.model.specs.Promises.{IsKept}
use Rattle.model.proofs.Orders.{reached_kept}
use Rattle.model.proofs.Reached.{reached_is}
use Rattle.model.proofs.Small.{reached_small}
use Rattle.machine_parts.specs.Parts.{trace_of}
use Rattle.machine.proofs.Laws.{laws_of, reached_all}
use Rattle.machine.proofs.Machine.at_once.Goals as goal

pub steps-requires : goal.steps-requires
steps-requires g c = reached_small (trace_of (coding_by g.T.Words) c.self.inside.parts) c.self.invariant

-- `self` still meets the invariant of its type
pub invariant_of-self : goal.invariant_of-self
invariant_of-self g c =
    let inside = trace_of (coding_by g.T.Words) c.self.inside.parts in
    reached_is (trace_of (coding_by g.T.Words) c.steps.new.self)
    (after_turns inside (replicate c.steps.result (Next c.args.party))) c.steps.ensures.ok
    (reached_all inside (replicate c.steps.result (Next c.args.party)) c.steps.ensures.allowed c.self.invariant)

-- its return meets the clause `kept`
pub returns-clause-kept : goal.returns-clause-kept
returns-clause-kept g c =
    let inside = trace_of (coding_by g.T.Words) c.self.inside.parts in
    let reached : IsReached (after_turns inside (replicate c.steps.result (Next c.args.party))) =
    reached_all inside (replicate c.steps.result (Next c.args.party)) c.steps.ensures.allowed c.self.invariant in
    subst IsKept (sym c.steps.ensures.ok) (reached_kept laws_of (after_turns inside (replicate c.steps.result (Next c.args.party))) reached)
