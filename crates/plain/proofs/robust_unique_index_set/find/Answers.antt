-- `find` (src/robust_unique_index_set.rt): its calls of `drive_to_stop` and `visit_at` meet what those require, the invariant of its
-- loop holds at the start and after each iteration, and its return meets the clauses `words` and `found`.
use Rattle.std.proofs.Common.{sym, ◌∙◌}
use Rattle.plain.proofs.Robust.Finding.{starts, can_go, ended_so, may_so, further_so}
use Rattle.plain.proofs.robust_unique_index_set.find.Goals as goal

-- the loop begins with a call that has taken no step
pub loop-init : goal.loop-init
loop-init g c = starts _ c.new-call.result c.new-call.ensures c.requires.fits c.requires.owner

-- its call of `drive_to_stop` meets what that requires
pub drive_to_stop-requires : goal.drive_to_stop-requires
drive_to_stop-requires g c = record { stops = can_go c.loop.invariant }

-- where the find has ended, its return meets the clause `words`
pub returns-in-Ended-clause-words : goal.returns-in-Ended-clause-words
returns-in-Ended-clause-words g c = (ended_so c.loop.invariant c.in-Ended.ensures.alone).1

-- where the find has ended, its return meets the clause `found`
pub returns-in-Ended-clause-found : goal.returns-in-Ended-clause-found
returns-in-Ended-clause-found g c = (ended_so c.loop.invariant c.in-Ended.ensures.alone).0

-- its call of `visit_at` meets what that requires
pub visit_at-said-requires : goal.visit_at-said-requires
visit_at-said-requires g c = may_so c.loop.invariant c.in-Asked.ensures.alone c.index_in.ensures c.requires.indices

-- where the answer is `Done`, its return meets the clause `words`
pub returns-in-Done-clause-words : goal.returns-in-Done-clause-words
returns-in-Done-clause-words g c =
    (further_so c.loop.invariant c.in-Asked.ensures.alone c.index_in.ensures c.visit_at-said.result c.visit_at-said.new.visit
    c.visit_at-said.ensures c.as_answer-answer.ensures (sym c.in-Done.is ∙ c.take.ensures.goes)).1

-- where the answer is `Done`, its return meets the clause `found`
pub returns-in-Done-clause-found : goal.returns-in-Done-clause-found
returns-in-Done-clause-found g c =
    (further_so c.loop.invariant c.in-Asked.ensures.alone c.index_in.ensures c.visit_at-said.result c.visit_at-said.new.visit
    c.visit_at-said.ensures c.as_answer-answer.ensures (sym c.in-Done.is ∙ c.take.ensures.goes)).0

-- each iteration keeps the invariant of the loop
pub loop-preserved : goal.loop-preserved
loop-preserved g c =
    further_so c.loop.invariant c.in-Asked.ensures.alone c.index_in.ensures c.visit_at-said.result c.visit_at-said.new.visit
    c.visit_at-said.ensures c.as_answer-answer.ensures (sym c.in-GoOn.is ∙ c.take.ensures.goes)
