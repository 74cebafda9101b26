-- `find` (src/container/visits.rt): its calls of `drive_to_stop` and `visit_value` meet what those require, the invariant of its loop
-- holds at the start and after each iteration, its cast loses nothing, and its return meets the clauses `words` and `found`.
use Rattle.std.proofs.Common.{sym, ◌∙◌, arith}
use Rattle.plain.proofs.Elements.Finding.{starts, can_go, ended_so, index_small, may_so, further_so}
use Rattle.plain.proofs.container.visits.find.Goals as goal
use Rattle.plain.proofs.container.visits.find.Given as given

-- the loop begins with a call that has taken no step
pub loop-init : goal.loop-init
loop-init g c =
    starts _ c.new-call.result c.new-call.ensures c.new-room.result (let long = c.new-room.ensures in let few = g.met.T.Words.few in omega arith)
    (record { some = g.met.T.Words.some; wide = g.met.T.Words.few; lives = c.requires.owner; holds = c.requires.holds })

-- its call of `drive_to_stop` meets what that requires
pub drive_to_stop-requires : goal.drive_to_stop-requires
drive_to_stop-requires g c = record { stops = can_go c.loop.invariant }

-- where the answer is `Ended`, its return meets the clause `words`
pub returns-in-Ended-clause-words : goal.returns-in-Ended-clause-words
returns-in-Ended-clause-words g c = (ended_so c.loop.invariant c.in-Ended.ensures.alone).1

-- where the answer is `Ended`, its return meets the clause `found`
pub returns-in-Ended-clause-found : goal.returns-in-Ended-clause-found
returns-in-Ended-clause-found g c = (ended_so c.loop.invariant c.in-Ended.ensures.alone).0

-- the cast of `handle` loses nothing
pub overflow_cast-handle : goal.overflow_cast-handle
overflow_cast-handle g c =
    let near = index_small c.loop.invariant c.in-Asked.ensures.alone in
    let same = c.index_in.ensures in
    let few = c.requires.holds.0.few in omega arith

-- its call of `visit_value` meets what that requires
pub visit_value-said-requires : goal.visit_value-said-requires
visit_value-said-requires g c =
    may_so c.loop.invariant c.in-Asked.ensures.alone c.value-value.ensures c.index_in.ensures (given.F-pre g) c.requires.visits

-- where the answer is `Done`, its return meets the clause `words`
pub returns-in-Done-clause-words : goal.returns-in-Done-clause-words
returns-in-Done-clause-words g c =
    (further_so c.loop.invariant c.in-Asked.ensures.alone c.value-value.ensures c.index_in.ensures
    c.visit_value-said.result c.visit_value-said.new.visit c.visit_value-said.ensures
    (record {
      answer = c.as_answer-answer.result;
      said = c.as_answer-answer.ensures;
      goes = sym c.in-Done.is ∙ c.take.ensures.goes;
      keeps = c.take.ensures.keeps;
    })).1

-- where the answer is `Done`, its return meets the clause `found`
pub returns-in-Done-clause-found : goal.returns-in-Done-clause-found
returns-in-Done-clause-found g c =
    (further_so c.loop.invariant c.in-Asked.ensures.alone c.value-value.ensures c.index_in.ensures
    c.visit_value-said.result c.visit_value-said.new.visit c.visit_value-said.ensures
    (record {
      answer = c.as_answer-answer.result;
      said = c.as_answer-answer.ensures;
      goes = sym c.in-Done.is ∙ c.take.ensures.goes;
      keeps = c.take.ensures.keeps;
    })).0

-- each iteration keeps the invariant of the loop
pub loop-preserved : goal.loop-preserved
loop-preserved g c =
    further_so c.loop.invariant c.in-Asked.ensures.alone c.value-value.ensures c.index_in.ensures
    c.visit_value-said.result c.visit_value-said.new.visit c.visit_value-said.ensures
    (record {
      answer = c.as_answer-answer.result;
      said = c.as_answer-answer.ensures;
      goes = sym c.in-GoOn.is ∙ c.take.ensures.goes;
      keeps = c.take.ensures.keeps;
    })
