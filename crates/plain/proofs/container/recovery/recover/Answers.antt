-- `recover` (src/container/recovery.rt): its calls of `drive_to_stop` and `ask_about` meet what those require, the invariant of its loop
-- holds at the start and after each iteration, and its return meets the clauses `holds`, `state` and `calls`.
use Rattle.std.proofs.Common.{sym, ◌∙◌, arith}
use Rattle.plain.proofs.Elements.Recovering.{starts, can_go, ended_so, may_so, further_so}
use Rattle.plain.proofs.container.recovery.recover.Goals as goal
use Rattle.plain.proofs.container.recovery.recover.Given as given

-- the loop begins with a call that has taken no step
pub loop-init : goal.loop-init
loop-init g c =
    starts _ c.new-call.result c.new-call.ensures c.new-room.result (let long = c.new-room.ensures in let few = g.met.T.Words.few in omega arith)
    (record { some = g.met.T.Words.some; wide = g.met.T.Words.few; lives = c.requires.owner; holds = c.requires.holds })

pub drive_to_stop-requires : goal.drive_to_stop-requires
drive_to_stop-requires = grind (arith, can_go)

pub returns-in-Ended-clause-holds : goal.returns-in-Ended-clause-holds
returns-in-Ended-clause-holds = grind (arith, ended_so)

pub returns-in-Ended-clause-state : goal.returns-in-Ended-clause-state
returns-in-Ended-clause-state = grind (arith, ended_so)

-- where the answer is `Ended`, its return meets the clause `calls`
pub returns-in-Ended-clause-calls : goal.returns-in-Ended-clause-calls
returns-in-Ended-clause-calls g c = (ended_so c.loop.invariant c.in-Ended.ensures.alone).calls

-- its call of `ask_about` meets what that requires
pub ask_about-yes-requires : goal.ask_about-yes-requires
ask_about-yes-requires g c =
    may_so c.loop.invariant c.in-Asked.ensures.alone c.value-value.ensures (given.F-pre g) c.requires.questions

-- each iteration keeps the invariant of the loop
pub loop-preserved : goal.loop-preserved
loop-preserved g c =
    further_so c.loop.invariant c.in-Asked.ensures.alone c.value-value.ensures
    c.ask_about-yes.result c.ask_about-yes.new.predicate c.ask_about-yes.ensures
    (record {
      answer = c.as_yes-answer.result;
      answer_is = c.as_yes-answer.ensures;
      goes = sym c.in-GoOn.is ∙ c.take.ensures.goes;
      keeps = c.take.ensures.keeps;
    })
