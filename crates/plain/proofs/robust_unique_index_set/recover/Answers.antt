-- `recover` (src/robust_unique_index_set.rt): its calls of `drive_to_stop`, `ask_about`, `tell_where` and `unreachable` meet what those
-- require, the invariant of its loop holds at the start and after each iteration, and its return meets the clauses `fits`, `state` and
-- `calls`.
use Rattle.std.proofs.Common.{sym, ◌∙◌, ◌<◌, ◌-◌, ◌^◌, arith}
use Rattle.plain.proofs.Robust.Recovering.{starts, can_go, ended_so, asks_so, may_ask, may_tell, onward_so, few_rounds}
use Rattle.plain.proofs.robust_unique_index_set.recover.Goals as goal

-- the loop begins with a call that has taken no step
pub loop-init : goal.loop-init
loop-init g c = starts _ c.new-call.result c.new-call.ensures c.requires.fits

pub drive_to_stop-requires : goal.drive_to_stop-requires
drive_to_stop-requires = grind (arith, can_go)

pub returns-in-Ended-clause-fits : goal.returns-in-Ended-clause-fits
returns-in-Ended-clause-fits = grind (arith, ended_so)

pub returns-in-Ended-clause-state : goal.returns-in-Ended-clause-state
returns-in-Ended-clause-state = grind (arith, ended_so)

-- where the answer is `Ended`, its return meets the clause `calls`
pub returns-in-Ended-clause-calls : goal.returns-in-Ended-clause-calls
returns-in-Ended-clause-calls g c = (ended_so c.loop.invariant c.in-Ended.ensures.alone).calls

-- its call of `ask_about` meets what that requires
pub ask_about-yes-requires : goal.ask_about-yes-requires
ask_about-yes-requires g c =
    may_ask c.loop.invariant (asks_so c.loop.invariant c.in-Asked.ensures.alone) c.in-Owned.is c.requires.questions

-- its call of `tell_where` meets what that requires
pub tell_where-requires : goal.tell_where-requires
tell_where-requires g c agrees =
    may_tell c.loop.invariant (asks_so c.loop.invariant c.in-Asked.ensures.alone) c.in-Owned.is c.requires.freed
    c.ask_about-yes.new.predicate c.ask_about-yes.result c.ask_about-yes.ensures agrees

-- each iteration keeps the invariant of the loop
pub loop-preserved : goal.loop-preserved
loop-preserved g c =
    onward_so c.loop.invariant (asks_so c.loop.invariant c.in-Asked.ensures.alone) c.in-Owned.is
    c.ask_about-yes.result c.ask_about-yes.new.predicate c.tell_where.new.recovered
    (record { called = c.ask_about-yes.ensures; told = c.tell_where.ensures.told; passed = c.tell_where.ensures.passed })
    c.as_yes-answer.ensures (sym c.in-GoOn.is ∙ c.take.ensures.goes)

-- it asks fewer questions than the loop has rounds
pub unreachable-requires-2 : goal.unreachable-requires-2
unreachable-requires-2 g c =
    let few : c.loop.counter < 2 ^ 64 - 1 = few_rounds c.requires.fits c.loop.invariant in
    let far = c.loop-test.false in
    omega (arith, few, far)
