-- `receive` (src/relay.rt): each iteration keeps the invariant of its loop, and its return meets the clause `received`.
use Rattle.uses_programs.proofs.Names.{rules, arith, common_steps, receiving_one, receiving_still, received_all}
use Rattle.uses_programs.proofs.relay.receive.Goals as goal

pub loop-preserved-else-is_err : goal.loop-preserved-else-is_err
loop-preserved-else-is_err g c = receiving_one c.loop.numbers.items c.push.new.self.items c.in-Some-pop.number c.loop.invariant c.pop.ensures.same
    c.pop.ensures.popped (search rules) (grind (arith, common_steps))

pub loop-preserved : goal.loop-preserved
loop-preserved g c = search (rules, receiving_still, c.loop.invariant, c.pop.ensures)

pub returns-clause-received : goal.returns-clause-received
returns-clause-received g c =
    received_all c.in-Ok.ensures.acquired.0 c.in-Ok.ensures.acquired.1 c.loop.invariant c.release-pass.ensures.same
    c.release-pass.ensures.released c.release-pass.ensures.list
