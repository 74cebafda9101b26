-- `relay` (src/relay.rt): its return meets the clause `relayed`.
use Rattle.uses_programs.proofs.Names.{rules, arith, common_steps, index_tells, relayed}
use Rattle.uses_programs.proofs.relay.relay.Goals as goal

-- both ends are joined, so what came is a beginning of what was sent, and all of it exactly if the
-- last pop found nothing
pub returns-clause-relayed : goal.returns-clause-relayed
returns-clause-relayed g c = relayed c.in-Ok.mine c.split.new.self c.in_ok-other.other c.in_ok-pass.pass c.in_ok-other-2.field-0.pass c.join.new.self
    c.in-Ok-acquire_consumer.consumer c.pop.new.self c.pop.result 4 index_tells tt (grind (arith, common_steps)) (search rules) (search rules) (search rules)
    c.join.ensures.same.joined c.join.ensures.same.all c.history.ensures.history (grind (arith, common_steps))
    c.in-Ok-acquire_consumer.ensures.acquired.0 c.in-Ok-acquire_consumer.ensures.acquired.1 c.pop.ensures.same c.history-2.ensures.history
    c.pop.ensures.popped c.pop.ensures.empty c.is_none-emptied.ensures
