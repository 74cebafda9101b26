-- `has_producer` (src/twins/queues.rt): its return meets the clause `counted`.
use Rattle.std.proofs.Common.{arith}
use Rattle.lock_free.specs.Queues.Calls.{view}
use Rattle.steps.specs.declared.queues.roles.Role.TheVariants.{Producer}
use Rattle.uses_laws.proofs.twins.queues.has_producer.Goals as goal

pub returns-clause-counted : goal.returns-clause-counted
returns-clause-counted c =
    let more = (c.calls_are_counted.ensures.seen Producer c.has_producer.result (view c.args.pass.now) (view c.has_producer.new.pass)
    c.has_producer.ensures.answer).puts_more in
    omega arith
