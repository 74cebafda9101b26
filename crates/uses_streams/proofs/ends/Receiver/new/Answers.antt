-- `Receiver::new` (src/ends/calls.rt): its result meets the invariant of its type, and its return meets the clauses `received` and
-- `end`.
use Rattle.std.proofs.Common.{ap}
use Rattle.steps.specs.declared.queues.roles.Role.TheVariants as roles
use Rattle.uses_streams.specs.Streams.{has_values, has_end, values_in}
use Rattle.uses_streams.proofs.Streams.{begins_popping}
use Rattle.uses_streams.proofs.ends.Receiver.new.Goals as goal

-- a pass that has only acquired the role has popped nothing
pub invariant_of-result : goal.invariant_of-result
invariant_of-result g c =
    let begun = begins_popping c.in-Ok.ensures.acquired.0.goes roles.Consumer
    c.requires.fresh c.in-Ok.ensures.acquired.1 in
    record { alone = begun.0; came = (ap has_values begun.1, ap has_end begun.1) }

-- nothing was received yet
pub returns-clause-received : goal.returns-clause-received
returns-clause-received g c =
    ap values_in (begins_popping c.in-Ok.ensures.acquired.0.goes roles.Consumer
    c.requires.fresh c.in-Ok.ensures.acquired.1).1

-- the end was not received yet
pub returns-clause-end : goal.returns-clause-end
returns-clause-end g c =
    ap has_end (begins_popping c.in-Ok.ensures.acquired.0.goes roles.Consumer
    c.requires.fresh c.in-Ok.ensures.acquired.1).1
