-- `Sender::new` (src/ends/calls.rt): its result meets the invariant of its type, and its return meets the clause `sent`.
use Rattle.std.proofs.Common.{ap}
use Rattle.steps.specs.declared.queues.roles.Role.TheVariants as roles
use Rattle.uses_streams.specs.Streams.{has_values, values_in}
use Rattle.uses_streams.proofs.Streams.{begins_pushing}
use Rattle.uses_streams.proofs.ends.Sender.new.Goals as goal

-- a pass that has only acquired the role has pushed nothing, and so no end
pub invariant_of-result : goal.invariant_of-result
invariant_of-result g c =
    let begun = begins_pushing c.in-Ok.ensures.acquired.0.goes roles.Producer
    c.requires.fresh c.in-Ok.ensures.acquired.1 in
    record { alone = begun.0; unended = ap has_values begun.1 }

-- nothing was sent yet
pub returns-clause-sent : goal.returns-clause-sent
returns-clause-sent g c =
    ap values_in (begins_pushing c.in-Ok.ensures.acquired.0.goes roles.Producer
    c.requires.fresh c.in-Ok.ensures.acquired.1).1
