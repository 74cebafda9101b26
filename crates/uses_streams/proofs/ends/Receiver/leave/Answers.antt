-- `Receiver::leave` (src/ends/calls.rt): its result meets the invariant of its type, and its return meets the clauses `received` and
-- `end`.
use Rattle.std.proofs.Common.{ap}
use Rattle.steps.specs.declared.queues.roles.Role.TheVariants as roles
use Rattle.uses_streams.specs.Streams.{has_end, values_in}
use Rattle.uses_streams.proofs.Streams.{stops_popping}
use Rattle.uses_streams.proofs.ends.Receiver.leave.Goals as goal

pub invariant_of-result : goal.invariant_of-result
invariant_of-result g c =
    let left = stops_popping c.release-pass.ensures.same.goes roles.Consumer
    c.args.self.alone c.release-pass.ensures.released c.release-pass.ensures.list in
    record { alone = left.0 }

-- giving the role back leaves what was received
pub returns-clause-received : goal.returns-clause-received
returns-clause-received g c =
    ap values_in (stops_popping c.release-pass.ensures.same.goes
    roles.Consumer c.args.self.alone c.release-pass.ensures.released c.release-pass.ensures.list).1

-- giving the role back leaves whether the end was received
pub returns-clause-end : goal.returns-clause-end
returns-clause-end g c =
    ap has_end (stops_popping c.release-pass.ensures.same.goes
    roles.Consumer c.args.self.alone c.release-pass.ensures.released c.release-pass.ensures.list).1
