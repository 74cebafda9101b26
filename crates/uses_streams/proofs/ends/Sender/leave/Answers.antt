-- `Sender::leave` (src/ends/calls.rt): its result meets the invariant of its type, and its return meets the clauses `sent` and
-- `finished`.
use Rattle.std.proofs.Common.{ap, ◌∙◌}
use Rattle.steps.specs.declared.queues.roles.Role.TheVariants as roles
use Rattle.lock_free_queues.specs.Queues.Rings.{producer_view}
use Rattle.uses_streams.specs.Streams.{has_end, values_in, pushed_by}
use Rattle.uses_streams.proofs.Streams.{stops_pushing, none_ended}
use Rattle.uses_streams.proofs.ends.Sender.leave.Goals as goal

pub invariant_of-result : goal.invariant_of-result
invariant_of-result g c =
    let left = stops_pushing c.release-pass.ensures.same.goes roles.Producer
    c.args.self.alone c.release-pass.ensures.released c.release-pass.ensures.list in
    record { alone = left.0 }

-- giving the role back leaves the values that were sent
pub returns-clause-sent : goal.returns-clause-sent
returns-clause-sent g c =
    ap values_in (stops_pushing c.release-pass.ensures.same.goes
    roles.Producer c.args.self.alone c.release-pass.ensures.released c.release-pass.ensures.list).1

-- a sender that only leaves has not sent the end
pub returns-clause-finished : goal.returns-clause-finished
returns-clause-finished g c =
    ap has_end (stops_pushing c.release-pass.ensures.same.goes
    roles.Producer c.args.self.alone c.release-pass.ensures.released c.release-pass.ensures.list).1
    ∙ none_ended (pushed_by (producer_view c.args.self.producer)) c.args.self.unended
