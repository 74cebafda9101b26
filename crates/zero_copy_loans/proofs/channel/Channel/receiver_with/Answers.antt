-- `Channel::receiver_with` (src/channel.rt): its return meets the clause `waits`.
use Rattle.std.proofs.Common.{rules}
use Rattle.lock_free_queues.specs.Queues.Overflowing.{consumer_view}
use Rattle.zero_copy_loans.proofs.Ends.{waits}
use Rattle.zero_copy_loans.proofs.channel.Channel.receiver_with.Goals as goal

pub returns-clause-waits : goal.returns-clause-waits
returns-clause-waits g c =
    let acquired = c.in-Ok.ensures.acquired in
    waits _ _ (consumer_view c.in-Ok.receives) (search rules) (search rules) acquired.0.goes acquired.1
