-- `Channel::sender_with` (src/channel.rt): its return meets the clause `begun`.
use Rattle.std.proofs.Common.{rules}
use Rattle.lock_free_queues.specs.Queues.Overflowing.{producer_view}
use Rattle.zero_copy_loans.proofs.Ends.{begins}
use Rattle.zero_copy_loans.proofs.channel.Channel.sender_with.Goals as goal

pub returns-clause-begun : goal.returns-clause-begun
returns-clause-begun g c =
    let acquired = c.in-Ok.ensures.acquired in
    begins _ _ (producer_view c.in-Ok.producer) (search rules) (search rules) (search rules) acquired.0.goes acquired.1
