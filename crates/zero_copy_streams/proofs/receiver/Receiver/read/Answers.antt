-- `Receiver::read` (src/receiver.rt): its return meets the clause `found` where a ticket came.
use Rattle.std.proofs.Common.{ap, sym, ◌∙◌}
use Rattle.uses_streams.specs.Ends as streams
use Rattle.zero_copy_streams.specs.Tickets.{numbers_of}
use Rattle.zero_copy_streams.proofs.Numbers.{one_more}
use Rattle.zero_copy_streams.proofs.Told.{found_of, not_end}
use Rattle.zero_copy_streams.proofs.receiver.Receiver.read.Goals as goal

-- where a value arrives, what is told of it is told of the number that was received last
pub returns-in-Value-clause-found : goal.returns-in-Value-clause-found
returns-in-Value-clause-found g c =
    let ticket = c.in-Value.ticket in (
      found_of g.R.Reads.tells c.args.self.now c.take.new.self c.take.result ticket.0 c.take.ensures.told
          (ap (λ t. numbers_of (streams.received_so_far t)) c.take.ensures.tickets ∙ one_more _ _ ticket c.in-Value.ensures.received),
      ap (λ t. streams.is_at_end t) c.take.ensures.tickets
          ∙ (c.in-Value.ensures.end ∙ sym (not_end g.R.Reads.tells c.take.result ticket.0 c.take.ensures.told)),
    )
