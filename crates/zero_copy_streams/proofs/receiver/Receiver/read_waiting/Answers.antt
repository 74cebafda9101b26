-- `Receiver::read_waiting` (src/receiver.rt): its return meets the clause `found` where a ticket came.
use Rattle.std.proofs.Common.{ap, ◌∙◌}
use Rattle.uses_streams.specs.Ends as streams
use Rattle.zero_copy_streams.specs.Tickets.{numbers_of}
use Rattle.zero_copy_streams.proofs.Numbers.{one_more}
use Rattle.zero_copy_streams.proofs.Told.{found_of}
use Rattle.zero_copy_streams.proofs.receiver.Receiver.read_waiting.Goals as goal

pub returns-in-Some-clause-found : goal.returns-in-Some-clause-found
returns-in-Some-clause-found g c =
    let ticket = c.in-Some.ticket in
    found_of g.R.Reads.tells c.args.self.now c.take.new.self c.take.result ticket.0 c.take.ensures.told
    (ap (λ t. numbers_of (streams.received_so_far t)) c.take.ensures.tickets ∙ one_more _ _ ticket c.in-Some.ensures.value)
