-- `Stream::ends` (src/stream.rt): its return meets the clause `received`.
use Rattle.std.proofs.Common.{ap, ◌∙◌}
use Rattle.uses_streams.specs.Ends as streams
use Rattle.zero_copy_streams.specs.Tickets.{numbers_of}
use Rattle.zero_copy_streams.proofs.stream.Stream.ends.Goals as goal

pub returns-clause-received : goal.returns-clause-received
returns-clause-received g c =
    ap (λ t. numbers_of (streams.received_so_far t)) c.of-receiver.ensures ∙ ap numbers_of c.in_ok-sends.ensures.received
