-- `Sent::join` (src/sender.rt): its return meets the clauses `beginning`, `all` and `finished`.
use Rattle.std.proofs.Common.{◌≡◌, true, ap, length, subst, take}
use Rattle.uses_streams.specs.Ends as streams
use Rattle.zero_copy_streams.specs.Tickets.{numbers_of}
use Rattle.zero_copy_streams.proofs.Numbers.{begins}
use Rattle.zero_copy_streams.proofs.sender.Sent.join.Goals as goal

pub returns-clause-beginning : goal.returns-clause-beginning
returns-clause-beginning c =
    begins (streams.sent c.args.self.tickets) (streams.received c.args.other.tickets)
    (subst (λ t. streams.received t ≡ take (length (streams.received t)) (streams.sent c.args.self.tickets)) c.into_tickets.ensures
    c.join.ensures.beginning)

pub returns-clause-all : goal.returns-clause-all
returns-clause-all c ended =
    ap numbers_of
    (subst (λ t. streams.has_ended t ≡ true → streams.received t ≡ streams.sent c.args.self.tickets) c.into_tickets.ensures c.join.ensures.all ended)

pub returns-clause-finished : goal.returns-clause-finished
returns-clause-finished c =
    subst (λ t. streams.has_ended t ≡ true → streams.has_finished c.args.self.tickets ≡ true) c.into_tickets.ensures c.join.ensures.finished
