-- `Sender::lay` (src/sender.rt): its result keeps the invariant `numbered` where the ticket was sent, and its return meets the clause
-- `sent` there.
use Rattle.zero_copy_streams.proofs.Numbers.{next_sent, one_more}
use Rattle.zero_copy_streams.proofs.sender.Sender.lay.Goals as goal

pub invariant_of-self-then-send : goal.invariant_of-self-then-send
invariant_of-self-then-send g c =
    let self = c.args.self.now in
    record { numbered = next_sent _ _ self.next self.numbered (one_more _ _ (self.next, c.args.place) (c.send.ensures.sent c.if-send.true)) }

pub returns-then-send-clause-sent : goal.returns-then-send-clause-sent
returns-then-send-clause-sent g c =
    one_more _ _ (c.args.self.now.next, c.args.place) (c.send.ensures.sent c.if-send.true)
