-- `Sender::send_waiting` (src/sender.rt): each iteration keeps the invariant of its loop, and its returns meet what it ensures.
use Rattle.std.proofs.Common.{◌∙◌}
use Rattle.zero_copy_streams.proofs.Numbers.{sent_then}
use Rattle.zero_copy_streams.proofs.sender.Sender.send_waiting.Goals as goal

pub loop-preserved : goal.loop-preserved
loop-preserved g c =
    let l = c.loop.invariant in
    let same = c.in-Err-NoSlot.ensures.same in
    record { queue = c.send.ensures.queue ∙ l.queue; sent = same.0 ∙ l.sent; next = same.1 ∙ l.next }

pub returns-in-Ok-clause-queue : goal.returns-in-Ok-clause-queue
returns-in-Ok-clause-queue g c = c.send.ensures.queue ∙ c.loop.invariant.queue

pub returns-in-Ok-clause-sent : goal.returns-in-Ok-clause-sent
returns-in-Ok-clause-sent g c = sent_then _ _ _ _ _ c.in-Ok.ensures.sent c.loop.invariant.sent c.loop.invariant.next
