-- `publish` (src/rejoins.rt): its loop keeps its invariant, and its return meets what it ensures (`HasPublished`).
use Rattle.std.proofs.Common.{refl}
use Rattle.zero_copy_bus.specs.Ends.{loaned}
use Rattle.zero_copy_bus.proofs.Published.{can_send_to_all, published_none, published_one, published_then}
use Rattle.tests_bus.proofs.rejoins.publish.Goals as goal

-- Before the first round the publisher is as it was, which is to have published nothing.
pub loop-init : goal.loop-init
loop-init g c = published_none _ _ refl refl refl

-- A round is a loan, which publishes nothing, and the publication of what was loaned, behind the rounds before.
pub loop-preserved : goal.loop-preserved
loop-preserved g c =
    let loan = c.loan.ensures in
    let sent = c.publish.ensures in
    published_then _ _ _ c.loop.invariant
    (published_then c.loop.publisher c.loan.new.self c.publish.new.self
    (published_none c.loop.publisher c.loan.new.self loan.same.layout loan.next loan.lanes)
    (published_one (loaned c.in-Ok.loan) c.loan.new.self c.publish.new.self
    (can_send_to_all (loaned c.in-Ok.loan) c.loop.publisher c.loan.new.self c.in-Ok.ensures.free c.in-Ok.ensures.changes c.in-Ok.ensures.loaned)
    sent.same.layout sent.taking sent.served sent.next sent.unsent (λ no. (sent.last no).1)))

-- The loop is left at a loan that is refused, which publishes nothing.
pub returns-in_default : goal.returns-in_default
returns-in_default g c =
    let loan = c.loan.ensures in
    published_then _ _ _ c.loop.invariant (published_none c.loop.publisher c.loan.new.self loan.same.layout loan.next loan.lanes)
