-- `Sender::send_each` (src/sender.rt): the invariant of its loop holds at the start and after each iteration, and its return meets what
-- it ensures.
use Rattle.std.proofs.Common.{◌≡◌, ◌∙◌, subst, arith}
use Rattle.zero_copy_loans.specs.Ends.{HasSent}
use Rattle.zero_copy_loans.proofs.Ends.{none_sent, sent_next}
use Rattle.zero_copy_loans.proofs.sender.Sender.send_each.Goals as goal

pub loop-init : goal.loop-init
loop-init g c = none_sent _ _ c.new-back.ensures.items

-- each iteration keeps the invariant of the loop
pub loop-preserved : goal.loop-preserved
loop-preserved g c =
    let l = c.in_ok-loan.ensures.sends in
    let w = c.in_ok-written.ensures.sends in
    sent_next _ _ _ _ _ _ _ _ c.in_ok-note.ensures c.loop.invariant
    (w.0 ∙ l.0, (w.1.0 ∙ l.1.0, w.1.1 ∙ l.1.1, w.1.2 ∙ l.1.2), w.2 ∙ l.2, w.3 ∙ l.3)
    (c.send-came.ensures.sends c.in_ok-written.ensures.is c.in_ok-written.ensures.has)

pub returns : goal.returns
returns g c =
    let all : c.loop.counter ≡ c.args.count = omega arith in
    subst (λ n. HasSent n c.loop.back.items c.args.self.now c.loop.self) all c.loop.invariant
