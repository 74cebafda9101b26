-- `send` (src/relay.rt): each iteration keeps the invariant of its loop, and its return meets what it ensures (`IfOk`).
use Rattle.uses_programs.proofs.Names.{arith, sending_next, sending_still, sent_all}
use Rattle.uses_programs.proofs.relay.send.Goals as goal

pub loop-preserved-then-push : goal.loop-preserved-then-push
loop-preserved-then-push g c =
    sending_next c.args.numbers.now c.loop.next _ c.loop.invariant (let more = c.if-next-numbers.false in omega arith)
    c.push.ensures.same c.if-push.true c.push.ensures.pushed

pub loop-preserved : goal.loop-preserved
loop-preserved g c = sending_still c.loop.invariant c.push.ensures.same c.if-push.false c.push.ensures.full

pub returns-then-next-numbers : goal.returns-then-next-numbers
returns-then-next-numbers g c =
    sent_all c.args.numbers.now c.loop.next
    c.in-Ok.ensures.acquired.0 c.in-Ok.ensures.acquired.1 c.loop.invariant c.if-next-numbers.true
    c.release.ensures.same c.release.ensures.released c.release.ensures.list
