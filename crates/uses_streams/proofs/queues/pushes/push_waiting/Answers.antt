-- `push_waiting` (src/queues/pushes.rt): the invariant of its loop holds at the start and after each iteration, and its return meets
-- what it ensures (`Sending`).
use Rattle.std.proofs.Common.{[], refl}
use Rattle.lock_free_queues.proofs.Queues.Relays.{sending_none, sending_one, sending_still}
use Rattle.uses_streams.proofs.queues.pushes.push_waiting.Goals as goal

pub loop-init : goal.loop-init
loop-init g c = sending_none refl

pub loop-preserved : goal.loop-preserved
loop-preserved g c = sending_still c.loop.invariant c.push.ensures.same c.if-push.false c.push.ensures.full

pub returns-then-push : goal.returns-then-push
returns-then-push g c = sending_one [] c.args.value.now c.loop.invariant c.push.ensures.same c.if-push.true c.push.ensures.pushed
