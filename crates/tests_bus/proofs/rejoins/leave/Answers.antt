-- `leave` (src/rejoins.rt): its return meets what it ensures (`IsOfLane`).
use Rattle.zero_copy_bus.proofs.Heard.{left_of}
use Rattle.tests_bus.proofs.rejoins.leave.Goals as goal

-- What is left has the place and the queue that the subscriber was given, since all calls in between keep them.
pub returns : goal.returns
returns g c =
    left_of c.args.publisher.now c.subscribe.new.self c.publish.new.publisher c.in-Ok.subscriber c.take_two.new.subscriber
    c.in-Ok-leave.left c.in-Ok.ensures.leased c.publish.ensures c.take_two.ensures.place c.take_two.ensures.queue
    c.in-Ok-leave.ensures.left
