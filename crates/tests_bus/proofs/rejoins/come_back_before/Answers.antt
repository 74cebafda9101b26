-- `come_back_before` (src/rejoins.rt): its call of `rejoin` meets what that requires.
use Rattle.zero_copy_bus.specs.Ends.{roll_of, table_of}
use Rattle.zero_copy_bus.proofs.Heard.{left_settled}
use Rattle.tests_bus.proofs.rejoins.come_back_before.Goals as goal

-- What was left is of a lane of the publisher (`IsOfLane`), and it is still after the `update` in between.
pub rejoin-requires : goal.rejoin-requires
rejoin-requires g c =
    left_settled (roll_of c.update.new.self) (table_of c.leave.new.publisher) (table_of c.update.new.self)
    c.leave.new.publisher c.update.new.self c.in_ok-left.left c.in_ok-left.ensures c.update.ensures.settled
