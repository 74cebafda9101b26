-- `Receiver::read_each` (src/each.rt): the invariant of its loop holds at the start and after each iteration.
use Rattle.zero_copy_loans.proofs.Ends.{none_read, read_next}
use Rattle.zero_copy_loans.proofs.receiver.Receiver.read_each.Goals as goal

pub loop-init : goal.loop-init
loop-init g c = none_read g.R.Reads.tells _ _ c.new-told.ensures.items

pub loop-preserved : goal.loop-preserved
loop-preserved g c =
    read_next g.R.Reads.tells _ _ _ _ _ _ _ _ c.in-Ok.ensures.items c.in_ok-one.ensures c.loop.invariant c.in_ok-sample.ensures.receives
    c.give_back.ensures.receives
