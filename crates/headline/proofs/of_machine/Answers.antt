-- `of_machine` (src/lib.rt): its return meets what it ensures.
use Rattle.headline.proofs.Reached.{holds}
use Rattle.headline.proofs.of_machine.Goals as goal

pub returns : goal.returns
returns g c = let r = c.reached.ensures in (r.queue, holds _ r)
