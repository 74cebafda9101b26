-- `acquire` (src/unique.rt): its call of `drive` can end, and its return is the top of the stack, which has
-- left it, or why there is none.
use Rattle.plain_queues.proofs.Alone.{can_end, ends_so}
use Rattle.plain.proofs.Stacks.Acquires.{take_runs}
use Rattle.plain.proofs.unique.acquire.Goals as goal

pub drive-requires : goal.drive-requires
drive-requires c = record { ends = can_end (take_runs c.args.capacity c.new.result c.new.ensures c.args.words.now.items c.requires) }

pub returns : goal.returns
returns c = ends_so (take_runs c.args.capacity c.new.result c.new.ensures c.args.words.now.items c.requires) c.drive.ensures.alone
