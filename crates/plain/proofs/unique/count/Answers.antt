-- `count` (src/unique.rt): its call of `drive` can end, and its return is how many indices are
-- out; the stack stays.
use Rattle.plain_queues.proofs.Alone.{can_end, ends_so}
use Rattle.plain.proofs.Stacks.Looks.{count_runs}
use Rattle.plain.proofs.unique.count.Goals as goal

pub drive-requires : goal.drive-requires
drive-requires c = record { ends = can_end (count_runs c.args.capacity c.args.words.now.items _ c.requires) }

pub returns : goal.returns
returns c = ends_so (count_runs c.args.capacity c.args.words.now.items _ c.requires) c.drive.ensures.alone
