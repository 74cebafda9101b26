-- `look` (src/unique.rt): the call that `look` drives is as `drive` requires, and its return
-- meets what it ensures (`BehavesAs`).
use Rattle.std.proofs.Common.{arith}
use Rattle.plain_queues.proofs.Alone.{can_end, ends_so}
use Rattle.plain.proofs.Stacks.Looks.{look_runs}
use Rattle.plain.proofs.unique.look.Goals as goal

pub drive-requires : goal.drive-requires
drive-requires = grind (arith, can_end, look_runs)

pub returns : goal.returns
returns c = ends_so (look_runs c.args.capacity c.args.words.now.items _ c.requires) c.drive.ensures.alone
