-- `release` (src/unique.rt): its call of `drive` can end, and the index is then on top of the stack.
use Rattle.plain_queues.proofs.Alone.{can_end, ends_so}
use Rattle.plain.proofs.Stacks.Releases.{give_runs}
use Rattle.steps.specs.declared.indices.unique.DefaultMode.{DefaultMode}
use Rattle.plain.proofs.unique.release.Goals as goal

-- the call that `release` drives is as `drive` requires
pub drive-requires : goal.drive-requires
drive-requires c =
    record {
      ends =
          can_end
          (give_runs DefaultMode c.args.capacity c.args.index c.args.words.now.items c.requires.fits c.requires.out c.new.result c.new.ensures);
    }

-- what `release` returns and leaves is as its clause says
pub returns : goal.returns
returns c =
    ends_so
    (give_runs DefaultMode c.args.capacity c.args.index c.args.words.now.items c.requires.fits c.requires.out c.new.result c.new.ensures)
    c.drive.ensures.alone
