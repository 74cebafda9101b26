-- `release_or_lock` (src/unique.rt): its call of `drive` can end, and the index is free; the set is locked where it was the last.
use Rattle.plain_queues.proofs.Alone.{can_end, ends_so}
use Rattle.plain.proofs.Stacks.Releases.{lock_runs}
use Rattle.steps.specs.declared.indices.unique.LockMode.{LockMode}
use Rattle.plain.proofs.unique.release_or_lock.Goals as goal

-- the call that `release_or_lock` drives is as `drive` requires
pub drive-requires : goal.drive-requires
drive-requires c =
    record {
      ends =
          can_end
          (lock_runs LockMode c.args.capacity c.args.index c.args.words.now.items c.requires.fits c.requires.out c.new.result c.new.ensures);
    }

pub returns : goal.returns
returns c =
    ends_so
    (lock_runs LockMode c.args.capacity c.args.index c.args.words.now.items c.requires.fits c.requires.out c.new.result c.new.ensures)
    c.drive.ensures.alone
