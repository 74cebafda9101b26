-- `is_locked` (src/robust_unique_index_set.rt): the call that `is_locked` drives can end, as `drive`
-- requires, and `is_locked` returns whether the set is locked; it stays.
use Rattle.plain_queues.proofs.Alone.{can_end, ends_so}
use Rattle.plain.proofs.Robust.Looks.{looked_at}
use Rattle.plain.proofs.robust_unique_index_set.is_locked.Goals as goal

-- the call that `is_locked` drives can end, as `drive` requires
pub drive-requires : goal.drive-requires
drive-requires c = record {
  ends = can_end (looked_at c.args.capacity _ c.args.words.now.items c.requires);
}

-- `is_locked` returns whether the set is locked
pub returns : goal.returns
returns c = ends_so
    (looked_at c.args.capacity _ c.args.words.now.items c.requires)
    c.drive.ensures.alone
