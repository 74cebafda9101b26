-- `borrowed_indices` (src/robust_unique_index_set.rt): the call that `borrowed_indices` drives can end, as
-- `drive` requires, and `borrowed_indices` returns how many indices have an owner; the generation is raised.
use Rattle.plain_queues.proofs.Alone.{can_end, ends_so}
use Rattle.plain.proofs.Robust.Looks.{borrowed_at}
use Rattle.plain.proofs.robust_unique_index_set.borrowed_indices.Goals as goal

-- the call that `borrowed_indices` drives can end, as `drive` requires
pub drive-requires : goal.drive-requires
drive-requires c = record {
  ends = can_end (borrowed_at c.args.capacity c.new.result c.new.ensures c.args.words.now.items c.requires);
}

-- `borrowed_indices` returns how many indices have an owner
pub returns : goal.returns
returns c = ends_so
    (borrowed_at c.args.capacity c.new.result c.new.ensures c.args.words.now.items c.requires)
    c.drive.ensures.alone
