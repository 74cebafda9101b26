-- `acquire` (src/robust_unique_index_set.rt): its call of `drive` can end, and its return is a free index, which the
-- owner has now, or why there is none.
use Rattle.plain_queues.proofs.Alone.{can_end, ends_so}
use Rattle.plain.proofs.Robust.Acquires.{take_at}
use Rattle.plain.proofs.robust_unique_index_set.acquire.Goals as goal

-- the call that `acquire` drives is as `drive` requires
pub drive-requires : goal.drive-requires
drive-requires c = record {
  ends = can_end
      (take_at c.args.capacity c.args.owner c.value.result c.value.ensures.number c.value.ensures.named c.new.result
      c.new.ensures c.args.words.now.items c.requires);
}

-- what `acquire` returns and leaves is as its clause says
pub returns : goal.returns
returns c = ends_so
    (take_at c.args.capacity c.args.owner c.value.result c.value.ensures.number c.value.ensures.named c.new.result
    c.new.ensures c.args.words.now.items c.requires)
    c.drive.ensures.alone
