-- `release` (src/robust_unique_index_set.rt): its call of `drive` can end, and it frees the index, or answers why it does not.
use Rattle.plain_queues.proofs.Alone.{can_end, ends_so}
use Rattle.plain.proofs.Robust.Releases.{give_at}
use Rattle.plain.proofs.robust_unique_index_set.release.Goals as goal

-- the call that `release` drives is as `drive` requires
pub drive-requires : goal.drive-requires
drive-requires c = record {
  ends = can_end
      (give_at c.args.capacity c.args.index c.args.owner c.args.mode c.value.result c.value.ensures.number
      c.value.ensures.named c.new.result c.new.ensures c.args.words.now.items c.requires.fits c.requires.index);
}

-- what `release` returns and leaves is as its clause says
pub returns : goal.returns
returns c = ends_so
    (give_at c.args.capacity c.args.index c.args.owner c.args.mode c.value.result c.value.ensures.number
    c.value.ensures.named c.new.result c.new.ensures c.args.words.now.items c.requires.fits c.requires.index)
    c.drive.ensures.alone
