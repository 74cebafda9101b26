-- `len` (src/overflowing.rt): the call that `len` drives can end, as `drive` requires, and its return is the
-- number of values; the list stays.
use Rattle.std.proofs.Common.{subst, sym, ap}
use Rattle.plain_queues.specs.Overflowing.{list_in, Represents}
use Rattle.plain_queues.proofs.Alone.{can_end, ends_so}
use Rattle.plain_queues.proofs.Lists.Counts.{over_count_runs}
use Rattle.plain_queues.proofs.overflowing.len.Goals as goal

-- the call that `len` drives can end, as `drive` requires
pub drive-requires : goal.drive-requires
drive-requires c = record {
  ends = can_end
      (over_count_runs c.args.capacity c.new.result c.new.ensures c.args.words.now.items c.requires);
}

-- what `len` returns and leaves is as its clause says
pub returns : goal.returns
returns c =
    let so = ends_so
    (over_count_runs c.args.capacity c.new.result c.new.ensures c.args.words.now.items c.requires)
    c.drive.ensures.alone in
    (subst (Represents c.args.capacity) (sym so.1) c.requires, so.0, ap (list_in c.args.capacity) so.1)
