-- `len` (src/queues.rt): the call that `len` drives can end, as `drive` requires, and its return is the
-- number of values; the list stays.
use Rattle.std.proofs.Common.{subst, sym, ap}
use Rattle.plain_queues.specs.Queues.{list_in, Represents}
use Rattle.plain_queues.proofs.Alone.{can_end, ends_so}
use Rattle.plain_queues.proofs.Lists.Counts.{count_runs}
use Rattle.plain_queues.proofs.queues.len.Goals as goal

-- the call that `len` drives can end, as `drive` requires
pub drive-requires : goal.drive-requires
drive-requires g c = record {
  ends = can_end
      (count_runs g.T.Words.value_of g.T.Words.WORDS c.args.capacity c.new.result c.new.ensures c.args.words.now.items c.requires);
}

-- what `len` returns and leaves is as its clause says
pub returns : goal.returns
returns g c =
    let so = ends_so
    (count_runs g.T.Words.value_of g.T.Words.WORDS c.args.capacity c.new.result c.new.ensures c.args.words.now.items c.requires)
    c.drive.ensures.alone in (
      subst (Represents g.T.Words.WORDS c.args.capacity) (sym so.1) c.requires,
      so.0,
      ap (list_in g.T.Words.value_of g.T.Words.WORDS c.args.capacity) so.1,
    )
