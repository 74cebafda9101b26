-- `push` (src/queues.rt): its call of `drive` can end, and the list has one value more, where there was room.
use Rattle.plain_queues.proofs.Alone.{can_end, ends_so}
use Rattle.plain_queues.proofs.Lists.Pushes.{push_runs}
use Rattle.plain_queues.proofs.queues.push.Goals as goal

-- the call that `push` drives is as `drive` requires
pub drive-requires : goal.drive-requires
drive-requires g c = record {
  ends = can_end
      (push_runs g.T.Words.value_of g.met.T.Words.sized g.met.T.Words.given_back g.met.T.Words.some g.met.T.Words.few
      c.args.capacity c.args.value.now c.new.ensures c.requires);
}

-- what `push` returns and leaves is as its clause says
pub returns : goal.returns
returns g c = ends_so
    (push_runs g.T.Words.value_of g.met.T.Words.sized g.met.T.Words.given_back g.met.T.Words.some g.met.T.Words.few
    c.args.capacity c.args.value.now c.new.ensures c.requires)
    c.drive.ensures.alone
