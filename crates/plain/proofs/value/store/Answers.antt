-- `store` (src/value.rt): its call of `drive` can end, and the words then represent the value that was stored.
use Rattle.plain_queues.proofs.Alone.{can_end, ends_so}
use Rattle.plain.proofs.Values.{store_runs}
use Rattle.plain.proofs.value.store.Goals as goal

-- the call that `store` drives is as `drive` requires
pub drive-requires : goal.drive-requires
drive-requires g c = record {
  ends = can_end
      (store_runs g.T.Words.value_of g.met.T.Words.sized g.met.T.Words.given_back g.met.T.Words.some g.met.T.Words.few
      c.args.value.now c.new.ensures c.requires);
}

-- what `store` returns and leaves is as its clause says
pub returns : goal.returns
returns g c = ends_so
    (store_runs g.T.Words.value_of g.met.T.Words.sized g.met.T.Words.given_back g.met.T.Words.some g.met.T.Words.few
    c.args.value.now c.new.ensures c.requires)
    c.drive.ensures.alone
