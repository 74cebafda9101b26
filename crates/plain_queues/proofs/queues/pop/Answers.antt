-- `pop` (src/queues.rt): its call of `drive` can end, and its return is the oldest value, which the list has lost, or None.
use Rattle.std.proofs.Common.{arith, ◌∙◌}
use Rattle.plain_queues.proofs.Alone.{can_end, ends_so}
use Rattle.plain_queues.proofs.Words.{buffer}
use Rattle.plain_queues.proofs.Lists.Pops.{pop_runs}
use Rattle.plain_queues.proofs.queues.pop.Goals as goal

-- the call that `pop` drives is as `drive` requires
pub drive-end-requires : goal.drive-end-requires
drive-end-requires g c =
    let few = g.met.T.Words.few in
    record {
      ends = can_end
          (pop_runs g.T.Words.value_of g.T.Words.WORDS g.met.T.Words.some few buffer c.args.capacity c.new.ensures c.new-room.result
          (let long = c.new-room.ensures in omega arith) c.requires);
    }

-- what `pop` returns and leaves is as its clause says
pub returns : goal.returns
returns g c =
    let few = g.met.T.Words.few in
    let so = ends_so
    (pop_runs g.T.Words.value_of g.T.Words.WORDS g.met.T.Words.some few buffer c.args.capacity c.new.ensures c.new-room.result
    (let long = c.new-room.ensures in omega arith) c.requires)
    c.drive-end.ensures.alone in
    (so.0, c.answer.ensures ∙ so.1, so.2)
