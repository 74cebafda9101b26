-- `pop` (src/overflowing.rt): the call that `pop` drives can end, as `drive` requires, and its return is the
-- oldest value, which the list has lost, or None.
use Rattle.std.proofs.Common.{◌∙◌}
use Rattle.plain_queues.proofs.Alone.{can_end, ends_so}
use Rattle.plain_queues.proofs.Lists.Overflows.{pop_runs}
use Rattle.plain_queues.proofs.overflowing.pop.Goals as goal

-- the call that `pop` drives can end, as `drive` requires
pub drive-end-requires : goal.drive-end-requires
drive-end-requires c = record {
  ends = can_end
      (pop_runs c.args.capacity (record { 0 = 0 }) c.args.words.now.items c.new.result c.new.ensures c.requires);
}

-- what `pop` returns and leaves is as its clause says
pub returns : goal.returns
returns c =
    let so = ends_so
    (pop_runs c.args.capacity (record { 0 = 0 }) c.args.words.now.items c.new.result c.new.ensures c.requires)
    c.drive-end.ensures.alone in
    (so.0, c.answer.ensures ∙ so.1, so.2)
