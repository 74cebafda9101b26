-- `push` (src/overflowing.rt): the call that `push` drives can end, as `drive` requires, and its return is
-- the value that a full list hands back for this one.
use Rattle.std.proofs.Common.{◌∙◌}
use Rattle.plain_queues.proofs.Alone.{can_end, ends_so}
use Rattle.plain_queues.proofs.Lists.Overflows.{push_runs}
use Rattle.plain_queues.proofs.overflowing.push.Goals as goal

-- the call that `push` drives can end, as `drive` requires
pub drive-end-requires : goal.drive-end-requires
drive-end-requires c = record {
  ends = can_end
      (push_runs c.args.capacity c.args.value c.new.result c.new.ensures (record { 0 = 0 }) c.args.words.now.items c.requires);
}

-- what `push` returns and leaves is as its clause says
pub returns : goal.returns
returns c =
    let so = ends_so
    (push_runs c.args.capacity c.args.value c.new.result c.new.ensures (record { 0 = 0 }) c.args.words.now.items c.requires)
    c.drive-end.ensures.alone in
    (so.0, c.answer.ensures ∙ so.1, so.2)
