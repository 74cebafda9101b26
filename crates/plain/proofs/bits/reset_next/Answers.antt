-- `reset_next` (src/bits.rt): the call that `reset_next` drives can end, as `drive` requires, and its return
-- is the next place that stood, which is clear now, or None.
use Rattle.plain_queues.proofs.Alone.{can_end, ends_so}
use Rattle.plain.proofs.Places.Resets.{reset_runs}
use Rattle.plain.proofs.bits.reset_next.Goals as goal

-- the call that `reset_next` drives can end, as `drive` requires
pub drive-requires : goal.drive-requires
drive-requires c = record {
  ends = can_end
      (reset_runs c.args.capacity c.args.words.now.items c.requires c.new.result c.new.ensures);
}

-- `reset_next` returns the next place that stood, or None
pub returns : goal.returns
returns c = ends_so
    (reset_runs c.args.capacity c.args.words.now.items c.requires c.new.result c.new.ensures)
    c.drive.ensures.alone
