-- `set` (src/bits.rt): the call that `set` drives can end, as `drive` requires, and `set` returns whether the
-- place was clear; it stands now.
use Rattle.plain_queues.proofs.Alone.{can_end, ends_so}
use Rattle.plain.proofs.Places.Sets.{set_runs}
use Rattle.plain.proofs.bits.set.Goals as goal

-- the call that `set` drives can end, as `drive` requires
pub drive-requires : goal.drive-requires
drive-requires c = record {
  ends = can_end
      (set_runs c.args.capacity c.args.place c.requires.below c.args.words.now.items c.requires.fits c.new.result c.new.ensures);
}

-- `set` returns whether the place was clear
pub returns : goal.returns
returns c = ends_so
    (set_runs c.args.capacity c.args.place c.requires.below c.args.words.now.items c.requires.fits c.new.result c.new.ensures)
    c.drive.ensures.alone
