-- `is_set` (src/bits.rt): the call that `is_set` drives can end, as `drive` requires, and `is_set` returns
-- whether the place stands; the set stays.
use Rattle.plain_queues.proofs.Alone.{can_end, ends_so}
use Rattle.plain.proofs.Places.Looks.{look_runs}
use Rattle.plain.proofs.bits.is_set.Goals as goal

-- the call that `is_set` drives can end, as `drive` requires
pub drive-requires : goal.drive-requires
drive-requires c = record {
  ends = can_end
      (look_runs c.args.capacity c.args.place c.requires.below c.args.words.now.items c.requires.fits _);
}

-- `is_set` returns whether the place stands
pub returns : goal.returns
returns c = ends_so
    (look_runs c.args.capacity c.args.place c.requires.below c.args.words.now.items c.requires.fits _)
    c.drive.ensures.alone
