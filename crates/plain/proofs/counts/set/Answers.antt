-- `set` (src/counts.rt): the call that `set` drives is as `drive` requires, and its return meets the clauses
-- `answer` and `counts`.
use Rattle.std.proofs.Common.{refl, slice_index}
use Rattle.plain_queues.proofs.Alone.{ends_at_once}
use Rattle.steps.specs.Objects.Counts.{counted}
use Rattle.plain.proofs.counts.set.Goals as goal

-- the call that `set` drives is as `drive` requires
pub drive-requires : goal.drive-requires
drive-requires c =
    record {
      ends =
          ends_at_once (slice_index c.args.words.now.items c.args.place) tt (counted c.args.words.now.items c.args.place) (refl, refl, refl);
    }

-- `set` answers as clause `answer` says: it is what the word of the place was
pub returns-clause-answer : goal.returns-clause-answer
returns-clause-answer c =
    (c.drive.ensures.alone 1 (slice_index c.args.words.now.items c.args.place) tt (counted c.args.words.now.items c.args.place) (refl, refl, refl)).0

-- `set` leaves the counts as clause `counts` says: the word of the place is one more
pub returns-clause-counts : goal.returns-clause-counts
returns-clause-counts c =
    (c.drive.ensures.alone 1 (slice_index c.args.words.now.items c.args.place) tt (counted c.args.words.now.items c.args.place) (refl, refl, refl)).2
