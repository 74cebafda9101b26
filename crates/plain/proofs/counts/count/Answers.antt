-- `count` (src/counts.rt): the call that `count` drives is as `drive` requires, and its return meets the
-- clauses `answer` and `counts`.
use Rattle.std.proofs.Common.{refl, slice_index}
use Rattle.plain_queues.proofs.Alone.{ends_at_once}
use Rattle.plain.proofs.counts.count.Goals as goal

-- the call that `count` drives is as `drive` requires
pub drive-requires : goal.drive-requires
drive-requires c = record { ends = ends_at_once (slice_index c.args.words.now.items c.args.place) tt c.args.words.now.items (refl, refl, refl) }

-- `count` answers as clause `answer` says: it is the word of the place
pub returns-clause-answer : goal.returns-clause-answer
returns-clause-answer c =
    (c.drive.ensures.alone 1 (slice_index c.args.words.now.items c.args.place) tt c.args.words.now.items
    (refl, refl, refl)).0

-- `count` leaves the counts as clause `counts` says: the words stay
pub returns-clause-counts : goal.returns-clause-counts
returns-clause-counts c =
    (c.drive.ensures.alone 1 (slice_index c.args.words.now.items c.args.place) tt c.args.words.now.items
    (refl, refl, refl)).2
