-- `version` (src/value.rt): the call that `version` drives is as `drive` requires, and its return meets the
-- clauses `answer` and `words`.
use Rattle.std.proofs.Common.{refl, slice_index}
use Rattle.plain_queues.proofs.Alone.{ends_at_once}
use Rattle.plain.proofs.value.version.Goals as goal

-- the call that `version` drives is as `drive` requires
pub drive-requires : goal.drive-requires
drive-requires c = record { ends = ends_at_once (slice_index c.args.words.now.items 0) tt c.args.words.now.items (refl, refl, refl) }

-- `version` answers as clause `answer` says: it is the word of the version
pub returns-clause-answer : goal.returns-clause-answer
returns-clause-answer c =
    (c.drive.ensures.alone 1 (slice_index c.args.words.now.items 0) tt c.args.words.now.items
    (refl, refl, refl)).0

-- `version` leaves the words as they were (clause `words`)
pub returns-clause-words : goal.returns-clause-words
returns-clause-words c =
    (c.drive.ensures.alone 1 (slice_index c.args.words.now.items 0) tt c.args.words.now.items
    (refl, refl, refl)).2
