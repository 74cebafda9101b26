-- `of_positions` (src/twins/queues.rt): its return meets the clauses `published`, `taken` and `agree`.
use Rattle.std.proofs.Common.{length, refl}
use Rattle.model.specs.declared.families.queues.QueueKind.TheVariants.{IndexQueue}
use Rattle.model.specs.Families.Queues.Reading.{published, handed_out}
use Rattle.lock_free.specs.Coding.{one_word}
use Rattle.lock_free.specs.Queues.Calls.{queue_of, view}
use Rattle.uses_laws.proofs.twins.queues.of_positions.Goals as goal

-- one value at most is published at a position
pub returns-clause-published : goal.returns-clause-published
returns-clause-published c p q x y before after earlier later one other same =
    c.positions_are_once.ensures.published p q (length (published before)) x y (view c.args.pass.now).seen
    (record { before = before; after = after; is = one; rank = refl })
    (record { before = earlier; after = later; is = other; rank = same })

-- one value at most is taken from a position
pub returns-clause-taken : goal.returns-clause-taken
returns-clause-taken c p q x y before after earlier later one other same =
    c.positions_are_once.ensures.taken p q (length (handed_out before)) x y (view c.args.pass.now).seen
    (record { before = before; after = after; is = one; rank = refl })
    (record { before = earlier; after = later; is = other; rank = same })

-- what was taken from a position is what was published there
pub returns-clause-agree : goal.returns-clause-agree
returns-clause-agree c p q x y before after earlier later one other same =
    let pass = c.args.pass.now in
    c.values_agree.ensures one_word IndexQueue (queue_of pass).capacity p q (length (published before)) x y (view pass) c.history.ensures.history
    (record { before = before; after = after; is = one; rank = refl })
    (record { before = earlier; after = later; is = other; rank = same })
