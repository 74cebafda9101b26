-- The law `halves_pass_all` (src/laws.rt): two halves of a first pass that are joined know all that happened; if one of them sent some
-- values and the other received some, nobody else pushed or popped: what was sent is all that was published, and what was received is
-- all that was taken out.
use Rattle.lock_free_queues.proofs.Queues.Passed.{passed}
use Rattle.lock_free_queues.proofs.laws.halves_pass_all.Goals as goal

pub returns : goal.returns
returns g c named sent received capacity first left right mine theirs new opens cut s r h none =
    passed {named = named} {n = capacity} {first = first} {left = left} {right = right} {a = mine} {b = theirs} {z = new} opens cut s r h none
