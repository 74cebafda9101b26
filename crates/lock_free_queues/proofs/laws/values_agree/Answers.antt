-- The law `values_agree` (src/laws.rt): what is published and what is taken at equal
-- positions are equal values.
use Rattle.lock_free_queues.proofs.Queues.Promised.{agree}
use Rattle.lock_free_queues.proofs.laws.values_agree.Goals as goal

pub returns : goal.returns
returns g c code kind capacity p q i x y v h a b = agree code kind capacity p q i x y v h a b
