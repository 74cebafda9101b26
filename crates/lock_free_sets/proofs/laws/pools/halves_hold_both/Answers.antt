-- The law `halves_hold_both` (src/laws/pools.rt): two halves of a pass, once they are joined, hold what
-- both held, and have as much of the right to know the whole as the pass had. Halves can be halved
-- again, for any number of threads.
use Rattle.std.proofs.Common.{refl, ◌++◌}
use Rattle.lock_free_sets.proofs.Unique.Pools.{both_hold}
use Rattle.lock_free_sets.proofs.laws.pools.halves_hold_both.Goals as goal

pub returns : goal.returns
returns c start mine other one two joined is js cut of h g join same =
    both_hold start mine other one two joined is js {all = is ++ js} cut of h g join same refl
