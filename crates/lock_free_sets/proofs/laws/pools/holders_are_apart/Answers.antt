-- The law `holders_are_apart` (src/laws/pools.rt; clauses `apart` and `none`): no index is held twice. Where
-- a first pass has the whole share again and has given back all that it took, nobody holds an index.
use Rattle.lock_free_sets.proofs.Unique.Pools.{holds_apart, none_out}
use Rattle.lock_free_sets.proofs.laws.pools.holders_are_apart.Goals as goal

-- The indices that a pass took and holds all differ.
pub returns-clause-apart : goal.returns-clause-apart
returns-clause-apart c start now is h sound = holds_apart {start = start} {now = now} is h sound

-- Where a first pass has the whole share again and has given back all that it took, its count of the
-- held indices is 0.
pub returns-clause-none : goal.returns-clause-none
returns-clause-none c first was given now is n all taken gave goes counted whole =
    none_out first was {given = given} {now = now} {n = n} is all taken gave goes counted whole
