-- The law `wholes_stay` (src/laws/wholes.rt; clauses `first`, `call` and `joined`): who has the whole keeps it over calls; a first pass
-- has it, and so has a join that leaves no share out.
use Rattle.lock_free_sets.proofs.Whole.Alone.{first_whole, still_whole, joined_whole}
use Rattle.lock_free_sets.proofs.laws.wholes.wholes_stay.Goals as goal

-- A first pass has the whole.
pub returns-clause-first : goal.returns-clause-first
returns-clause-first g c v share seen made = first_whole v share seen made

-- A call keeps the whole.
pub returns-clause-call : goal.returns-clause-call
returns-clause-call g c p start answer wrote old new called was inside share all = still_whole called was inside share all

-- A join that leaves no share out has the whole.
pub returns-clause-joined : goal.returns-clause-joined
returns-clause-joined g c mine theirs new joined one two share all = joined_whole mine theirs new joined one two share all
