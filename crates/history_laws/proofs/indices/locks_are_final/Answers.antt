-- The law `locks_are_final` (src/indices.rt; clauses `held` and `claimed`): once the set is locked, nobody holds an index, and none is
-- claimed.
use Rattle.history_laws.proofs.IndicesLaws.{held_none, claimed_none}
use Rattle.history_laws.proofs.indices.locks_are_final.Goals as goal

pub returns-clause-held : goal.returns-clause-held
returns-clause-held g c code capacity events before after h is shut index = held_none code capacity events h before after is shut index

pub returns-clause-claimed : goal.returns-clause-claimed
returns-clause-claimed g c code capacity events before after h is shut index = claimed_none code capacity events h before after is shut index
