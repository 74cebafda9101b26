-- The law `index_histories_are_sound` (src/indices.rt): no index is claimed that somebody holds, and none once the set is locked; its
-- holder alone frees it.
use Rattle.history_laws.proofs.IndicesLaws.{sound}
use Rattle.history_laws.proofs.indices.index_histories_are_sound.Goals as goal

pub returns : goal.returns
returns g c code capacity events h = sound code capacity events h
