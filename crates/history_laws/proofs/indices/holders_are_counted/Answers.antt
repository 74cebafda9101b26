-- The law `holders_are_counted` (src/indices.rt): of the indices that count as in use, those that count as held are those that somebody
-- holds.
use Rattle.history_laws.proofs.IndicesLaws.{counted}
use Rattle.history_laws.proofs.indices.holders_are_counted.Goals as goal

pub returns : goal.returns
returns g c code capacity events before after h is = counted code capacity events h before after is
