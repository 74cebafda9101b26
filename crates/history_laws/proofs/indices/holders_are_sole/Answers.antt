-- The law `holders_are_sole` (src/indices.rt): a party that has claimed an index once more than it freed it
-- is its only holder.
use Rattle.history_laws.proofs.IndicesLaws.{sole}
use Rattle.history_laws.proofs.indices.holders_are_sole.Goals as goal

pub returns : goal.returns
returns g c code capacity events h p index once = sole code capacity events h p index once
