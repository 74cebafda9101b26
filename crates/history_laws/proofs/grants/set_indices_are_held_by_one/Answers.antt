-- The law `set_indices_are_held_by_one` (src/grants.rt): an index of a robust unique index set is granted only where nobody holds it:
-- where each release that freed it was begun by one who might, and each recovery freed it where no call was at it.
use Rattle.history_laws.proofs.GrantsLaws.{set_grants}
use Rattle.history_laws.proofs.grants.set_indices_are_held_by_one.Goals as goal

pub returns : goal.returns
returns c index capacity events h freed = set_grants index capacity events h freed
