-- The law `equal_versions_tell` (src/laws.rt): where two calls of `version` answer the same, nothing
-- was stored between their ends.
use Rattle.lock_free_value.proofs.Versions.{equal_tell}
use Rattle.lock_free_value.proofs.laws.equal_versions_tell.Goals as goal

pub returns : goal.returns
returns g c v a b c1 d first later h = equal_tell v a b c1 d first later h
