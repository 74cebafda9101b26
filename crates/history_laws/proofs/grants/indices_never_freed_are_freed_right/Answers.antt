-- The law `indices_never_freed_are_freed_right` (src/grants.rt): in a history in which nobody freed the
-- index, the condition on those who free it holds.
use Rattle.history_laws.proofs.GrantsLaws.{never_freed}
use Rattle.history_laws.proofs.grants.indices_never_freed_are_freed_right.Goals as goal

pub returns : goal.returns
returns g c index events none = never_freed index events none
