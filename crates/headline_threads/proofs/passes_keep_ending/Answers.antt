-- The law `passes_keep_ending` (src/lib.rt; clauses `ends`, `keep` and `known`): of the kinds that have a bound in `lock_free_bound`,
-- by the parties that have acted.
use Rattle.headline_threads.specs.Ends.{PassesEnd, PassesKeepEnding, KnownKeepsEnding}
use Rattle.headline_threads.proofs.Ending.{part_ends}
use Rattle.headline_threads.proofs.passes_keep_ending.Goals as goal

pub returns-clause-ends : goal.returns-clause-ends
returns-clause-ends g c kind = part_ends _ kind (PassesEnd _ kind) (λ bound all. all.end)

pub returns-clause-keep : goal.returns-clause-keep
returns-clause-keep g c kind = part_ends _ kind (PassesKeepEnding _ kind) (λ bound all. all.keep)

pub returns-clause-known : goal.returns-clause-known
returns-clause-known g c kind = part_ends _ kind (KnownKeepsEnding _ kind) (λ bound all. all.known)
