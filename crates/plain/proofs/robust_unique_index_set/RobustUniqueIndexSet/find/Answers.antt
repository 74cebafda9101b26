-- `RobustUniqueIndexSet::find` (src/robust_unique_index_set.rt): its call of `find` meets the requirement `indices`, and its return
-- meets the clause `found`.
use Rattle.std.proofs.Common.{sym, ap}
use Rattle.steps.specs.Objects.Owners.{indices_of}
use Rattle.plain.proofs.Robust.Finding.{takes_at, found_at}
use Rattle.plain.proofs.robust_unique_index_set.RobustUniqueIndexSet.find.Goals as goal

pub find-requires-clause-indices : goal.find-requires-clause-indices
find-requires-clause-indices g c = takes_at (ap (λ s. indices_of s c.args.owner) (sym c.self.view_is)) c.requires

pub returns-clause-found : goal.returns-clause-found
returns-clause-found g c = found_at (ap (λ s. indices_of s c.args.owner) c.self.view_is) c.find.ensures.found
