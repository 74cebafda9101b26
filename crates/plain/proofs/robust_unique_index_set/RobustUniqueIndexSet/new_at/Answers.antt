-- `RobustUniqueIndexSet::new_at` (src/robust_unique_index_set.rt): its return meets the clause `map`.
use Rattle.std.proofs.Common.{arith}
use Rattle.plain.proofs.Robust.Looks.{opens}
use Rattle.plain.proofs.robust_unique_index_set.RobustUniqueIndexSet.new_at.Goals as goal

pub returns-clause-map : goal.returns-clause-map
returns-clause-map = grind (arith, opens)
