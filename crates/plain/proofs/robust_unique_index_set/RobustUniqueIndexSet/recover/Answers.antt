-- `RobustUniqueIndexSet::recover` (src/robust_unique_index_set.rt): its call of `recover` meets the requirements `questions` and
-- `freed`, and its return meets the clause `calls`.
use Rattle.std.proofs.Common.{sym, ap}
use Rattle.steps.specs.Objects.Owners.{to_recover}
use Rattle.plain.proofs.Robust.Recovering.{questions_at, freed_at, recovered_at}
use Rattle.plain.proofs.robust_unique_index_set.RobustUniqueIndexSet.recover.Goals as goal

pub recover-requires-clause-questions : goal.recover-requires-clause-questions
recover-requires-clause-questions g c = questions_at (ap to_recover (sym c.self.view_is)) c.requires.questions

pub recover-requires-clause-freed : goal.recover-requires-clause-freed
recover-requires-clause-freed g c = freed_at (ap to_recover (sym c.self.view_is)) c.requires.freed

pub returns-clause-calls : goal.returns-clause-calls
returns-clause-calls g c = recovered_at c.self.view_is c.recover.ensures.calls
