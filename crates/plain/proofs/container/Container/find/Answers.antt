-- `Container::find` (src/container/visits.rt): its call of `find` meets the requirement `visits`, and its return meets the clause
-- `found`.
use Rattle.std.proofs.Common.{arith}
use Rattle.plain.proofs.Elements.Finding.{takes_at, found_at}
use Rattle.plain.proofs.container.Container.find.Goals as goal
use Rattle.plain.proofs.container.Container.find.Given as given

pub find-requires-clause-visits : goal.find-requires-clause-visits
find-requires-clause-visits = grind (arith, takes_at)

pub returns-clause-found : goal.returns-clause-found
returns-clause-found g c = found_at (λ p x h a q. given.F-step g p x h a q) c.self.view_is c.find.ensures.found
