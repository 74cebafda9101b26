-- `Container::recover` (src/container/recovery.rt): its call of `recover` meets the requirement `questions`, and its return meets the
-- clause `calls`.
use Rattle.std.proofs.Common.{arith}
use Rattle.plain.proofs.Elements.Recovering.{questions_at, recovered_at}
use Rattle.plain.proofs.container.Container.recover.Goals as goal
use Rattle.plain.proofs.container.Container.recover.Given as given

pub recover-requires-clause-questions : goal.recover-requires-clause-questions
recover-requires-clause-questions = grind (arith, questions_at)

pub returns-clause-calls : goal.returns-clause-calls
returns-clause-calls g c = recovered_at (λ p x b q. given.F-step g p x b q) c.self.view_is c.recover.ensures.calls
