-- `owners_end_by_turns` (src/going.rt): its return meets the clauses `robust` and `container`.
use Rattle.headline.proofs.Defaults as laws
use Rattle.headline.proofs.going.owners_end_by_turns.Goals as goal

pub returns-clause-robust : goal.returns-clause-robust
returns-clause-robust g c = laws.robust_by_turns _

pub returns-clause-container : goal.returns-clause-container
returns-clause-container g c = laws.container_by_turns _
