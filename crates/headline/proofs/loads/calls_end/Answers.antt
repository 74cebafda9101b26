-- The law `calls_end` (src/loads.rt; clauses `in_rounds`, `in_rounds_by_default`, `in_rounds_container`, `in_rounds_channel`,
-- `by_turns`, `by_turns_channel` and `if_fair`): a call ends whose party goes on.
use Rattle.headline.proofs.Nexts as nexts
use Rattle.machine.proofs.Loads as laws
use Rattle.headline.proofs.loads.calls_end.Goals as goal

pub returns-clause-in_rounds : goal.returns-clause-in_rounds
returns-clause-in_rounds g c kind = laws.ends_in_rounds _ kind

pub returns-clause-in_rounds_by_default : goal.returns-clause-in_rounds_by_default
returns-clause-in_rounds_by_default g c = laws.robust_in_rounds _

pub returns-clause-in_rounds_container : goal.returns-clause-in_rounds_container
returns-clause-in_rounds_container g c = laws.container_in_rounds _

pub returns-clause-in_rounds_channel : goal.returns-clause-in_rounds_channel
returns-clause-in_rounds_channel g c = laws.channel_in_rounds _

pub returns-clause-by_turns : goal.returns-clause-by_turns
returns-clause-by_turns g c kind = nexts.ends_by_turns _ kind

pub returns-clause-by_turns_channel : goal.returns-clause-by_turns_channel
returns-clause-by_turns_channel g c = nexts.channel_by_turns _

pub returns-clause-if_fair : goal.returns-clause-if_fair
returns-clause-if_fair g c kind = laws.ends_if_fair _ kind
