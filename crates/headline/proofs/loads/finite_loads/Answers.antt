-- The law `finite_loads` (src/loads.rt; clauses `load_ends`, `load_ends_by_default`, `load_ends_container` and `load_ends_channel`): a
-- finite load ends.
use Rattle.machine.proofs.Loads as laws
use Rattle.headline.proofs.loads.finite_loads.Goals as goal

pub returns-clause-load_ends : goal.returns-clause-load_ends
returns-clause-load_ends g c kind = laws.load_ends _ kind

pub returns-clause-load_ends_by_default : goal.returns-clause-load_ends_by_default
returns-clause-load_ends_by_default g c = laws.robust_load_ends _

pub returns-clause-load_ends_container : goal.returns-clause-load_ends_container
returns-clause-load_ends_container g c = laws.container_load_ends _

pub returns-clause-load_ends_channel : goal.returns-clause-load_ends_channel
returns-clause-load_ends_channel g c = laws.channel_load_ends _
