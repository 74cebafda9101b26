-- `calls_end_if_fair` (src/going.rt): its return meets what it ensures (`EndsIfFairOn`).
use Rattle.headline.proofs.Idle as laws
use Rattle.headline.proofs.going.calls_end_if_fair.Goals as goal

pub returns : goal.returns
returns g c kind = laws.ends_if_fair _ kind
