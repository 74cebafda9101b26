-- The law `updates` (src/laws.rt): a state that follows the container is the map, once it is brought up to date, and follows it still.
use Rattle.plain.proofs.States.Showing as laws
use Rattle.plain.proofs.laws.updates.Goals as goal

pub returns : goal.returns
returns g c s seen f = laws.updates s seen f
