-- The law `gets` (src/laws.rt): what `get_state` gives follows the container, and shows the map.
use Rattle.plain.proofs.States.Showing as laws
use Rattle.plain.proofs.laws.gets.Goals as goal

pub returns : goal.returns
returns g c s counted = laws.gets s counted
