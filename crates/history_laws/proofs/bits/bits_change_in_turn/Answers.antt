-- The law `bits_change_in_turn` (src/bits.rt): at each moment a bit is set only where it is clear, and cleared only where it stands.
use Rattle.history_laws.proofs.BitsSums.{changed}
use Rattle.history_laws.proofs.bits.bits_change_in_turn.Goals as goal

pub returns : goal.returns
returns g c code capacity events h = changed code capacity events h
