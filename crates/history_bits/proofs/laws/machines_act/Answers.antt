-- The law `machines_act` (src/laws.rt): on every machine of a bit set or a counting bit set, whatever turns
-- it was given, the calls act place by place.
use Rattle.history_bits.proofs.Acts.Machines as machines
use Rattle.history_bits.proofs.laws.machines_act.Goals as goal

pub returns : goal.returns
returns g c t r set = machines.machines_act r set
