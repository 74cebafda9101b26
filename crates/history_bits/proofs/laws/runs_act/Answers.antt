-- The law `runs_act` (src/laws.rt): in every run of a machine of a bit set or a counting bit set the calls
-- act place by place.
use Rattle.history_bits.proofs.Acts.Laws as laws
use Rattle.history_bits.proofs.laws.runs_act.Goals as goal

pub returns : goal.returns
returns g c t r set = laws.runs_act t r set
