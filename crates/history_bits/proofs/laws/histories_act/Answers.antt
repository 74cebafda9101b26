-- The law `histories_act` (src/laws.rt): in a history of a bit set or of a counting bit set the calls act place by place: a set, and a
-- reset of the next place that answers one, at one moment; a reset of all, and one that answers none, once at each place (but for a
-- count that was raised 2^64 times in all).
use Rattle.history_bits.proofs.Acts.Laws as laws
use Rattle.history_bits.proofs.laws.histories_act.Goals as goal

pub returns : goal.returns
returns g c code kind capacity events set h = laws.histories_act code kind capacity events set h
