-- The law `asks_at_once` (src/lib.rt): what a recovery of the robust set writes that it asks, it asks.
use Rattle.laws_machine.proofs.Asking as laws
use Rattle.laws_machine.proofs.asks_at_once.Goals as goal

pub returns : goal.returns
returns g c t turn is r = laws.asks_at_once t turn is r
