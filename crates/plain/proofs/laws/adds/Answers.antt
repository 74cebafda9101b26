-- The law `adds` (src/laws.rt): an add keeps that.
use Rattle.plain.proofs.States.Changing as laws
use Rattle.plain.proofs.laws.adds.Goals as goal

pub returns : goal.returns
returns g c s owner value may = laws.adds s owner value may
