-- The law `any_order` (src/laws.rt): of any number of passes, in any order: shares that have all parts of one whole are all of it,
-- joined one after the other.
use Rattle.threaded.proofs.Fractions as fractions
use Rattle.threaded.proofs.laws.any_order.Goals as goal

pub returns : goal.returns
returns c whole ks s ts any parts all = fractions.any_order whole ks s ts any parts all
