-- The law `finds_asking` (src/lib.rt): a find of the robust set that loads a cell asks about its index just where that is filled with
-- the find's owner.
use Rattle.laws_machine.proofs.Finding as laws
use Rattle.laws_machine.proofs.finds_asking.Goals as goal

pub returns : goal.returns
returns g c t turn is r free = laws.finds_asking t is r turn free
