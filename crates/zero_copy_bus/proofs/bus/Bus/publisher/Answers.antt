-- `Bus::publisher` (src/bus.rt): its return meets the clause `fresh`.
use Rattle.std.proofs.Common.{sym, subst}
use Rattle.zero_copy_bus.specs.Outlets.{AllNew}
use Rattle.zero_copy_bus.proofs.bus.Bus.publisher.Goals as goal

pub returns-clause-fresh : goal.returns-clause-fresh
returns-clause-fresh g c = subst AllNew (sym c.of.ensures.lanes) c.in_ok-outlets.ensures.fresh
