-- `Outlet::empty_returned` (src/outlet.rt): its return meets the clause `empty`.
use Rattle.zero_copy_bus.proofs.ViewLemmas.{empty_found, found_since}
use Rattle.zero_copy_bus.proofs.outlet.Outlet.empty_returned.Goals as goal

pub returns-in-None-clause-empty : goal.returns-in-None-clause-empty
returns-in-None-clause-empty c is = found_since _ _ _ c.loop.invariant.since (empty_found _ _ c.in-None.ensures.empty)
