-- `Publisher::seat` (src/publisher.rt): its return meets the clauses `none`, `leased` and `others`.
use Rattle.std.proofs.Common.{sym, subst}
use Rattle.zero_copy_bus.specs.Ends.{lanes_of}
use Rattle.zero_copy_bus.specs.Outlets.{EachOther, StaysOrLost}
use Rattle.zero_copy_bus.proofs.LanesStay.{all_stay}
use Rattle.zero_copy_bus.proofs.Leases.{moved}
use Rattle.zero_copy_bus.proofs.publisher.Publisher.seat.Goals as goal

pub returns-in_default-clause-none : goal.returns-in_default-clause-none
returns-in_default-clause-none g c = all_stay (lanes_of c.args.self.now)

pub returns-clause-leased : goal.returns-clause-leased
returns-clause-leased g c =
    moved _ _ c.of.ensures.place c.of.ensures.receives.0 c.of.ensures.receives.1 c.in_ok-inlet.ensures.leased

pub returns-clause-others : goal.returns-clause-others
returns-clause-others g c =
    subst (λ k. EachOther k StaysOrLost c.args.self.now.outlets.items c.free_inlet.new.outlets.items) (sym c.of.ensures.place)
    c.in_ok-inlet.ensures.others
