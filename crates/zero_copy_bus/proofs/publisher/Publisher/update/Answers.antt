-- `Publisher::update` (src/publisher.rt): `self` meets the invariant of its type.
use Rattle.std.proofs.Common.{sym, subst, ◌∙◌}
use Rattle.zero_copy_bus.specs.Outlets.{HaveTheirPlaces}
use Rattle.zero_copy_bus.specs.Pools.{table_of}
use Rattle.zero_copy_bus.proofs.OutletLemmas.{shown_after}
use Rattle.zero_copy_bus.proofs.publisher.Publisher.update.Goals as goal

-- after the settling each lane that takes part is one that the roll shows
pub invariant_of-self : goal.invariant_of-self
invariant_of-self g c =
    let mine = c.args.self.now in
    let all = c.settle_all.ensures in
    record {
      sized = mine.sized ∙ sym all.pool.slots;
      fits = mine.fits;
      placed = subst HaveTheirPlaces (sym all.holders) mine.placed;
      shown =
          shown_after c.update-has_changed.new.self (table_of mine.pool) (table_of c.settle_all.new.pool)
          mine.outlets.items c.settle_all.new.outlets.items mine.placed all.holders all.settled;
    }
