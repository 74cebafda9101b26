use Rattle.std.proofs.Common.{◌≡◌}
use Rattle.zero_copy_bus.specs.Books.{GainsNone, KeepsOthers}
use Rattle.zero_copy_bus.specs.Outlets.{holder_of, is_open, takes_view, SamePasses}
use Rattle.zero_copy_bus.specs.Pools.{table_of, IsSame}
use Rattle.zero_copy_bus.proofs.OutletLemmas.{TakenSo}
use Rattle.zero_copy_bus.proofs.outlet.Outlet.take_back.Given as given

-- the loop has popped `counter` slot numbers and put them back (`TakenSo`); nothing else has
-- changed in the table
abbrev pub invariant-loop : given.invariant-loop
invariant-loop l =
    record {
      holder : holder_of l.self ≡ holder_of l.fn.self;
      taking : is_open l.self ≡ is_open l.fn.self;
      so : TakenSo l.counter (holder_of l.fn.self) (table_of l.fn.pool) (table_of l.pool) (takes_view l.fn.self) (takes_view l.self);
      others : KeepsOthers (holder_of l.fn.self) (table_of l.fn.pool) (table_of l.pool);
      gains : GainsNone (table_of l.fn.pool) (table_of l.pool);
      same : IsSame l.fn.pool l.pool;
      passes : SamePasses l.fn.self l.self;
    }
