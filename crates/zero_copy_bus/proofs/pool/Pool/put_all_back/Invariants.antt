use Rattle.std.proofs.Common.{◌≡◌, ℕ, ◌<◌}
use Rattle.zero_copy_bus.specs.Books.{HasSlot, KeepsOthers}
use Rattle.zero_copy_bus.specs.Pools.{slots_of, table_of, IsSame}
use Rattle.zero_copy_bus.proofs.pool.Pool.put_all_back.Given as given

-- In this order: the loop ends at the number of slots; the holder holds no slot below `slot`; all other
-- holders keep their slots; the pool is the same.
abbrev pub invariant-loop-slot : given.invariant-loop-slot
invariant-loop-slot l =
    (l.slot-end ≡ slots_of l.fn.self)
    × ((slot : ℕ) → slot < l.slot → ¬ HasSlot (table_of l.self) slot l.holder)
    × KeepsOthers l.holder (table_of l.fn.self) (table_of l.self)
    × IsSame l.fn.self l.self
