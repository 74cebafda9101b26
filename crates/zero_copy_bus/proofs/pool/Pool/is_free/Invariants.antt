use Rattle.std.proofs.Common.{◌≡◌, ℕ, ◌<◌, false, length}
use Rattle.zero_copy_bus.specs.Books.{holders_at}
use Rattle.zero_copy_bus.specs.Holders.{is_held}
use Rattle.zero_copy_bus.proofs.pool.Pool.is_free.Given as given

-- nobody holds a slot below `slot`
abbrev pub invariant-loop-slot : given.invariant-loop-slot
invariant-loop-slot l =
    (l.slot-end ≡ length l.self.table.items)
    × ((slot : ℕ) → slot < l.slot → is_held (holders_at l.self.table.items slot) ≡ false)
