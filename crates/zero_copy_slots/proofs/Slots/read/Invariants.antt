use Rattle.std.proofs.Common.{◌≡◌, ◌<◌}
use Rattle.zero_copy_slots.proofs.Slots.read.Given as given

-- the cell is that of the slot, which there is
abbrev pub invariant-loop-tries : given.invariant-loop-tries
invariant-loop-tries g l = (l.cell ≡ l.slot) × (l.slot < l.self.number) × (l.tries < 18446744073709551615)
