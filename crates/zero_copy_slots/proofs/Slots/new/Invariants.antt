use Rattle.std.proofs.Common.{◌≡◌}
use Rattle.std.specs.List.{range_with_len}
use Rattle.zero_copy_slots.proofs.Slots.new.Given as given

-- the loop has made the cells of the slots below `slot`, each with its number as its tag
abbrev pub invariant-loop-slot : given.invariant-loop-slot
invariant-loop-slot g l = l.cells.items ≡ range_with_len 0 l.slot-counter
