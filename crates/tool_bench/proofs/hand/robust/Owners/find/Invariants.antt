-- The invariant of the loop of `Owners::find` (src/hand/robust.rt).
use Rattle.std.proofs.Common.{◌≡◌}
use Rattle.tool_bench.proofs.hand.robust.Owners.find.Given as given

-- The loop keeps the capacity, below which each index of its range is.
abbrev pub invariant-loop-index : given.invariant-loop-index
invariant-loop-index l = l.self.capacity ≡ l.fn.self.capacity
