-- The invariant of the loop of `Values::find` (src/hand/container.rt).
use Rattle.std.proofs.Common.{◌≡◌}
use Rattle.tool_bench.proofs.hand.container.Values.find.Given as given

-- The loop keeps the capacity, below which each index of its range is.
abbrev pub invariant-loop-index : given.invariant-loop-index
invariant-loop-index l = l.self.owners.capacity ≡ l.fn.self.owners.capacity
