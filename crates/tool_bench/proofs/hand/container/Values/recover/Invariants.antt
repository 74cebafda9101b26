-- The invariant of the loop of `Values::recover` (src/hand/container.rt).
use Rattle.std.proofs.Common.{◌≡◌}
use Rattle.tool_bench.proofs.hand.container.Values.recover.Given as given

-- The loop keeps the capacity, below which each index of its range is.
abbrev pub invariant-loop-index : given.invariant-loop-index
invariant-loop-index g l = l.self.owners.capacity ≡ l.fn.self.owners.capacity
