-- The invariant of the loop of `Owners::recover` (src/hand/robust.rt).
use Rattle.std.proofs.Common.{◌≡◌}
use Rattle.tool_bench.proofs.hand.robust.Owners.recover.Given as given

-- The loop keeps the capacity, below which each index of its range is.
abbrev pub invariant-loop-index : given.invariant-loop-index
invariant-loop-index g l = l.self.capacity ≡ l.fn.self.capacity
