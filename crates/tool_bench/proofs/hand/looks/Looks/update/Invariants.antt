-- The invariant of the loop of `Looks::update` (src/hand/looks.rt).
use Rattle.std.proofs.Common.{◌≡◌}
use Rattle.tool_bench.proofs.hand.looks.Looks.update.Given as given

-- The loop keeps the capacity, below which each index of its range is.
abbrev pub invariant-loop-index : given.invariant-loop-index
invariant-loop-index l = l.self.capacity ≡ l.fn.self.capacity
