-- The invariant of the loop of `Owners::raise` (src/hand/robust.rt).
use Rattle.std.proofs.Common.{◌≡◌}
use Rattle.tool_bench.proofs.hand.robust.Owners.raise.Given as given

-- The loop keeps the capacity and the number of words.
abbrev pub invariant-loop : given.invariant-loop
invariant-loop g l = (l.self.capacity ≡ l.fn.self.capacity) × (l.self.words.size ≡ l.fn.self.words.size)
