-- The invariants of both loops of `Owners::acquire` (src/hand/robust.rt).
use Rattle.std.proofs.Common.{◌≡◌}
use Rattle.tool_bench.proofs.hand.robust.Owners.acquire.Given as given

-- The loop that begins again keeps the capacity and the number of words.
abbrev pub invariant-loop : given.invariant-loop
invariant-loop g l = (l.self.capacity ≡ l.fn.self.capacity) × (l.self.words.size ≡ l.fn.self.words.size)

-- The loop over the indices keeps the capacity and the number of words.
abbrev pub invariant-loop-index : given.invariant-loop-index
invariant-loop-index g l = (l.self.capacity ≡ l.fn.self.capacity) × (l.self.words.size ≡ l.fn.self.words.size)
