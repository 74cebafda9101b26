-- The invariant of the loop of `Bits::reset` (src/hand/bits.rt).
use Rattle.std.proofs.Common.{◌≡◌}
use Rattle.tool_bench.proofs.hand.bits.Bits.reset.Given as given

-- The loop keeps the number of elements, so the word of the place is one of the words.
abbrev pub invariant-loop : given.invariant-loop
invariant-loop g l = l.self.elements ≡ l.fn.self.elements
