-- `BitSet::capacity` (src/bits.rt): its return is how many places there are.
use Rattle.std.proofs.Common.{arith}
use Rattle.std.proofs.Common.{length}
use Rattle.plain.proofs.Places.Flags.{flags_length}
use Rattle.plain.proofs.bits.BitSet.capacity.Goals as goal

pub returns : goal.returns
returns = grind (arith, flags_length, length)
