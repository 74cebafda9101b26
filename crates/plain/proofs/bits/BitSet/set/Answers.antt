-- `BitSet::set` (src/bits.rt): its call of `set` meets the requirement `below`.
use Rattle.std.proofs.Common.{length, arith}
use Rattle.plain.proofs.Places.Flags.{flags_length}
use Rattle.plain.proofs.bits.BitSet.set.Goals as goal

pub set-requires-clause-below : goal.set-requires-clause-below
set-requires-clause-below = grind (arith, flags_length, length)
