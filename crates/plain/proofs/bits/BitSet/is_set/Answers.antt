-- `BitSet::is_set` (src/bits.rt): its call of `is_set` meets the requirement `below`.
use Rattle.std.proofs.Common.{length, arith}
use Rattle.plain.proofs.Places.Flags.{flags_length}
use Rattle.plain.proofs.bits.BitSet.is_set.Goals as goal

pub is_set-requires-clause-below : goal.is_set-requires-clause-below
is_set-requires-clause-below = grind (arith, flags_length, length)
