-- `Holders::without` (src/holders.rt): its return meets the clauses `lacks` and `others`.
use Rattle.std.proofs.Common.{arith}
use Rattle.std.proofs.lemmas.Nat.Bits.{bit_at_clear_same, bit_at_clear_other}
use Rattle.std.specs.Int.{w64}
use Rattle.zero_copy_bus.proofs.holders.Holders.without.Goals as goal

pub returns-clause-lacks : goal.returns-clause-lacks
returns-clause-lacks c has = let none = bit_at_clear_same w64 c.args.self.bits c.args.holder.bit c.args.holder.within in absurd (omega arith)

pub returns-clause-others : goal.returns-clause-others
returns-clause-others c i small other = bit_at_clear_other w64 c.args.self.bits c.args.holder.bit c.args.holder.within i small other
