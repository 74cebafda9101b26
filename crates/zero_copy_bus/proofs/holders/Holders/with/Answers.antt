-- `Holders::with` (src/holders.rt): its return meets the clauses `has`, `held` and `others`.
use Rattle.std.proofs.Common.{ℕ, zero, suc, ◌≡◌, ◌<◌, true, nat_lt, arith}
use Rattle.std.proofs.lemmas.Bool.Decides.{nat_tests}
use Rattle.std.proofs.lemmas.Nat.Bits.{bit_at-zero, bit_at_set_same, bit_at_set_other}
use Rattle.std.specs.Int.{bit_at, w64}
use Rattle.zero_copy_bus.proofs.holders.Holders.with.Goals as goal

-- a number with a bit is not 0
positive : (n k : ℕ) → bit_at n k ≡ 1 → 0 < n
positive zero k bit = let none = bit_at-zero k in absurd (omega arith)
positive (suc n) k bit = omega arith

tested : (n : ℕ) → 0 < n → nat_lt 0 n ≡ true
tested n some = grind (arith, nat_tests)

pub returns-clause-has : goal.returns-clause-has
returns-clause-has c = bit_at_set_same w64 c.args.self.bits c.args.holder.bit c.args.holder.within

pub returns-clause-held : goal.returns-clause-held
returns-clause-held c = tested _ (positive _ c.args.holder.bit (bit_at_set_same w64 c.args.self.bits c.args.holder.bit c.args.holder.within))

pub returns-clause-others : goal.returns-clause-others
returns-clause-others c i small other = bit_at_set_other w64 c.args.self.bits c.args.holder.bit c.args.holder.within i other
