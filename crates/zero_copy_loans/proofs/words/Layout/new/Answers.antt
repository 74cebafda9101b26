-- `Layout::new` (src/words.rt): each iteration keeps the invariant of its loop, and its result meets the invariant of its type.
use Rattle.std.proofs.Common.{◌≡◌, ◌<◌, ◌≤◌, ◌*◌, ◌^◌, ap, sym, ◌∙◌, arith}
use Rattle.std.proofs.lemmas.Nat.{pow-add}
use Rattle.std.proofs.Math.Nat.{pow-le-pow_right}
use Rattle.zero_copy_loans.proofs.words.Layout.new.Goals as goal

-- each iteration keeps the invariant of the loop
pub loop-bits-preserved : goal.loop-bits-preserved
loop-bits-preserved c =
    let inv = c.loop-bits.invariant in
    let low : c.loop-bits.bits ≤ 31 = omega arith in
    let some : 0 < 2 = omega arith in
    let most : 2 ^ c.loop-bits.bits ≤ 2 ^ 31 = pow-le-pow_right some low in
    (ap (λ n. n * 2) inv.0 ∙ sym (pow-add 2 c.loop-bits.bits 1), omega arith, omega arith, λ more. omega arith)

-- the loop ended with all 32 bits given to the number of a place, which is the layout's greatest room
pub invariant_of-result-2 : goal.invariant_of-result-2
invariant_of-result-2 c =
    let last : c.loop-bits.bits ≡ 32 = omega arith in
    let power : c.loop-bits.room ≡ 2 ^ 32 = c.loop-bits.invariant.0 ∙ ap (λ n. 2 ^ n) last in
    let least = c.loop-bits.invariant.3 in
    record { power = power; few = omega arith; small = omega arith; fits = omega arith; least = least; some = omega arith }
