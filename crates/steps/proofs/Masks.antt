-- For a power of two c, the mask c - 1 leaves the remainder by c: so a ring of that capacity
-- finds a cell by a mask.
use Rattle.std.proofs.Common.{◌≡◌, ℕ, zero, suc, ◌+◌, ◌-◌, ◌*◌, ◌/◌, ◌%◌, ◌<◌, ◌≤◌, min}
use Rattle.std.proofs.Common.{sym, ap, ap₂, ◌∙◌, arith, mod-lt, div-add-mod', mod-eq_of_lt, mul_assoc}
use native.Mathlib.Nat.{add-mul-mod_self_right}
use native.Mathlib.Decide.{ℕ_discrete}
use mathlib.Core.Logic.{dite}
use lib.Bits.{bit_and, and_step, and_self, and_zero_r}

-- the remainder of p by twice a number is twice the remainder of half of p by that number, and the last bit
-- of p more
twice_mod : (p h : ℕ) → 0 < h → p % (h * 2) ≡ p / 2 % h * 2 + p % 2
twice_mod p h some =
    let q = p / 2 / h in
    let r = p / 2 % h in
    let halves : q * h + r ≡ p / 2 = div-add-mod' (p / 2) h in
    let below : r < h = mod-lt (p / 2) some in
    let twice : q * h * 2 ≡ q * (h * 2) = mul_assoc q h 2 in
    let is : r * 2 + p % 2 + q * (h * 2) ≡ p = omega arith in
    let small : r * 2 + p % 2 < h * 2 = omega arith in
    ap (λ n. n % (h * 2)) (sym is) ∙ add-mul-mod_self_right (r * 2 + p % 2) q (h * 2) ∙ mod-eq_of_lt small

module _ (p c : ℕ) where
  -- to mask p with the number before c gives the remainder of p by c
  abbrev Masks : Type 0
  Masks = bit_and p (c - 1) ≡ p % c

-- to mask with the number before c gives the remainder by c, where these two have no bit in common
pub masked : (most p c : ℕ) → c ≤ most → 0 < c → bit_and c (c - 1) ≡ 0 → Masks p c
masked zero p c low some alone = let no : ⊥ = omega arith in absurd no
masked (suc most) p c low some alone = dite (ℕ_discrete c 1) one (more (masked most (p / 2) (c / 2)))
  where
    h : ℕ
    h = c / 2

    -- the number 1: the mask is 0, and so is the remainder
    one : c ≡ 1 → Masks p c
    one e = let none : c - 1 ≡ 0 = omega arith in ap (bit_and p) none ∙ and_zero_r p ∙ sym (ap (λ n. p % n) e ∙ omega arith)

    -- an odd number other than 1 has its lowest bit in common with the one before it
    odd : (c ≡ 1 → ⊥) → c % 2 ≡ 1 → Masks p c
    odd ne e =
        let half : (c - 1) / 2 ≡ h = omega arith in
        let least : min (c % 2) ((c - 1) % 2) ≡ 0 = omega arith in
        let is : bit_and c (c - 1) ≡ h * 2 + 0 = and_step c (c - 1) ∙ ap₂ (λ u v. u * 2 + v) (ap (bit_and h) half ∙ and_self h) least in
        let no : ⊥ = ne (omega arith) in
        absurd no

    -- an even number masks as its half does
    even : (h ≤ most → 0 < h → bit_and h (h - 1) ≡ 0 → Masks (p / 2) h) → (c ≡ 1 → ⊥) → c % 2 ≡ 0 → Masks p c
    even halved ne e =
        let half : (c - 1) / 2 ≡ h - 1 = omega arith in
        let last : (c - 1) % 2 ≡ 1 = omega arith in
        let least : min (c % 2) ((c - 1) % 2) ≡ 0 = omega arith in
        let whole : h * 2 ≡ c = omega arith in
        let is : bit_and c (c - 1) ≡ bit_and h (h - 1) * 2 + 0 = and_step c (c - 1) ∙ ap₂ (λ u v. u * 2 + v) (ap (bit_and h) half) least in
        let clear : bit_and h (h - 1) ≡ 0 = omega arith in
        let below : Masks (p / 2) h = halved (omega arith) (omega arith) clear in
        let last_bit : min (p % 2) ((c - 1) % 2) ≡ p % 2 = omega arith in
        and_step p (c - 1) ∙ ap₂ (λ u v. u * 2 + v) (ap (bit_and (p / 2)) half ∙ below) last_bit
        ∙ sym (ap (λ n. p % n) (sym whole) ∙ twice_mod p h (omega arith))

    -- another number: it is odd or even
    more : (h ≤ most → 0 < h → bit_and h (h - 1) ≡ 0 → Masks (p / 2) h) → (c ≡ 1 → ⊥) → Masks p c
    more halved ne = dite (ℕ_discrete (c % 2) 0) (even halved ne) (λ some. odd ne (omega (arith, some)))
