-- What each operation on a word of a bit set leaves of its flags: with a flag, without
-- one, and swapped with 0.
use Rattle.std.proofs.Common.{◌≡◌, ◌≢◌, ℕ, ◌-◌, ◌^◌, ◌<◌, ◌==◌, true, false, ◌⊎◌, inl, inr, ⊎_elim, List, length}
use Rattle.std.proofs.Common.{get_or, set, eqb, eq-eqb, ne_eqb, sym, refl, ap, ◌∙◌, arith, true≢false, get_or-set_same}
use Rattle.std.proofs.Common.{get_or-set_other}
use Rattle.std.specs.Prelude.{not, bit_and}
use Rattle.std.proofs.lemmas.Bool.Decides.{eqb_tells}
use Rattle.std.proofs.lemmas.Nat.{and_or_self, and_or_apart, and_le_l, or_lt, pow_apart, pow_below, pow_pos}
use Rattle.std.proofs.lemmas.Grind.{and-not_self, and_not_bit}
use Rattle.steps.specs.Bits.Words.{bit_stands, bit_of, element_of, with_flag, without_flag, has_flag, stands}

-- ---- one word

-- the bit of a place is one of 64
bit_near : (p : ℕ) → bit_of p < 64
bit_near = omega arith

-- the flag of a place fits into a word
flag_fits : (p : ℕ) → 2 ^ bit_of p < 2 ^ 64
flag_fits p = pow_below (bit_of p) 64 (bit_near p)

-- the flags of two places with different bits have no bit in common
apart : (p q : ℕ) → bit_of p ≢ bit_of q → bit_and (2 ^ bit_of p) (2 ^ bit_of q) ≡ 0
apart p q ne = pow_apart (bit_of p) (bit_of q) ne

-- a bit that a word has in common with its mask stands
stands_by : (word i : ℕ) → bit_and word (2 ^ i) ≢ 0 → bit_stands word i ≡ true
stands_by word i ne = ap not (ne_eqb (bit_and word (2 ^ i)) 0 ne)

-- a bit that a word does not have in common with its mask is clear
clear_by : (word i : ℕ) → bit_and word (2 ^ i) ≡ 0 → bit_stands word i ≡ false
clear_by word i e = ap not (eq-eqb (bit_and word (2 ^ i)) 0 e)

-- the word 0 has no flag
pub none_stands : (p : ℕ) → has_flag 0 p ≡ false
none_stands p = clear_by 0 (bit_of p) (let h = and_le_l 0 (2 ^ bit_of p) in omega arith)

-- in a word with the flag of p, the flag of p stands
pub with_stands : (word p : ℕ) → has_flag (with_flag word p) p ≡ true
with_stands word p =
    let e = and_or_self (2 ^ bit_of p) word in
    let pos = pow_pos (bit_of p) in
    stands_by (with_flag word p) (bit_of p) (λ z. absurd (omega arith))

-- in a word with the flag of p, each other bit is as it was
pub with_leaves : (word p q : ℕ) → bit_of p ≢ bit_of q → has_flag (with_flag word p) q ≡ has_flag word q
with_leaves word p q ne = ap (λ n. not (n == 0)) (and_or_apart (2 ^ bit_of q) word (2 ^ bit_of p) (apart p q ne))

-- a word with the flag of p is still a word
pub with_fits : (word p : ℕ) → word < 2 ^ 64 → with_flag word p < 2 ^ 64
with_fits word p small = or_lt 64 word (2 ^ bit_of p) small (flag_fits p)

-- in a word without the flag of p, the flag of p is clear
pub without_clear : (word p : ℕ) → has_flag (without_flag word p) p ≡ false
without_clear word p =
    let small = flag_fits p in
    clear_by (without_flag word p) (bit_of p) (and-not_self word 18446744073709551615 (2 ^ bit_of p) (2 ^ bit_of p) refl (omega arith) refl)

-- in a word without the flag of p, each other bit is as it was
pub without_leaves : (word p q : ℕ) → bit_of p ≢ bit_of q → has_flag (without_flag word p) q ≡ has_flag word q
without_leaves word p q ne =
    let small = flag_fits p in
    ap (λ n. not (n == 0)) (and_not_bit word 18446744073709551615 (2 ^ bit_of p) (bit_of q) refl (omega arith) (bit_near q) (apart p q ne))

-- a word without the flag of p is still a word
pub without_fits : (word p : ℕ) → word < 2 ^ 64 → without_flag word p < 2 ^ 64
without_fits word p small = let h = and_le_l word (2 ^ 64 - 1 - 2 ^ bit_of p) in omega arith

-- a word that gets a flag that was clear changes
pub with_changes : (word p : ℕ) → has_flag word p ≡ false → with_flag word p ≢ word
with_changes word p clear same = true≢false (sym (with_stands word p) ∙ (ap (λ w. has_flag w p) same ∙ clear))

-- a word that loses a flag that stood changes
pub without_changes : (word p : ℕ) → has_flag word p ≡ true → without_flag word p ≢ word
without_changes word p stood same = true≢false (sym stood ∙ (ap (λ w. has_flag w p) (sym same) ∙ without_clear word p))

-- ---- the words of a bit set

-- two different places differ in their element or in their bit
pub places_apart : (p q : ℕ) → p ≢ q → (element_of p ≢ element_of q) ⊎ (bit_of p ≢ bit_of q)
places_apart p q ne =
    ⊎_elim
    (λ t. inr (λ same. ne (omega arith)))
    (λ t. inl t.1)
    (eqb_tells (element_of p) (element_of q))

-- the element of a place is never word 0, in which the reset position stands
pub elements_after : (p : ℕ) → element_of p ≢ 0
elements_after p e = absurd (omega arith)

module _ (words : List ℕ) where
  -- a change of another word leaves the flag of p as it was
  pub stands_elsewhere : (w x p : ℕ) → w ≢ element_of p → stands (set words w x) p ≡ stands words p
  stands_elsewhere w x p ne = ap (λ z. has_flag z p) (get_or-set_other words w (element_of p) x 0 (λ e. ne (sym e)))

  -- where the word of p's element becomes x, the flag of p is the one in x
  pub stands_in : (x p : ℕ) → element_of p < length words → stands (set words (element_of p) x) p ≡ has_flag x p
  stands_in x p near = ap (λ z. has_flag z p) (get_or-set_same words (element_of p) x 0 near)

  -- where the word of p's element gets the flag of p, p stands
  pub set_stands : (p : ℕ) → element_of p < length words → stands (set words (element_of p) (with_flag (get_or words (element_of p) 0) p)) p ≡ true
  set_stands p near = stands_in (with_flag (get_or words (element_of p) 0) p) p near ∙ with_stands (get_or words (element_of p) 0) p

  -- where the word of p's element gets the flag of p, the flags of all other places are as before
  pub set_leaves : (p q : ℕ) → element_of p < length words → p ≢ q
      → stands (set words (element_of p) (with_flag (get_or words (element_of p) 0) p)) q ≡ stands words q
  set_leaves p q near ne =
      let x : ℕ = with_flag (get_or words (element_of p) 0) p in
      ⊎_elim
      (λ (t : (eqb (element_of p) (element_of q) ≡ true) × (element_of p ≡ element_of q)).
      let bits : bit_of p ≢ bit_of q = λ same. ne (let e = t.1 in omega arith) in
      ap (λ w. has_flag (get_or (set words w x) (element_of q) 0) q) t.1
      ∙ (ap (λ z. has_flag z q) (get_or-set_same words (element_of q) x 0 (let e = t.1 in omega arith))
      ∙ (with_leaves (get_or words (element_of p) 0) p q bits ∙ ap (λ w. has_flag (get_or words w 0) q) t.1)))
      (λ t. stands_elsewhere (element_of p) x q t.1)
      (eqb_tells (element_of p) (element_of q))

  -- where the word of p's element loses the flag of p, p is clear
  pub cleared_clear : (p : ℕ) → element_of p < length words → stands (set words (element_of p) (without_flag (get_or words (element_of p) 0) p)) p ≡ false
  cleared_clear p near = stands_in (without_flag (get_or words (element_of p) 0) p) p near ∙ without_clear (get_or words (element_of p) 0) p

  -- where the word of p's element loses the flag of p, the flags of all other places are as before
  pub cleared_leaves : (p q : ℕ) → element_of p < length words → p ≢ q
      → stands (set words (element_of p) (without_flag (get_or words (element_of p) 0) p)) q ≡ stands words q
  cleared_leaves p q near ne =
      let x : ℕ = without_flag (get_or words (element_of p) 0) p in
      ⊎_elim
      (λ (t : (eqb (element_of p) (element_of q) ≡ true) × (element_of p ≡ element_of q)).
      let bits : bit_of p ≢ bit_of q = λ same. ne (let e = t.1 in omega arith) in
      ap (λ w. has_flag (get_or (set words w x) (element_of q) 0) q) t.1
      ∙ (ap (λ z. has_flag z q) (get_or-set_same words (element_of q) x 0 (let e = t.1 in omega arith))
      ∙ (without_leaves (get_or words (element_of p) 0) p q bits ∙ ap (λ w. has_flag (get_or words w 0) q) t.1)))
      (λ t. stands_elsewhere (element_of p) x q t.1)
      (eqb_tells (element_of p) (element_of q))

  -- where the word of p's element is swapped with 0, p is clear
  pub swapped_clear : (w p : ℕ) → w ≡ element_of p → w < length words → stands (set words w 0) p ≡ false
  swapped_clear w p is near =
      ap (λ z. stands (set words z 0) p) is ∙ (stands_in 0 p (omega arith) ∙ none_stands p)
