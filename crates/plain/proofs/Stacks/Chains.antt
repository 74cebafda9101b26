-- The chain of free indices in the words of a unique index set, its claim flags, and that no index
-- is in the chain twice.
use Rattle.std.proofs.Common.{◌≡◌, ◌≢◌, ℕ, zero, suc, ◌-◌, ◌%◌, ◌^◌, ◌<◌, ◌≤◌, Bool, true, false, ◌||◌, eqb}
use Rattle.std.proofs.Common.{eq-eqb, ne_eqb, List, [], ◌∷◌, length, refl, ap, ◌∙◌, arith, slice_index, slice_set}
use Rattle.std.proofs.Common.{get_or-set_same, get_or-set_other, true≢false}
use Rattle.std.specs.Prelude.{bit_or, bit_and}
use Rattle.plain.proofs.Names.{IsDistinct, eqb_tells, with_stands, with_leaves, without_clear, without_leaves}
use Rattle.std.specs.List.{list_any, AllByRecursion}
use Rattle.steps.specs.Indices.Head.{next_word, flag_word, flag, has_flag}
use Rattle.plain.specs.Unique.{chain, claimed}

-- whether the index is in the list
abbrev pub is_in : ℕ → List ℕ → Bool
is_in i xs = list_any (eqb i) xs

-- the first index of a list is in it
pub in_first : (i : ℕ) (xs : List ℕ) → is_in i (i ∷ xs) ≡ true
in_first i xs = ap (λ b. b || is_in i xs) (eq-eqb i i refl)

-- `b || true` is true, whatever `b` is
or_true : (b : Bool) → (b || true) ≡ true
or_true true = refl
or_true false = refl

-- an index of a list is in the list with another before it
pub in_rest : (i j : ℕ) (xs : List ℕ) → is_in i xs ≡ true → is_in i (j ∷ xs) ≡ true
in_rest i j xs within = ap (λ b. eqb i j || b) within ∙ or_true (eqb i j)

-- an index that is not the first is in a list where it is in the rest
pub in_other : (i j : ℕ) (xs : List ℕ) → i ≢ j → is_in i (j ∷ xs) ≡ is_in i xs
in_other i j xs other = ap (λ b. b || is_in i xs) (ne_eqb i j other)

-- ---- no index twice

-- if `a || b` is false, both tests are false
or_false : (a b : Bool) → (a || b) ≡ false → (a ≡ false) × (b ≡ false)
or_false true b neither = absurd (true≢false neither)
or_false false b neither = (refl, neither)

-- an index that is not in a list differs from each of the list
apart : (i : ℕ) (xs : List ℕ) → is_in i xs ≡ false → AllByRecursion (λ y. eqb i y ≡ false) xs
apart i [] outside = tt
apart i (x ∷ xs) outside = let e = or_false (eqb i x) (is_in i xs) outside in (e.0, apart i xs e.1)

-- an index that differs from each of a list is not in it
not_in : (i : ℕ) (xs : List ℕ) → AllByRecursion (λ y. eqb i y ≡ false) xs → is_in i xs ≡ false
not_in i [] none_is = refl
not_in i (x ∷ xs) none_is = ap (λ b. b || is_in i xs) none_is.0 ∙ not_in i xs none_is.1

-- a list without duplicates has none with a new index before it
pub one_more : (i : ℕ) (xs : List ℕ) → is_in i xs ≡ false → IsDistinct eqb xs → IsDistinct eqb (i ∷ xs)
unfolding IsDistinct
one_more i xs out distinct = (apart i xs out, distinct)

-- in a list without duplicates the first index is not in the rest, which has none either
pub one_less : (i : ℕ) (xs : List ℕ) → IsDistinct eqb (i ∷ xs) → (is_in i xs ≡ false) × IsDistinct eqb xs
unfolding IsDistinct
one_less i xs distinct = (not_in i xs distinct.0, distinct.1)

-- ---- the chain of next indices

-- a chain is the same over two lists of words where each of its indices has the same next word in both
pub chain_same : (ws vs : List ℕ) (k n : ℕ)
    → ((i : ℕ) → is_in i (chain ws k n) ≡ true → slice_index ws (next_word i) ≡ slice_index vs (next_word i))
    → chain ws k n ≡ chain vs k n
chain_same ws vs k zero same_words = refl
chain_same ws vs k (suc n) same_words =
    let next = slice_index ws (next_word k) % 2 ^ 24 in
    let rest = chain_same ws vs next n (λ i there. same_words i (in_rest i k (chain ws next n) there)) in
    let same = same_words k (in_first k (chain ws next n)) in
    ap (λ xs. k ∷ xs) (rest ∙ ap (λ x. chain vs (x % 2 ^ 24) n) same)

-- a chain of n indices has n indices
pub chain_length : (ws : List ℕ) (k n : ℕ) → length (chain ws k n) ≡ n
chain_length ws k zero = refl
chain_length ws k (suc n) = ap suc (chain_length ws (slice_index ws (next_word k) % 2 ^ 24) n)

-- ---- the claim flags

module _ (capacity : ℕ) (words : List ℕ) where
  -- a change of a word before the flags leaves all flags
  pub claimed_elsewhere : (at new i : ℕ) → at ≤ capacity → claimed capacity (slice_set words at new) i ≡ claimed capacity words i
  claimed_elsewhere = grind (arith, has_flag, get_or-set_other)

  module _ (p : ℕ) (near : flag_word capacity p < length words) where
    -- the word of p's flag
    abbrev found : ℕ
    found = slice_index words (flag_word capacity p)

    -- with p's bit set the flag of p stands
    pub claims : claimed capacity (slice_set words (flag_word capacity p) (bit_or found (flag p))) p ≡ true
    claims = grind (arith, has_flag, get_or-set_same, flag, with_stands)

    -- without p's bit the flag of p is clear
    pub frees : claimed capacity (slice_set words (flag_word capacity p) (bit_and found (2 ^ 64 - 1 - flag p))) p ≡ false
    frees = grind (arith, has_flag, get_or-set_same, flag, without_clear)

    -- a new word that differs from the old one only in p's bit leaves the flags of all other indices
    leaves : (new i : ℕ) → i ≢ p → (p % 64 ≢ i % 64 → has_flag new i ≡ has_flag found i)
        → claimed capacity (slice_set words (flag_word capacity p) new) i ≡ claimed capacity words i
    leaves = grind (arith, has_flag, get_or-set_same, get_or-set_other, eqb_tells)

    -- to set p's bit leaves the flags of all other indices
    pub claims_leave : (i : ℕ) → i ≢ p → claimed capacity (slice_set words (flag_word capacity p) (bit_or found (flag p))) i ≡ claimed capacity words i
    claims_leave i other = leaves (bit_or found (flag p)) i other (λ ne. with_leaves found p i ne)

    -- to clear p's bit leaves the flags of all other indices
    pub frees_leave : (i : ℕ) → i ≢ p
        → claimed capacity (slice_set words (flag_word capacity p) (bit_and found (2 ^ 64 - 1 - flag p))) i ≡ claimed capacity words i
    frees_leave i other = leaves (bit_and found (2 ^ 64 - 1 - flag p)) i other (λ ne. without_leaves found p i ne)
