-- The words of a unique index set of which all indices are free: the chain of its indices is
-- the stack with 0 on top.
use Rattle.std.proofs.Common.{◌≡◌, ◌≢◌, ℕ, zero, suc, ◌+◌, ◌-◌, ◌%◌, ◌/◌, ◌^◌, ◌<◌, ◌≤◌, ⊎_elim, true, false, not, eqb}
use Rattle.std.proofs.Common.{List, ◌∷◌, length, refl, sym, ap, subst, ◌∙◌, arith, slice_index}
use Rattle.std.proofs.Common.{true≢false}
use Rattle.plain.proofs.Names.{IsDistinct, range_with_len, eqb_tells, cases_Bool}
use Rattle.steps.specs.Indices.Head.{next_word, flag_word, has_flag}
use Rattle.steps.specs.Indices.Unique.{borrowed_number}
use Rattle.steps.specs.Objects.Stacks.{opened}
use Rattle.plain.specs.Unique.{chain, free_in, stack_in, claimed, Represents}
use Rattle.plain.proofs.Stacks.Chains.{is_in, in_first, in_rest, in_other, one_more}

-- the words of a set that opens, of which the next indices of the first n are written: word 1 + i names i +
-- 1, and the head and the flags are 0
pub record Linked (n capacity : ℕ) (words : List ℕ) : Type 0 where
  pub long : length words ≡ 1 + capacity + (capacity + 63) / 64
  pub head : slice_index words 0 ≡ 0
  pub next : (i : ℕ) → i < n → slice_index words (1 + i) ≡ i + 1
  pub flags : (j : ℕ) → capacity < j → slice_index words j ≡ 0

-- ---- the numbers of a range

-- a number of a range is in it
pub in_range : (i a n : ℕ) → a ≤ i → i < a + n → is_in i (range_with_len a n) ≡ true
in_range i a zero low high = absurd (omega arith)
in_range i a (suc n) low high =
    ⊎_elim (λ (t : (eqb i a ≡ true) × (i ≡ a)).
    subst (λ k. is_in i (k ∷ range_with_len (a + 1) n) ≡ true) t.1 (in_first i (range_with_len (a + 1) n)))
    (λ (t : (eqb i a ≡ false) × (i ≢ a)). let other = t.1 in
    in_rest i a (range_with_len (a + 1) n) (in_range i (a + 1) n (omega (arith, other)) (omega arith)))
    (eqb_tells i a)

-- a number that is in a range lies within its bounds
pub range_within : (i a n : ℕ) → is_in i (range_with_len a n) ≡ true → (a ≤ i) × (i < a + n)
range_within i a zero within = absurd (true≢false (sym within))
range_within i a (suc n) within =
    ⊎_elim (λ (t : (eqb i a ≡ true) × (i ≡ a)). let e = t.1 in (omega arith, omega arith))
    (λ (t : (eqb i a ≡ false) × (i ≢ a)).
    let r = range_within i (a + 1) n (sym (in_other i a (range_with_len (a + 1) n) t.1) ∙ within) in
    let low = r.0 in let high = r.1 in (omega arith, omega arith))
    (eqb_tells i a)

-- no number is in a range twice
range_distinct : (a n : ℕ) → IsDistinct eqb (range_with_len a n)
unfolding IsDistinct
range_distinct a zero = tt
range_distinct a (suc n) =
    one_more a (range_with_len (a + 1) n)
    (⊎_elim (λ h. let r = range_within a (a + 1) n h in absurd (omega (arith, r.0))) (λ h. h)
    (cases_Bool (is_in a (range_with_len (a + 1) n))))
    (range_distinct (a + 1) n)

-- ---- the stack

module _ (capacity : ℕ) (words : List ℕ) (some : 1 ≤ capacity) (few : capacity ≤ 2 ^ 24 - 2)
    (linked : Linked capacity capacity words) where
  -- from each index on the chain is the rest of the indices in order
  chain_is : (i n : ℕ) → i + n ≡ capacity → chain words i n ≡ range_with_len i n
  chain_is i zero end = refl
  chain_is i (suc n) end =
      let next : slice_index words (next_word i) % 2 ^ 24 ≡ i + 1 =
      ap (λ w. w % 2 ^ 24) (linked.next i (omega arith)) ∙ omega arith in
      ap (λ k. i ∷ chain words k n) next ∙ ap (λ xs. i ∷ xs) (chain_is (i + 1) n (omega arith))

  -- the free indices are those below the capacity, ascending
  free_is : free_in capacity words ≡ range_with_len 0 capacity
  free_is = grind (arith, chain, chain_is)

  -- no flag stands
  none_claimed : (i : ℕ) → claimed capacity words i ≡ false
  none_claimed i = ap (λ w. has_flag w i) (linked.flags (flag_word capacity i) (omega arith))

  -- these words are those of a unique index set
  fits : Represents capacity words
  fits =
      record {
        long = linked.long;
        some = some;
        few = few;
        small = subst (λ w. w < 2 ^ 64) (sym linked.head) (omega arith);
        count = subst (λ w. borrowed_number w ≤ capacity) (sym linked.head) (omega arith);
        -- each index is on the stack once
        distinct = subst (IsDistinct eqb) (sym free_is) (range_distinct 0 capacity);
        below = λ i there.
            let r = range_within i 0 capacity (sym (ap (is_in i) free_is) ∙ there) in
            omega (arith, r.1);
        -- each index is on the stack, and its flag is clear
        flags = λ i low.
            none_claimed i
            ∙ sym (ap not (ap (is_in i) free_is ∙ in_range i 0 capacity (omega arith) (omega arith)));
      }

  -- these words are those of a set that opens, with all indices on its stack
  pub all_free : Represents capacity words × (stack_in capacity words ≡ opened capacity)
  all_free = grind (arith, fits, free_is)
