-- Numbers that follow one another, which the cells have as their tags.
use Rattle.std.proofs.Common.{◌≡◌, ℕ, zero, suc, ◌+◌, ◌<◌, ◌≤◌, List, [], ◌∷◌, ◌++◌, length, get_or, ap, subst, ◌∙◌, arith}
use Rattle.std.proofs.lemmas.List.FromFn.{get_or-range_with_len, length-range_with_len}
use Rattle.std.specs.List.{range_with_len}

-- one more
pub range_more : (first n number : ℕ) → number ≡ first + n → range_with_len first n ++ number ∷ [] ≡ range_with_len first (n + 1)
range_more first zero number is = ap (λ x. x ∷ []) (omega arith)
range_more first (suc n) number is =
    let on : suc (n + 1) ≡ suc n + 1 = omega arith in
    ap (λ xs. first ∷ xs) (range_more (first + 1) n number (omega arith)) ∙ ap (range_with_len first) on

-- The tags of the cells are the numbers from 0 on, so the tag of each cell is its place.
module _ (tags items : List ℕ) (number slot : ℕ) (same : tags ≡ items) (numbered : items ≡ range_with_len 0 number) where
  sized : length tags ≡ number
  sized = ap length (same ∙ numbered) ∙ length-range_with_len 0 number

  -- the tag of a cell is its slot
  pub is_slot : (tag : ℕ) → tag ≡ get_or tags slot tag → slot < length tags → (tag ≡ slot) × (slot < number)
  is_slot tag at lt =
      let within : slot < number = subst (λ n. slot < n) sized lt in (
        at ∙ (ap (λ xs. get_or xs slot tag) (same ∙ numbered) ∙ (get_or-range_with_len 0 number slot tag within ∙ omega arith)),
        within,
      )

  -- there is no such cell
  pub is_past : length tags ≤ slot → number ≤ slot
  is_past le = subst (λ n. n ≤ slot) sized le
