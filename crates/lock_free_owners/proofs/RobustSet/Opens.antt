-- The words with which a robust set's table opens are those of a machine at its opening.
use Rattle.lock_free_owners.proofs.Names.{◌≡◌, ℕ, ◌-◌, ◌^◌, ◌<◌, nat_lt, false, List, [], ◌∷◌, ◌++◌, arith}
use Rattle.lock_free_owners.proofs.Names.{nat_tests, opening, one_word, IsMachine, first_view, opens}
use Rattle.model.specs.declared.turn.Kind.TheVariants as kinds
use Rattle.model.specs.Families.Indices.Robust.Opening.{opening_words}

module _ (capacity : ℕ) (some : 0 < capacity) (small : capacity < 2 ^ 32) where
  -- The capacity is not refused as too great.
  most : nat_lt (2 ^ 32 - 1) capacity ≡ false
  most = grind (arith, nat_tests)

  -- The capacity is not refused as too small.
  least : nat_lt capacity 1 ≡ false
  least = grind (arith, nat_tests)

  -- The opening words, and one more, are those of the machine of a robust set, and the first view fits them.
  pub robust_opens : (words : List ℕ) → words ≡ opening_words capacity ++ 0 ∷ []
      → IsMachine one_word kinds.Robust capacity (opening words [] (first_view capacity))
  robust_opens words words_are = grind (arith, opens, one_word, most, least)
