-- The words with which a unique index set's table opens are those of a machine at its opening.
use Rattle.lock_free_sets.proofs.Names.{◌≡◌, ℕ, ◌-◌, ◌^◌, ◌<◌, nat_lt, false, List, [], ◌∷◌, ◌++◌, arith, nat_tests}
use Rattle.lock_free_sets.proofs.Names.{opening, one_word, IsMachine, first_view}
use Rattle.model.specs.declared.turn.Kind.TheVariants as kinds
use Rattle.model.specs.Families.Indices.Opening.{opening_words}
use Rattle.history.proofs.Passes.{opens}

module _ (capacity : ℕ) (some : 0 < capacity) (small : capacity < 2 ^ 24 - 1) where
  -- The capacity is not refused as too great.
  most : nat_lt (2 ^ 24 - 2) capacity ≡ false
  most = grind (arith, nat_tests)

  -- The capacity is not refused as too small.
  least : nat_lt capacity 1 ≡ false
  least = grind (arith, nat_tests)

  -- The opening words, and one more, are those of the machine of a unique index set, and the
  -- first view fits them.
  pub indices_open : (words : List ℕ) → words ≡ opening_words capacity ++ 0 ∷ []
      → IsMachine one_word kinds.Indices capacity (opening words [] (first_view capacity))
  indices_open words words_are = grind (arith, opens, one_word, most, least)
