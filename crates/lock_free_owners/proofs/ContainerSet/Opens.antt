-- The words with which a container's table opens are those of a machine at its opening.
use Rattle.lock_free_owners.proofs.Names.{◌≡◌, ℕ, ◌+◌, ◌-◌, ◌^◌, ◌<◌, nat_lt, false, List, [], ◌∷◌, ◌++◌, refl}
use Rattle.lock_free_owners.proofs.Names.{append_assoc, arith, nat_tests, opening, total_words, empty}
use Rattle.lock_free_owners.proofs.Names.{Coding, IsCoding, IsMachine, first_view, opens}
use Rattle.std.proofs.Common.{replicate}
use Rattle.model.specs.declared.turn.Kind.TheVariants as kinds
use Rattle.model.specs.Families.Container.Opening.{opening_words}
use Rattle.history.proofs.Passes.{one_more}

module _ (capacity size : ℕ) where
  -- the words as they are filled in
  pub filled : (rest : ℕ) → rest ≡ total_words capacity size + 1 - (1 + capacity)
      → (0 ∷ replicate capacity empty) ++ replicate rest 0 ≡ opening_words size capacity ++ 0 ∷ []
  filled rest rest_is = grind (arith, replicate, empty, one_more, append_assoc)

-- The capacity is one that a container may have, so its opening is not refused.
module _ {T : Type 0} (code : Coding T) (law : IsCoding code) (capacity : ℕ) (some : 0 < capacity) (small : capacity < 2 ^ 32) where
  -- The capacity is not refused as too great.
  most : nat_lt (2 ^ 32 - 1) capacity ≡ false
  most = grind (arith, nat_tests)

  -- The capacity is not refused as too small.
  least : nat_lt capacity 1 ≡ false
  least = grind (arith, nat_tests)

  -- The opening words, and one more, are those of the machine of a container, and the first view fits them.
  pub container_opens : (words : List ℕ) → words ≡ opening_words code.size capacity ++ 0 ∷ []
      → IsMachine code kinds.Container capacity (opening words [] (first_view capacity))
  container_opens words same = opens code kinds.Container capacity words law (rw (most, least) refl) same
