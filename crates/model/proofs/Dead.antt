-- Who has died, once one more has.
use Rattle.model.proofs.Names.{List, [], ap, dead_with, has_died, refl, true, ℕ, ◌||◌, ◌∷◌, ◌≡◌, ◌≢◌}
use Rattle.std.specs.BTreeSet.{insert_key}
use Rattle.std.specs.declared.cmp.Ordering.{Ordering}
use Rattle.std.specs.declared.cmp.Ordering.TheVariants.{Less, Equal, Greater}
use Rattle.std.specs.Ordering.{is_eq, match_ordering, nat_cmp}
use Rattle.model.proofs.Parties.{apart, itself}

-- An owner who is put among the dead is dead.
pub died_now : (owner : ℕ) (dead : List ℕ) → has_died owner (dead_with owner dead) ≡ true
died_now owner [] = rw (itself owner) refl
died_now owner (x ∷ xs) = by (nat_cmp owner x) refl (died_now owner xs)
  where
    -- The cases are how the owner compares with the first of the dead.
    by : (r : Ordering) → nat_cmp owner x ≡ r → has_died owner (insert_key nat_cmp xs owner) ≡ true
        → has_died owner (match_ordering r (owner ∷ x ∷ xs) (x ∷ xs) (x ∷ insert_key nat_cmp xs owner)) ≡ true
    by Less compared more = rw (itself owner) refl
    by Equal compared more = rw compared refl
    by Greater compared more = rw compared more

-- Another owner is dead exactly if he was before.
pub died_before : (other owner : ℕ) (dead : List ℕ) → other ≢ owner → has_died other (dead_with owner dead) ≡ has_died other dead
died_before other owner [] ne = rw (apart other owner ne) refl
died_before other owner (x ∷ xs) ne = by (nat_cmp owner x) (died_before other owner xs ne)
  where
    -- The cases are how the new owner compares with the first of the dead.
    by : (r : Ordering) → has_died other (insert_key nat_cmp xs owner) ≡ has_died other xs
        → has_died other (match_ordering r (owner ∷ x ∷ xs) (x ∷ xs) (x ∷ insert_key nat_cmp xs owner)) ≡ has_died other (x ∷ xs)
    by Less more = rw (apart other owner ne) refl
    by Equal more = refl
    by Greater more = ap (λ b. is_eq (nat_cmp other x) || b) more
