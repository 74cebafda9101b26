-- A table with a place for each index of a set: the places that are out are the indices that a pass holds.
use Rattle.std.proofs.Common.{◌≡◌, ◌≢◌, ℕ, zero, ◌+◌, ◌<◌, ◌==◌, Bool, true, false, if◌then◌else◌, List, length, get_or, set}
use Rattle.std.proofs.Common.{sum_by, get_or-set_same, get_or-set_other, subst, sym, refl, ap, ⊎_elim, arith}
use Rattle.std.proofs.lemmas.Bool.{cases_eq}
use Rattle.lock_free_sets.proofs.Names.{nat_tests, ReleaseState, UniqueIndexSetAcquireFailure, View, claims, frees}
use Rattle.lock_free_sets.specs.Unique.Held.{one_if}
use Rattle.lock_free_sets.specs.Unique.Contracts.{HasAcquired, HasGiven, WasRefused}
use Rattle.lock_free_sets.proofs.Unique.Holding.{taken_moves, refused_moves, given_moves}

-- 1 for true and 0 for false.
abbrev pub as_number : Bool → ℕ
as_number b = if b then 1 else 0

-- A choice between 0 and 0 is 0.
pub none_if : (b : Bool) → (if b then zero else zero) ≡ 0
none_if true = refl
none_if false = refl

-- a place past the end is `free`
module _ {A : Type 0} (free : A) (out : A → Bool) where
  -- the table says of each index whether the pass holds it
  abbrev pub IsTableOf : View ℕ → List A → Type 0
  IsTableOf v table = (i : ℕ) → sum_by (claims i) v.made ≡ sum_by (frees i) v.made + as_number (out (get_or table i free))

  module _ (v : View ℕ) (table : List A) (held : IsTableOf v table) where
    -- An index that the pass acquires was free in its table before.
    pub was_free : (i : ℕ) (w : View ℕ) → HasAcquired i v w → out (get_or table i free) ≡ false
    was_free i w taken =
        let m = taken_moves v w i i taken.taken in
        let holds = taken.holds in
        let a = m.claimed in
        let b = m.freed in
        let t : (i == i) ≡ true = grind (arith, nat_tests) in
        let one_is : one_if i i ≡ 1 = rw t refl in
        let was = held i in
        go (out (get_or table i free)) (omega arith)
      where
        -- the cases are whether the place is out
        go : (b : Bool) → as_number b ≡ 0 → b ≡ false
        go false as_number_is_zero = refl
        go true as_number_is_zero = absurd (omega arith)

    -- a refused acquire leaves it
    pub is_refused : (e : UniqueIndexSetAcquireFailure) (w : View ℕ) → WasRefused e v w → IsTableOf w table
    is_refused e w refused j =
        let m = refused_moves v w j e refused.taken in
        let a = m.claimed in
        let b = m.freed in
        let was = held j in
        omega arith

    -- i is the index that is given back or acquired, p its place from then on, w what the pass
    -- knows then
    module _ (i : ℕ) (p : A) (lt : i < length table) (w : View ℕ) where
      -- From v to w the claims of an index, less its frees, change just as the table does: only at i,
      -- by what the place before and p say.
      abbrev Moves : Type 0
      Moves = (j : ℕ) → sum_by (claims j) w.made + (sum_by (frees j) v.made + (if i == j then as_number (out (get_or table i free)) else 0))
          ≡ sum_by (claims j) v.made + (sum_by (frees j) w.made + (if i == j then as_number (out p) else 0))

      -- If claims and frees moved so, the table with p at the index i is that of w.
      moved : Moves → IsTableOf w (set table i p)
      moved moves k = ⊎_elim (here k) (there k) (cases_eq k i)
        where
          -- at the place that changed, the index is claimed once more than freed just if the place
          -- is out now
          here : (j : ℕ) → j ≡ i → sum_by (claims j) w.made ≡ sum_by (frees j) w.made + as_number (out (get_or (set table i p) j free))
          here j e =
              let t : (i == i) ≡ true = grind (arith, nat_tests) in
              let m : sum_by (claims i) w.made + (sum_by (frees i) v.made + as_number (out (get_or table i free)))
              ≡ sum_by (claims i) v.made + (sum_by (frees i) w.made + as_number (out p)) =
              (let it = moves i in rw t at it) in
              let was = held i in
              let now : as_number (out (get_or (set table i p) i free)) ≡ as_number (out p) = ap (λ z. as_number (out z)) (get_or-set_same table i p free lt) in
              subst (λ n. sum_by (claims n) w.made ≡ sum_by (frees n) w.made + as_number (out (get_or (set table i p) n free))) (sym e) (omega arith)

          -- a change of the table at one place leaves what it says of another index
          there : (j : ℕ) → j ≢ i → sum_by (claims j) w.made ≡ sum_by (frees j) w.made + as_number (out (get_or (set table i p) j free))
          there j ne =
              let t : (i == j) ≡ false = grind (arith, nat_tests) in
              let m : sum_by (claims j) w.made + (sum_by (frees j) v.made + 0)
              ≡ sum_by (claims j) v.made + (sum_by (frees j) w.made + 0) =
              (let it = moves j in rw t at it) in
              let was = held j in
              let now : as_number (out (get_or (set table i p) j free)) ≡ as_number (out (get_or table j free)) =
              ap (λ z. as_number (out z)) (get_or-set_other table i j p free ne) in
              omega arith

      -- what is given back is free
      pub is_freed : (state : ReleaseState) → out (get_or table i free) ≡ true → out p ≡ false → HasGiven i state v w → IsTableOf w (set table i p)
      is_freed state was now given = moved go
        where
          -- with the release one place less is out, as one index less is held
          go : Moves
          go j =
              let m = given_moves v w j i state given in
              let a = m.claimed in
              let b = m.freed in
              let x : (if i == j then as_number (out (get_or table i free)) else 0) ≡ (if i == j then 1 else 0) =
              ap (λ n. if i == j then n else 0) (ap as_number was) in
              let y : (if i == j then as_number (out p) else 0) ≡ (if i == j then zero else zero) = ap (λ n. if i == j then n else 0) (ap as_number now) in
              let z : (if i == j then zero else zero) ≡ 0 = none_if (i == j) in
              omega arith

      -- An acquire of i, with a place that says it is held, keeps the table right.
      pub is_taken : out p ≡ true → HasAcquired i v w → IsTableOf w (set table i p)
      is_taken now taken = moved go
        where
          -- with the acquire one place more is out, as one index more is held
          go : Moves
          go j =
              let m = taken_moves v w j i taken.taken in
              let a = m.claimed in
              let b = m.freed in
              let x : (if i == j then as_number (out (get_or table i free)) else 0) ≡ (if i == j then zero else zero) =
              ap (λ n. if i == j then n else 0) (ap as_number (was_free i w taken)) in
              let y : (if i == j then as_number (out p) else 0) ≡ (if i == j then 1 else 0) = ap (λ n. if i == j then n else 0) (ap as_number now) in
              let z : (if i == j then zero else zero) ≡ 0 = none_if (i == j) in
              omega arith
