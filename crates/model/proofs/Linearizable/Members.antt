-- Members of lists, pairs of members, and functions of parties.
use Rattle.model.proofs.Names.{Bool, List, [], arith, false, get_or, if◌then◌else◌, inl, inr, length, nat_tests, refl}
use Rattle.model.proofs.Names.{suc, true, zero, ℕ, ◌<◌, ◌==◌, ◌∷◌, ◌≡◌, ◌≢◌, ◌⊎◌}
use Rattle.std.proofs.lemmas.List.Elements.{Contains-get_or}
use Rattle.std.specs.List.{All, AllPairs, Contains}

-- ---- functions of parties

module _ {X : Type 0} where
  abbrev pub put : ℕ → X → (ℕ → X) → ℕ → X
  put p x f q = if q == p then x else f q

  pub put_same : (p : ℕ) (x : X) (f : ℕ → X) → put p x f p ≡ x
  put_same p x f = let tests_same : (p == p) ≡ true = grind (arith, nat_tests) in rw tests_same refl

  pub put_other : (p q : ℕ) (x : X) (f : ℕ → X) → q ≢ p → put p x f q ≡ f q
  put_other p q x f ne = let tests_apart : (q == p) ≡ false = grind (arith, nat_tests) in rw tests_apart refl

-- ---- members of lists

module _ {X : Type 0} where
  -- The list with x in front, if b is true.
  abbrev pub kept_if : Bool → X → List X → List X
  kept_if true x xs = x ∷ xs
  kept_if false x xs = xs

  pub there : (x y : X) (xs : List X) → Contains xs y → Contains (x ∷ xs) y
  there x y xs member = let lt = member.1 in (suc member.0, omega arith, member.2)

  pub here : (x y : X) (xs : List X) → x ≡ y → Contains (x ∷ xs) y
  here x y xs same = (0, omega arith, same)

  pub first : (b : Bool) (x y : X) (xs : List X) → b ≡ true → x ≡ y → Contains (kept_if b x xs) y
  first true x y xs same_true same = here x y xs same
  first false x y xs same_true same = absurd (cc)

  pub later : (b : Bool) (x y : X) (xs : List X) → Contains xs y → Contains (kept_if b x xs) y
  later true x y xs member = there x y xs member
  later false x y xs member = member

  pub none_there : (y : X) → Contains [] y → ⊥
  none_there y member = omega (arith, member.1)

  -- A member of a list is its first element or a member of the rest.
  pub split : (x y : X) (xs : List X) → Contains (x ∷ xs) y → (x ≡ y) ⊎ Contains xs y
  split x y xs member = go member.0 member.1 member.2
    where
      -- The cases are whether the place of the element is the first one.
      go : (k : ℕ) → k < length (x ∷ xs) → get_or (x ∷ xs) k y ≡ y → (x ≡ y) ⊎ Contains xs y
      go zero lt found_at = inl found_at
      go (suc k) lt found_at = inr (k, omega arith, found_at)

  pub split_if : (b : Bool) (x y : X) (xs : List X) → Contains (kept_if b x xs) y → (b ≡ true) × (x ≡ y) ⊎ Contains xs y
  split_if = grind (arith, inl, inr, split)

  -- P holds of each where it holds of each member
  pub all_of : (P : X → Type 0) (xs : List X) → ((y : X) → Contains xs y → P y) → All P xs
  all_of P xs f k d lt = f (get_or xs k d) (Contains-get_or xs k d lt)

  -- R holds of each element and each later one
  abbrev pub AllLater : (X → X → Type 0) → List X → Type 0
  AllLater R [] = Unit {0}
  AllLater R (x ∷ xs) = ((y : X) → Contains xs y → R x y) × AllLater R xs

  -- An element that is kept only if `b` is true stands in the relation to all later ones, if it
  -- does so where it is kept.
  pub later_if : (R : X → X → Type 0) (b : Bool) (x : X) (xs : List X)
      → (b ≡ true → (y : X) → Contains xs y → R x y) → AllLater R xs → AllLater R (kept_if b x xs)
  later_if R true x xs f all = (f refl, all)
  later_if R false x xs f all = all

  -- what holds of each element and each later one holds of any two places in their order
  pub pairs_of : (R : X → X → Type 0) (xs : List X) → AllLater R xs → AllPairs R xs
  pairs_of R [] all i j d lt within = absurd (omega arith)
  pairs_of R (x ∷ xs) all zero zero d lt within = absurd (omega arith)
  pairs_of R (x ∷ xs) all zero (suc j) d lt within = all.0 (get_or xs j d) (Contains-get_or xs j d (omega arith))
  pairs_of R (x ∷ xs) all (suc i) zero d lt within = absurd (omega arith)
  pairs_of R (x ∷ xs) all (suc i) (suc j) d lt within = pairs_of R xs all.1 i j d (omega arith) (omega arith)

  -- A relation that holds to all later elements can be replaced by one that follows from it.
  pub later_so : (R S : X → X → Type 0) → ((x y : X) → R x y → S x y) → (xs : List X) → AllLater R xs → AllLater S xs
  later_so R S f [] all = tt
  later_so R S f (x ∷ xs) all = (λ y h. f x y (all.0 y h), later_so R S f xs all.1)

module _ {X : Type 0} where
  -- R holds of a pair
  pub pair_of : (R : X → X → Type 0) (x y : X) → R x y → AllPairs R (x ∷ y ∷ [])
  pair_of = grind (arith, pairs_of, none_there, split)

  -- one of two
  pub either : (x y z : X) → Contains (x ∷ y ∷ []) z → (x ≡ z) ⊎ (y ≡ z)
  either = grind (arith, inl, inr, none_there, split)

  -- three of two are not apart
  pub three_of_two : (x y a b c : X) → (x ≡ a) ⊎ (y ≡ a) → (x ≡ b) ⊎ (y ≡ b) → (x ≡ c) ⊎ (y ≡ c) → a ≢ b → a ≢ c → b ≢ c → ⊥
  three_of_two = grind arith
