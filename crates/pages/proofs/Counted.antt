-- Lists whose members are related pair by pair, and places in a history of which a page sees some events: how many it has seen
-- before each.
use Rattle.std.specs.List.{All, AllPairs, Contains}
use Rattle.std.proofs.Common.{inl, inr, ◌⊎◌}
use Rattle.std.proofs.lemmas.Bool.Decides.{nat_tests}
use Rattle.model.proofs.Names.{Bool, List, [], ap, arith, false, get_or, length, map, nat_lt, refl, subst, suc, true, zero, ℕ}
use Rattle.model.proofs.Names.{⊎_elim, ◌+◌, ◌<◌, ◌∙◌, ◌∷◌, ◌≡◌, ◌≤◌}
use Rattle.model.specs.declared.event.Event.{Event}
use Rattle.model.proofs.Linearizable.Members.{here, none_there, split, there}

-- ---- lists

module _ {X Y : Type 0} (g : X → Y) where
  pub mapped : (xs : List X) (x : X) → Contains xs x → Contains (map g xs) (g x)
  mapped [] x is = absurd (none_there x is)
  mapped (y ∷ xs) x is = ⊎_elim (λ e. here (g y) (g x) (map g xs) (ap g e)) (λ more. there (g y) (g x) (map g xs) (mapped xs x more)) (split y x xs is)

  -- members that are related pair by pair have images that are
  pub pairs_mapped : (P : X → Type 0) (R : X → X → Type 0) (S : Y → Y → Type 0) (xs : List X) → ((x y : X) → P x → P y → R x y → S (g x) (g y))
      → All P xs → AllPairs R xs → AllPairs S (map g xs)
  pairs_mapped P R S [] f all pairs i j d lt within = absurd (omega arith)
  pairs_mapped P R S (x ∷ xs) f all pairs zero zero d lt within = absurd (omega arith)
  pairs_mapped P R S (x ∷ xs) f all pairs zero (suc j) d lt within =
      first xs (λ i d lt. all (suc i) d (omega arith)) (λ j lt. pairs 0 (suc j) x (omega arith) (omega arith)) j (omega arith)
    where
      -- the image of the first member is related to the image of each later one
      first : (ys : List X) → All P ys → ((j : ℕ) → j < length ys → R x (get_or ys j x)) → (j : ℕ) → j < length (map g ys) → S (g x) (get_or (map g ys) j d)
      first [] others rest j lt = absurd (omega arith)
      first (y ∷ ys) others rest zero lt = f x y (all 0 x (omega arith)) (others 0 y (omega arith)) (rest 0 (omega arith))
      first (y ∷ ys) others rest (suc j) lt = first ys (λ i d lt. others (suc i) d (omega arith)) (λ j lt. rest (suc j) (omega arith)) j (omega arith)
  pairs_mapped P R S (x ∷ xs) f all pairs (suc i) zero d lt within = absurd (omega arith)
  pairs_mapped P R S (x ∷ xs) f all pairs (suc i) (suc j) d lt within =
      pairs_mapped P R S xs f (λ i d lt. all (suc i) d (omega arith)) (λ i j d lt within. pairs (suc i) (suc j) d (omega arith) (omega arith)) i j d
      (omega arith) (omega arith)

-- a number is below another, or not
pub below_or : (i j : ℕ) → (i < j) ⊎ (j ≤ i)
below_or i j = go (nat_lt i j) refl
  where
    go : (b : Bool) → nat_lt i j ≡ b → (i < j) ⊎ (j ≤ i)
    go true t = inl (grind (arith, nat_tests))
    go false t = inr (grind (arith, nat_tests))

pub cons_parts : {X : Type 0} (a b : X) (xs ys : List X) → a ∷ xs ≡ b ∷ ys → (a ≡ b) × (xs ≡ ys)
cons_parts a b xs ys e = (cc, cc)

-- ---- places: f says where an event stands that is seen

-- how many events a page sees of each is its weight
module _ {T : Type 0} (weight : Event T → ℕ) where
  abbrev pub count : List (Event T) → ℕ → ℕ
  count [] k = 0
  count (e ∷ es) zero = 0
  count (e ∷ es) (suc k) = weight e + count es k

  count_none : (es : List (Event T)) → count es 0 ≡ 0
  count_none [] = refl
  count_none (e ∷ es) = refl

  -- The first `j` events count at least as much as the first `i`, if `i` is at most `j`.
  pub count_more : (es : List (Event T)) (i j : ℕ) → i ≤ j → count es i ≤ count es j
  count_more [] i j le = omega arith
  count_more (e ∷ es) zero j le = omega arith
  count_more (e ∷ es) (suc i) zero le = absurd (omega arith)
  count_more (e ∷ es) (suc i) (suc j) le = let more = count_more es i j (omega arith) in omega arith

  -- From number `n` on, `f` counts what the page sees before each event; before the first it is `m`.
  abbrev pub Places : (ℕ → ℕ) → ℕ → ℕ → List (Event T) → Type 0
  Places f n m es = (i : ℕ) → f (n + i) ≡ m + count es i

  -- the count of these events begins at the place of the first one
  pub place_here : (f : ℕ → ℕ) (n m : ℕ) (es : List (Event T)) → Places f n m es → f n ≡ m
  place_here f n m es h =
      let same : n ≡ n + 0 = omega arith in
      let none = count_none es in
      let ends : m + count es 0 ≡ m = omega arith in
      ap f same ∙ (h 0 ∙ ends)

  -- The count of the events behind the first one begins past its weight.
  pub next_places : (f : ℕ → ℕ) (n m : ℕ) (e : Event T) (es : List (Event T)) → Places f n m (e ∷ es) → Places f (n + 1) (m + weight e) es
  next_places f n m e es h i =
      let same : n + 1 + i ≡ n + suc i = omega arith in
      let sums : m + (weight e + count es i) ≡ m + weight e + count es i = omega arith in
      ap f same ∙ (h (suc i) ∙ sums)

  pub quiet_places : (f : ℕ → ℕ) (n m : ℕ) (e : Event T) (es : List (Event T)) → weight e ≡ 0 → Places f n m (e ∷ es) → Places f (n + 1) m es
  quiet_places f n m e es none h =
      let same : m + weight e ≡ m = omega arith in
      subst (λ k. Places f (n + 1) k es) same (next_places f n m e es h)
