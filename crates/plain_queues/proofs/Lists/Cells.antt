-- The values that stand in the cells of a queue.
use Rattle.std.proofs.Common.{◌≡◌, ◌≢◌, ℕ, zero, suc, ◌+◌, ◌*◌, ◌%◌, ◌<◌, ◌≤◌, ◌⊎◌, inl, inr, ⊎_elim, List, [], ◌∷◌, ◌++◌, length, refl, ap, subst, arith}
use Rattle.std.proofs.Math.Nat.{mul-le-mul_left}
use Rattle.std.proofs.lemmas.Bool.{cases_lt}
use Rattle.std.proofs.Math.Nat.{mod-add-div}
use Rattle.plain_queues.specs.Queues.{value_at, values_from}

-- two numbers less than n apart, with one remainder, are one number
pub one_turn : (a b n : ℕ) → a ≤ b → b < a + n → a % n ≡ b % n → a ≡ b
one_turn = grind (arith, mod-add-div, mul-le-mul_left)

-- a cell lies within the words
pub cell_within : (capacity size p : ℕ) → 1 ≤ capacity
    → size * (p % capacity) + size ≤ size * capacity
cell_within = grind (arith, mul-le-mul_left)

-- cells of positions less than a lap apart lie apart
pub cells_apart : (capacity size p q : ℕ) → p < q → q < p + capacity
    → (size * (p % capacity) + size ≤ size * (q % capacity))
    ⊎ (size * (q % capacity) + size ≤ size * (p % capacity))
cells_apart capacity size p q low near =
    let a : ℕ = p % capacity in
    let b : ℕ = q % capacity in
    let other : p % capacity ≢ q % capacity = λ e.
    let same = one_turn p q capacity (omega arith) near e in absurd (omega arith) in
    ⊎_elim (λ (h : p % capacity < q % capacity).
    let step : size * (p % capacity + 1) ≤ size * (q % capacity) = mul-le-mul_left size (omega arith) in
    inl (omega arith))
    (λ (h : q % capacity ≤ p % capacity).
    let less : q % capacity < p % capacity = omega (arith, other) in
    let step : size * (q % capacity + 1) ≤ size * (p % capacity) = mul-le-mul_left size (omega arith) in
    inr (omega arith))
    (cases_lt (p % capacity) (q % capacity))

module _ {V : Type 0} (value_of : List ℕ → V) (size capacity : ℕ) where
  -- the values from a position on are the same over two lists of words that have the same value at each position
  pub values_same : (ws vs : List ℕ) (p n : ℕ)
      → ((q : ℕ) → p ≤ q → q < p + n → value_at value_of size capacity ws q ≡ value_at value_of size capacity vs q)
      → values_from value_of size capacity ws p n ≡ values_from value_of size capacity vs p n
  values_same ws vs p zero same = refl
  values_same ws vs p (suc n) same =
      let head = same p (omega arith) (omega arith) in
      let tail = values_same ws vs (p + 1) n (λ q low high. same q (omega arith) (omega arith)) in
      λ i. head i ∷ tail i

  -- there are as many values from a position on as are asked for
  pub values_length : (ws : List ℕ) (p n : ℕ) → length (values_from value_of size capacity ws p n) ≡ n
  values_length ws p zero = refl
  values_length ws p (suc n) = ap suc (values_length ws (p + 1) n)

  -- n + 1 values from a position on are the first n, and the value of the position after them
  pub values_more : (ws : List ℕ) (p n : ℕ) → values_from value_of size capacity ws p (suc n)
      ≡ values_from value_of size capacity ws p n ++ value_at value_of size capacity ws (p + n) ∷ []
  values_more ws p zero = ap (λ q. value_at value_of size capacity ws q ∷ []) (omega arith)
  values_more ws p (suc n) =
      let there : p + 1 + n ≡ p + suc n = omega arith in
      ap (λ z. value_at value_of size capacity ws p ∷ z)
      (subst (λ q. values_from value_of size capacity ws (p + 1) (suc n)
      ≡ values_from value_of size capacity ws (p + 1) n ++ value_at value_of size capacity ws q ∷ [])
      there (values_more ws (p + 1) n))
