-- Sums over the numbers below a bound, as of what each party or each index counts for.
use Rattle.std.proofs.Common.{◌≡◌, ◌≢◌, ℕ, zero, suc, ◌+◌, ◌<◌, ◌≤◌, ⊎_elim, refl, ap, arith}
use Rattle.laws_indices.proofs.Names.{cases_eq, cases_lt}

-- the sum of `f` over the numbers below a bound
abbrev pub sum_below : (ℕ → ℕ) → ℕ → ℕ
sum_below f zero = 0
sum_below f (suc n) = f n + sum_below f n

module _ (f g : ℕ → ℕ) where
  -- sums of the same terms are the same
  pub sum_same : (n : ℕ) → ((i : ℕ) → i < n → f i ≡ g i) → sum_below f n ≡ sum_below g n
  sum_same zero same = refl
  sum_same (suc n) same =
      let here = same n (omega arith) in
      let rest = sum_same n (λ i below. same i (omega arith)) in
      omega arith

  -- sums of terms that differ at `p` alone differ by that term
  pub sum_moved : (n p : ℕ) → p < n → ((i : ℕ) → i ≢ p → f i ≡ g i) → sum_below f n + g p ≡ sum_below g n + f p
  sum_moved zero p below same = absurd (omega arith)
  sum_moved (suc n) p below same = ⊎_elim here (before (λ less. sum_moved n p less same)) (cases_eq n p)
    where
      -- where the last number is the one that differs, the sums below it are the same
      here : n ≡ p → f n + sum_below f n + g p ≡ g n + sum_below g n + f p
      here same_party =
          let rest = sum_same n (λ i less. same i (λ h. absurd (omega arith))) in
          let left : f n ≡ f p = ap f same_party in
          let right : g n ≡ g p = ap g same_party in
          omega arith

      -- where `p` is below `n`, the sums below the successor of `n` differ as those below `n` do
      before : (p < n → sum_below f n + g p ≡ sum_below g n + f p) → n ≢ p → f n + sum_below f n + g p ≡ g n + sum_below g n + f p
      before = grind arith

module _ (f : ℕ → ℕ) where
  -- where each term is 1, the sum is the number of terms
  pub sum_all : (n : ℕ) → ((i : ℕ) → i < n → f i ≡ 1) → sum_below f n ≡ n
  sum_all zero one = refl
  sum_all (suc n) one =
      let here = one n (omega arith) in
      let rest = sum_all n (λ i below. one i (omega arith)) in
      omega arith

  -- no term is more than the sum
  pub sum_one : (n p : ℕ) → p < n → f p ≤ sum_below f n
  sum_one zero p below = absurd (omega arith)
  sum_one (suc n) p below = ⊎_elim (before (sum_one n p)) here (cases_lt p n)
    where
      -- where `p` is below `n`, its value is part of the sum below the successor of `n`
      before : (p < n → f p ≤ sum_below f n) → p < n → f p ≤ f n + sum_below f n
      before one less = let rest = one less in omega arith

      -- where `p` is the last, its value is part of the sum
      here : n ≤ p → f p ≤ f n + sum_below f n
      here = grind arith

  -- terms that count nothing sum to nothing
  pub sum_none : (n : ℕ) → ((i : ℕ) → i < n → f i ≡ 0) → sum_below f n ≡ 0
  sum_none zero none = refl
  sum_none (suc n) none =
      let here = none n (omega arith) in
      let rest = sum_none n (λ i below. none i (omega arith)) in
      omega arith

  -- terms of 0 behind the others leave the sum as it is
  pub sum_longer : (n m : ℕ) → n ≤ m → ((i : ℕ) → n ≤ i → f i ≡ 0) → sum_below f m ≡ sum_below f n
  sum_longer n zero low none = let same : n ≡ 0 = omega arith in rw same refl
  sum_longer n (suc m) low none = ⊎_elim (longer (λ less. sum_longer n m less none)) whole (cases_lt n (suc m))
    where
      -- values of 0 from `n` on add nothing to the sum
      longer : (n ≤ m → sum_below f m ≡ sum_below f n) → n < suc m → f m + sum_below f m ≡ sum_below f n
      longer = grind arith

      -- the sum below the successor of `m` is that below `m` and the value of `m`
      whole : suc m ≤ n → f m + sum_below f m ≡ sum_below f n
      whole more = let same : n ≡ suc m = omega arith in rw same refl

-- each term of `h` is at most the terms of `f` and `g` together
module _ (f g h : ℕ → ℕ) (less : (i : ℕ) → h i ≤ f i + g i) where
  -- the sum of `h` is at most the sums of `f` and `g` together
  all_over : (n : ℕ) → sum_below h n ≤ sum_below f n + sum_below g n
  all_over zero = omega arith
  all_over (suc n) = let here = less n in let rest = all_over n in omega arith

  -- the sum of `h` stays below those of `f` and `g` by at least what its term at `p` stays below theirs
  pub sum_over : (n p : ℕ) → p < n → sum_below h n + (f p + g p) ≤ sum_below f n + sum_below g n + h p
  sum_over zero p below = absurd (omega arith)
  sum_over (suc n) p below = ⊎_elim (before (sum_over n p)) here (cases_lt p n)
    where
      -- the sums below `n` bound those below its successor, where `p` is below `n`
      before : (p < n → sum_below h n + (f p + g p) ≤ sum_below f n + sum_below g n + h p) → p < n
          → h n + sum_below h n + (f p + g p) ≤ f n + sum_below f n + (g n + sum_below g n) + h p
      before over lower = let rest = over lower in let one = less n in omega arith

      -- the sums below the successor of `n`, where `p` is `n` itself
      here : n ≤ p → h n + sum_below h n + (f p + g p) ≤ f n + sum_below f n + (g n + sum_below g n) + h p
      here more =
          let same : p ≡ n = omega arith in
          let rest = all_over n in
          rw same (omega arith)
