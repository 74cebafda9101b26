-- What follows from how many indices below a bound are chosen.
use Rattle.std.proofs.Common.{◌≡◌, ◌<◌, ◌≤◌, ℕ, zero, suc, ◌+◌, Bool, true, false, if◌then◌else◌, refl, arith}
use Rattle.model.specs.Families.Indices.Robust.Promises.{count_below}

sum_is : (n m : ℕ) → 0 + n ≡ m → n ≡ m
sum_is n m sum = omega arith

not_more : (n : ℕ) → 1 + n ≡ 0 → ⊥
not_more n sum = absurd (omega arith)

-- where one more below the bound is chosen than none, the last is chosen or one before it
none_step : (chosen : ℕ → Bool) (bound number : ℕ) (b : Bool) → chosen bound ≡ b → (if b then 1 else 0) + count_below chosen bound ≡ suc number
    → (chosen bound ≡ true → ⊥)
    → (count_below chosen bound ≡ suc number → ⊥)
    → ⊥
none_step chosen bound number true chosen_is counted_is none fewer = none chosen_is
none_step chosen bound number false chosen_is counted_is none fewer = fewer (sum_is (count_below chosen bound) (suc number) counted_is)

-- where the count of the chosen indices below a bound is not zero, not every index below it is left out
pub none_counted : (chosen : ℕ → Bool) (bound number : ℕ) → count_below chosen bound ≡ suc number
    → ((index : ℕ) → index < bound → chosen index ≡ true → ⊥)
    → ⊥
none_counted chosen zero number counted_is none = cc
none_counted chosen (suc bound) number counted_is none =
    none_step chosen bound number (chosen bound) refl counted_is (none bound (omega arith))
    (λ fewer. none_counted chosen bound number fewer (λ index below one. none index (omega arith) one))

-- One index more below the bound adds at most one to the count.
one_at_most : (b : Bool) (n bound : ℕ) → n ≤ bound → (if b then 1 else 0) + n ≤ suc bound
one_at_most true n bound at_most = omega arith
one_at_most false n bound at_most = omega arith

-- At most as many indices below the bound are chosen as the bound says.
pub counted_below : (chosen : ℕ → Bool) (bound : ℕ) → count_below chosen bound ≤ bound
counted_below chosen zero = omega arith
counted_below chosen (suc bound) = one_at_most (chosen bound) (count_below chosen bound) bound (counted_below chosen bound)

-- At most two indices are below the bound, so three are not counted.
pub past_bound : (bound number : ℕ) → bound ≤ 2 → number ≤ bound → number ≡ 3 → ⊥
past_bound bound number within below number_is = absurd (omega arith)

-- If index 0 is chosen, then of one index one is chosen, so the count is not 0.
pub one_of_one : (chosen : ℕ → Bool) → chosen 0 ≡ true → count_below chosen 1 ≡ 0 → ⊥
one_of_one chosen one none = not_more 0 (rw one at none)

-- The cases are whether the second index is chosen.
two_step : (chosen : ℕ → Bool) (b : Bool) → chosen 0 ≡ true → (if b then 1 else 0) + count_below chosen 1 ≡ 0 → ⊥
two_step chosen true one none = not_more (count_below chosen 1) none
two_step chosen false one none = one_of_one chosen one (sum_is (count_below chosen 1) 0 none)

-- If index 0 is chosen, then of two indices at least one is chosen, so the count is not 0.
pub one_of_two : (chosen : ℕ → Bool) → chosen 0 ≡ true → count_below chosen 2 ≡ 0 → ⊥
one_of_two chosen one none = two_step chosen (chosen 1) one none
