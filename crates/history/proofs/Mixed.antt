-- Lists of words in which the first are those of another list.
use Rattle.history.proofs.Names.{◌≡◌, ℕ, zero, suc, ◌<◌, ◌≤◌, List, [], ◌∷◌, ◌++◌, length, set, get_or, drop, refl, ap, arith}
use Rattle.std.proofs.Common.{take}

-- a list in which the first `at` words are those of ws, and the rest those of xs
abbrev pub mix : ℕ → List ℕ → List ℕ → List ℕ
mix at ws xs = take at ws ++ drop at xs

-- with one word more of ws set, the mixed list has one word more of ws
pub mix_step : (at : ℕ) (ws xs : List ℕ) → at < length ws → at < length xs → set (mix at ws xs) at (get_or ws at 0) ≡ mix (suc at) ws xs
mix_step at [] xs first_at_below second_at_below = absurd (omega arith)
mix_step at (w ∷ ws) [] first_at_below second_at_below = absurd (omega arith)
mix_step zero (w ∷ ws) (x ∷ xs) first_at_below second_at_below = refl
mix_step (suc at) (w ∷ ws) (x ∷ xs) first_at_below second_at_below = ap (λ zs. w ∷ zs) (mix_step at ws xs (omega arith) (omega arith))

-- the mixed list is as long as xs
pub mix_length : (at : ℕ) (ws xs : List ℕ) → at ≤ length ws → at ≤ length xs → length (mix at ws xs) ≡ length xs
mix_length zero ws xs first_at_most second_at_most = refl
mix_length (suc at) [] xs first_at_most second_at_most = absurd (omega arith)
mix_length (suc at) (w ∷ ws) [] first_at_most second_at_most = absurd (omega arith)
mix_length (suc at) (w ∷ ws) (x ∷ xs) first_at_most second_at_most = ap suc (mix_length at ws xs (omega arith) (omega arith))

-- with all words of ws put over xs, the list is ws
pub mix_all : (n : ℕ) (ws xs : List ℕ) → length ws ≡ n → length xs ≡ n → mix n ws xs ≡ ws
mix_all zero [] [] first_length_is second_length_is = refl
mix_all zero (w ∷ ws) xs first_length_is second_length_is = absurd (omega arith)
mix_all zero [] (x ∷ xs) first_length_is second_length_is = absurd (omega arith)
mix_all (suc n) [] xs first_length_is second_length_is = absurd (omega arith)
mix_all (suc n) (w ∷ ws) [] first_length_is second_length_is = absurd (omega arith)
mix_all (suc n) (w ∷ ws) (x ∷ xs) first_length_is second_length_is = ap (λ zs. w ∷ zs) (mix_all n ws xs (omega arith) (omega arith))
