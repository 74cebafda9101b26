-- The indices that a find of a robust set visits ascend.
use Rattle.lock_free_owners.proofs.Names.{ℕ, ◌+◌, ◌<◌, List, [], ◌∷◌, ◌++◌, arith, All, All-push, All-weaker}
use Rattle.lock_free_owners.proofs.Names.{all_pairs_push, Ascends}

-- A list of indices that ascends still ascends with a higher index behind it.
pub ascend_push : (cap : ℕ) (xs : List ℕ) (x : ℕ) → Ascends cap xs → All (λ y. y < x) xs → x < cap → Ascends cap (xs ++ x ∷ [])
ascend_push cap xs x h below within = (all_pairs_push (λ y z. y < z) xs x h.0 below, All-push (λ y. y < cap) xs x h.1 within)

-- Indices below x, and x itself, are below x + 1.
pub below_push : (xs : List ℕ) (x : ℕ) → All (λ y. y < x) xs → All (λ y. y < x + 1) (xs ++ x ∷ [])
below_push xs x below = All-push (λ y. y < x + 1) xs x (All-weaker (λ y. y < x) (λ y. y < x + 1) (λ y l. omega arith) xs below) (omega arith)

-- Indices below x are below x + 1.
pub below_more : (xs : List ℕ) (x : ℕ) → All (λ y. y < x) xs → All (λ y. y < x + 1) xs
below_more xs x all = grind arith
