-- For clients: what becomes of a closure after the calls that a call made of it. `name` is what stays
-- the same in each of its calls, and `number` what each call adds to.
use Rattle.lock_free_sets.proofs.Names.{◌≡◌, ℕ, zero, suc, ◌+◌, ◌-◌, ◌<◌, ◌≤◌, ⊎_elim, List, [], ◌∷◌, length, sym, ap, ◌∙◌, arith}
use Rattle.lock_free_sets.proofs.Names.{All, FoldsTo, cases_lt, sum_by-cons}
use Rattle.std.proofs.Common.{get_or}
use Rattle.std.specs.List.{AllPairs, sum_by}

module _ {F X A : Type 0} (step : F → X → F → Type 0) (name : F → A) (number : F → ℕ) where
  -- If each call adds an amount to the closure's number, the calls together add the sum of the amounts.
  pub added : (amount : X → ℕ)
      → ((p : F) (x : X) (q : F) → step p x q → (name q ≡ name p) × (number q ≡ number p + amount x))
      → (first : F) (xs : List X) (last : F) → FoldsTo step first xs last
      → (name last ≡ name first) × (number last ≡ number first + sum_by amount xs)
  added amount one first [] last h = (sym (ap name h), (let same = ap number h in omega arith))
  added amount one first (x ∷ xs) last h =
      let here = one first x h.0 h.1 in
      let rest = added amount one h.0 xs last h.2 in
      let a = here.1 in
      let b = rest.1 in
      let all = sum_by-cons amount x xs in
      (rest.0 ∙ here.0, omega arith)

  -- If each call of the closure adds one to its number, the last number is the first and
  -- the count of the calls.
  pub counted : ((p : F) (x : X) (q : F) → step p x q → (name q ≡ name p) × (number q ≡ number p + 1))
      → (first : F) (xs : List X) (last : F) → FoldsTo step first xs last
      → (name last ≡ name first) × (number last ≡ number first + length xs)
  counted one first [] last h = (sym (ap name h), (let same = ap number h in omega arith))
  counted one first (x ∷ xs) last h =
      let here = one first x h.0 h.1 in
      let rest = counted one h.0 xs last h.2 in
      let a = here.1 in
      let b = rest.1 in
      (rest.0 ∙ here.0, omega arith)

-- what ascends below a number is no more than that
module _ {X : Type 0} (place : X → ℕ) (default : X) where
  -- the places of these items ascend
  abbrev Up : List X → Type 0
  Up xs = AllPairs (λ x y. place x < place y) xs

  -- in a list of places that ascend, the place behind k others is at least k
  from_first : (xs : List X) → Up xs → (k : ℕ) → k < length xs → k ≤ place (get_or xs k default)
  from_first xs up zero within = omega arith
  from_first xs up (suc k) within =
      let less = up k (suc k) default (omega arith) within in
      let low = from_first xs up k (omega arith) in
      omega arith

  -- Items whose places ascend below a number are at most as many as this number.
  pub few_below : (xs : List X) (end : ℕ) → Up xs → All (λ x. place x < end) xs → length xs ≤ end
  few_below xs end up below = ⊎_elim some (λ none. omega arith) (cases_lt 0 (length xs))
    where
      -- a list with a place, whose places ascend below a number, is no longer than this number
      some : 0 < length xs → length xs ≤ end
      some any =
          let k = length xs - 1 in
          let low = from_first xs up k (omega arith) in
          let under = below k default (omega arith) in
          omega arith
