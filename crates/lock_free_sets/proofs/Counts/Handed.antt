-- What the closure of `reset_all` of a counting bit set was called with so far, and that it
-- is what the call wrote.
use Rattle.lock_free_sets.proofs.Names.{◌≡◌, ℕ, zero, suc, ◌+◌, ◌<◌, ◌^◌, List, [], ◌∷◌, ◌++◌, sym, refl, subst}
use Rattle.lock_free_sets.proofs.Names.{arith, map, append-nil, All, FoldsTo, nat_tests, FoldsTo-push, All-push}
use Rattle.lock_free_sets.proofs.Names.{All-weaker, all_pairs_push, BitState}
use Rattle.model.specs.Families.Bits.Steps.{take_events}
use Rattle.lock_free_sets.specs.Counts.Contracts.{taken_by}
use Rattle.lock_free_sets.specs.Counts.Callable.{CountsAscend, TakesCounts}

-- ---- places with their counts

-- the closure was called with these counts, which ascend and lie below the place `low`
pub record Counted {F : Type 0} (R : F → BitState → F → Type 0) (cap low : ℕ) (v p : F) : Type 0 where
  pub states : List BitState
  pub ascend : CountsAscend cap states
  pub below : All (λ (x : BitState). x.bit < low) states
  pub folds : FoldsTo R v states p

module _ {F : Type 0} (R : F → BitState → F → Type 0) (cap : ℕ) (v : F) where
  -- At first no count was handed out.
  pub none_counted : (low : ℕ) → Counted R cap low v v
  none_counted low = grind arith

  -- The list of the counts is empty then.
  pub none_states : (low : ℕ) → (none_counted low).states ≡ []
  unfolding none_counted
  none_states low = refl

  -- A place without a count leaves the counts that were handed out.
  pub counted_on : (low : ℕ) {p q : F} → q ≡ p → Counted R cap low v p → Counted R cap (low + 1) v q
  counted_on low {p} {q} q_is_p counted = grind arith

  -- with the count of the next place, which is above 0, the closure was called with the counts up
  -- to this place
  pub counted_more : (low count : ℕ) {p q : F} → low < cap → 0 < count → count < 2 ^ 64 → R p (record { bit = low; count = count }) q
      → Counted R cap low v p → Counted R cap (low + 1) v q
  counted_more low count {p} {q} within some small hit counted =
      let x : BitState = record { bit = low; count = count } in
      record {
        states = counted.states ++ x ∷ [];
        ascend = (
          all_pairs_push (λ (y z : BitState). y.bit < z.bit) counted.states x counted.ascend.0 counted.below,
          All-push (λ (y : BitState). (y.bit < cap) × (0 < y.count) × (y.count < 2 ^ 64)) counted.states x counted.ascend.1 (within, some, small),
        );
        below =
            All-push (λ (y : BitState). y.bit < low + 1) counted.states x
            (All-weaker (λ (y : BitState). y.bit < low) (λ (y : BitState). y.bit < low + 1) (λ y l. omega arith) counted.states counted.below)
            (omega arith);
        folds = FoldsTo-push R v counted.states p x q counted.folds hit;
      }

-- ---- what the call wrote is what the closure was called with

module _ {F : Type 0} (R : F → BitState → F → Type 0) (cap : ℕ) (v : F) where
  -- the count that a step found, where it is above 0
  abbrev pub found : ℕ → ℕ → List BitState
  found place zero = []
  found place (suc n) = record { bit = place; count = suc n } ∷ []

  -- The event for a count that was found is that of taking it out.
  pub found_events : (p place n : ℕ) → map (taken_by p) (found place n) ≡ take_events p place n
  found_events p place n = grind (arith, suc, nat_tests)

  -- with what was found at the next place, handed on if it is above 0, the closure was called with
  -- the counts up to this place
  pub counted_found : (low n : ℕ) {p q : F} → low < cap → n < 2 ^ 64 → (0 < n → R p (record { bit = low; count = n }) q)
      → (n ≡ 0 → q ≡ p) → (h : Counted R cap low v p)
      → (g : Counted R cap (low + 1) v q) × (g.states ≡ h.states ++ found low n)
  unfolding counted_on counted_more
  counted_found low zero {p} {q} within small hit miss h =
      let g = counted_on R cap v low (miss refl) h in
      (g, sym (append-nil h.states))
  counted_found low (suc n) {p} {q} within small hit miss h = (counted_more R cap v low (suc n) within (omega arith) small (hit (omega arith)) h, refl)

-- ---- the closure at an equal capacity

-- A closure that may be called with counts below a number may be so below an equal number.
pub takes_counts_at : {F : Type 0} {pre : F → BitState → Type 0} {step : F → BitState → F → Type 0} {a b : ℕ} {f : F}
    → a ≡ b → TakesCounts pre step a f → TakesCounts pre step b f
takes_counts_at {F} {pre} {step} {a} {b} {f} e takes_counts = subst (λ z. TakesCounts pre step z f) e takes_counts
