-- How many places a reset has cleared, and how much one has taken out.
use Rattle.std.proofs.Common.{◌≡◌, ℕ, ◌+◌, ◌*◌, ◌^◌, ◌<◌, ◌≤◌, List, [], ◌∷◌, map, length, All, refl, arith}
use Rattle.std.proofs.lemmas.List.Elements.{All-head, All-tail}
use Rattle.std.proofs.lemmas.List.Sums.{sum_by-cons}
use Rattle.std.specs.List.{sum_by}
use Rattle.steps.specs.declared.bits.counting_bit_set.BitState.{BitState}
use Rattle.model.specs.declared.event.Answer.TheVariants.{Done}
use Rattle.model.specs.declared.event.Start.TheVariants.{Bits}
use Rattle.model.specs.declared.families.bits.BitsStart.TheVariants.{ResetAll}
use Rattle.lock_free.specs.Bits.Contracts.{HasCleanedOut, cleared_by}
use Rattle.lock_free.specs.Counts.Contracts.{HasTakenOut, taken_by}
use Rattle.lock_free.specs.HistoryView.View.{View}
use Rattle.lock_free.proofs.Sums.{sum_made}
use Rattle.uses_laws.specs.Sums.{clear, cleared, taken_out, taken}

-- a reset that clears these places clears as many as the list is long
clears : (p : ℕ) (places : List ℕ) → cleared (map (cleared_by p) places) ≡ length places
clears p [] = refl
clears p (x ∷ places) = omega (arith, sum_by-cons clear (cleared_by p x) (map (cleared_by p) places), clears p places)

-- a reset that takes these counts out takes out their sum
takes : (p : ℕ) (states : List BitState) → taken (map (taken_by p) states) ≡ sum_by (λ (s : BitState). s.count) states
takes p [] = refl
takes p (s ∷ states) =
    omega (arith, sum_by-cons taken_out (taken_by p s) (map (taken_by p) states), sum_by-cons (λ (z : BitState). z.count) s states, takes p states)

module _ {F : Type 0} (old new : View ℕ) where
  -- a reset adds to what its pass has cleared as many as it visits
  pub clears_more : (step : F → ℕ → F → Type 0) (capacity : ℕ) (visit visited : F)
      → (h : HasCleanedOut step capacity visit visited old new) → cleared new.made ≡ cleared old.made + length h.places
  clears_more step capacity visit visited h =
      omega (arith, sum_made clear h.made.by (Bits ResetAll) Done (map (cleared_by h.made.by) h.places) old new h.made.called, clears h.made.by h.places)

  -- a reset adds to what its pass has taken out the counts that it hands out
  pub takes_more : (step : F → BitState → F → Type 0) (capacity : ℕ) (visit visited : F)
      → (h : HasTakenOut step capacity visit visited old new)
      → taken new.made ≡ taken old.made + sum_by (λ (s : BitState). s.count) h.states
  takes_more step capacity visit visited h =
      omega (arith, sum_made taken_out h.made.by (Bits ResetAll) Done (map (taken_by h.made.by) h.states) old new h.made.called, takes h.made.by h.states)

-- counts of less than 2^64 each sum to no more than 2^64 times their number
pub counts_below : (capacity : ℕ) (states : List BitState)
    → All (λ (s : BitState). (s.bit < capacity) × (0 < s.count) × (s.count < 2 ^ 64)) states
    → sum_by (λ (s : BitState). s.count) states ≤ 2 ^ 64 * length states
counts_below capacity [] all = omega arith
counts_below capacity (s ∷ states) all =
    let rest =
    counts_below capacity states (All-tail (λ (z : BitState). (z.bit < capacity) × (0 < z.count) × (z.count < 2 ^ 64)) s states all) in
    omega (
      arith,
      (All-head (λ (z : BitState). (z.bit < capacity) × (0 < z.count) × (z.count < 2 ^ 64)) s states all).2,
      sum_by-cons (λ (z : BitState). z.count) s states,
    )
