-- For each field of what `headline` says of bit sets, counting bit sets and the unique index set a run that this field
-- refuses here.
use Rattle.std.proofs.Common.{◌≡◌, ◌≤◌, ◌<◌, ℕ, zero, suc, true, List, [], ◌∷◌, ◌++◌, length, refl, ap, arith}
use Rattle.steps.specs.declared.indices.enums.ReleaseMode.TheVariants.{Default}
use Rattle.steps.specs.Bits.BitSet.{place_after, at_most}
use Rattle.model.specs.declared.event.Answer.TheVariants.{Index, Truth, Number, Reset}
use Rattle.model.specs.declared.event.Event.{Event}
use Rattle.model.specs.declared.event.Event.TheVariants as events
use Rattle.model.specs.declared.event.Event.TheVariants.{Begun, Cleared, Claimed, Freed, Locked, Finished}
use Rattle.model.specs.declared.event.Start.{Start}
use Rattle.model.specs.declared.event.Start.TheVariants.{Bits, Indices}
use Rattle.model.specs.declared.families.bits.BitsStart.TheVariants.{Set, ResetNext}
use Rattle.model.specs.declared.families.indices.IndexStart.TheVariants.{Acquire, Release}
use Rattle.model.specs.Families.Bits.Reading.{standing, position_of}
use Rattle.model.specs.Families.Indices.Spans.{SetActs}
use Rattle.model.specs.Moments.{HeldSometime}
use Rattle.headline.specs.Headline.{BitsRun, CountsRun, IndicesRun}
use Rattle.wrong_runs.proofs.Bits.{bits, counts}
use Rattle.wrong_runs.proofs.Indices.{set}
use Rattle.wrong_runs.proofs.Machines.{at_none_since}

-- ---- bits and counts

-- a bit stands that nobody has set
stands_unset : BitsRun (bits (0 ∷ 1 ∷ []) []) → ⊥
stands_unset bits_run = cc (bits_run.conserved 0)

-- a set answers true, and has set nothing
sets_nothing : BitsRun (bits (0 ∷ 0 ∷ []) (Begun 0 (Bits (Set 1)) ∷ Finished 0 (Bits (Set 1)) (Truth true) ∷ [])) → ⊥
sets_nothing bits_run = cc (bits_run.set 0 1 (Begun 0 (Bits (Set 1)) ∷ []) ([], refl))

-- a reset answers a bit, and has cleared nothing
clears_nothing : BitsRun (bits (0 ∷ 0 ∷ []) (Begun 0 (Bits ResetNext) ∷ Finished 0 (Bits ResetNext) (Reset 1) ∷ [])) → ⊥
clears_nothing bits_run = cc (bits_run.reset 0 1 (Begun 0 (Bits ResetNext) ∷ []) ([], refl))

-- a reset of the next one answers the second of two bits that stand, though the reset position is the first
abbrev skipping : List (Event ℕ)
skipping = events.Set 1 0 ∷ events.Set 1 1 ∷ Begun 0 (Bits ResetNext) ∷ Cleared 0 1 ∷ []

-- the position was 0 throughout, and the bit there was never clear
skips : (start passed : ℕ) → passed < 2 → place_after 2 start passed ≡ 1
    → HeldSometime 0 (λ part. at_most 2 (position_of part) ≡ start) skipping
    → ((k : ℕ) → k < passed → HeldSometime 0 (λ part. standing (place_after 2 start k) part ≡ 0) skipping)
    → ⊥
skips (suc start) passed within comes_to_bit begun clear =
    at_none_since 0 (Bits ResetNext) (λ part. at_most 2 (position_of part) ≡ suc start) (events.Set 1 0 ∷ events.Set 1 1 ∷ []) (Cleared 0 1 ∷ [])
    ((λ e. cc), (λ e. cc)) begun
skips zero zero within comes_to_bit begun clear = absurd (cc)
skips zero (suc zero) within comes_to_bit begun clear =
    at_none_since 0 (Bits ResetNext) (λ part. standing 0 part ≡ 0) (events.Set 1 0 ∷ events.Set 1 1 ∷ []) (Cleared 0 1 ∷ [])
    ((λ e. cc), (λ e. cc)) (clear 0 (omega arith))
skips zero (suc (suc passed)) within comes_to_bit begun clear = absurd (omega arith)

-- A reset of the next bit that passes over a bit that stood throughout is refused.
skips_a_bit : BitsRun (bits (0 ∷ 1 ∷ []) (skipping ++ Finished 0 (Bits ResetNext) (Reset 1) ∷ [])) → ⊥
skips_a_bit bits_run = let came = bits_run.reset_came 0 1 skipping ([], refl) in skips came.start came.passed came.within came.is came.begun came.clear

-- a place counts that nobody has counted
counts_uncounted : CountsRun (counts (1 ∷ 0 ∷ []) []) → ⊥
counts_uncounted counts_run = cc (counts_run.conserved 0)

-- a set answers a count, and has counted nothing
counts_nothing : CountsRun (counts (0 ∷ 0 ∷ []) (Begun 0 (Bits (Set 1)) ∷ Finished 0 (Bits (Set 1)) (Number 0) ∷ [])) → ⊥
counts_nothing counts_run = cc (counts_run.counted 0 1 0 (Begun 0 (Bits (Set 1)) ∷ []) ([], refl))

-- ---- unique indices

-- What `headline` says of a unique index set holds of these events.
abbrev indices : List (Event ℕ) → Type 0
indices events = IndicesRun (set (0 ∷ 1 ∷ 2 ∷ 0 ∷ []) events)

abbrev acquire : Start ℕ
acquire = Indices Acquire

abbrev release : ℕ → Start ℕ
release index = Indices (Release index Default)

-- A list of at most one holder does not have two.
pub two : (holders : List ℕ) → length holders ≤ 1 → length holders ≡ 2 → ⊥
two holders few are = absurd (omega arith)

-- an index is claimed by two
claimed_twice : indices (Claimed 0 0 ∷ Claimed 1 0 ∷ []) → ⊥
claimed_twice k = two (1 ∷ 0 ∷ []) (k.no_two_hold (Claimed 0 0 ∷ Claimed 1 0 ∷ []) [] refl 0) refl

-- The set is locked while somebody holds an index.
locked_over : indices (Claimed 0 0 ∷ Locked 1 ∷ []) → ⊥
locked_over k = let none = k.none_once_locked (Claimed 0 0 ∷ Locked 1 ∷ []) [] refl refl 0 in cc

-- An acquire answers an index that it has not claimed.
answered_unclaimed : indices (Begun 0 acquire ∷ Finished 0 acquire (Index 0) ∷ []) → ⊥
answered_unclaimed k = cc (ap (λ (d : SetActs). d.claimed) (k.acquired 0 0 (Begun 0 acquire ∷ []) ([], refl)).0)

-- An acquire answers an index that the set does not have.
answered_past : indices (Begun 0 acquire ∷ Claimed 0 5 ∷ Finished 0 acquire (Index 5) ∷ []) → ⊥
answered_past k = absurd (omega (arith, (k.acquired 0 5 (Begun 0 acquire ∷ Claimed 0 5 ∷ []) ([], refl)).1))

-- An index is freed that nobody holds.
freed_unheld : indices (Freed 0 0 ∷ []) → ⊥
freed_unheld k = cc ((k.freed 0 0 [] ([], refl)).0)

-- Party 1 holds index 0, and party 0 has begun a release of it.
abbrev of_another : List (Event ℕ)
of_another = Claimed 1 0 ∷ Begun 0 (release 0) ∷ []

-- An index is freed that another party holds.
freed_of_another : indices (of_another ++ Freed 0 0 ∷ []) → ⊥
freed_of_another k = cc ((k.freed 0 0 of_another ([], refl)).0)

-- An index is freed by an acquire.
freed_by_acquire : indices (Begun 0 acquire ∷ Claimed 0 0 ∷ Freed 0 0 ∷ []) → ⊥
freed_by_acquire k = (k.freed 0 0 (Begun 0 acquire ∷ Claimed 0 0 ∷ []) ([], refl)).1

-- Party 0 holds two indices, and has begun a release of index 1.
abbrev wrong_release : List (Event ℕ)
wrong_release = Claimed 0 0 ∷ Claimed 0 1 ∷ Begun 0 (release 1) ∷ []

-- Index 0 is freed by a release of index 1.
freed_by_wrong_release : indices (wrong_release ++ Freed 0 0 ∷ []) → ⊥
freed_by_wrong_release k = cc ((k.freed 0 0 wrong_release ([], refl)).1)
