-- Wrong bodies of the bit sets and of the unique index set: for each a run that it makes, and what refuses that.
use Rattle.std.proofs.Common.{ℕ, true, List, [], ◌∷◌, ◌++◌, refl, ap, arith}
use Rattle.steps.specs.declared.indices.enums.ReleaseMode.TheVariants.{LockIfLastIndex}
use Rattle.steps.specs.declared.indices.enums.UniqueIndexSetAcquireFailure.TheVariants.{OutOfIndices}
use Rattle.model.specs.declared.event.Answer.TheVariants.{Done, Index, NoIndex, Truth}
use Rattle.model.specs.declared.event.Event.{Event}
use Rattle.model.specs.declared.event.Event.TheVariants as events
use Rattle.model.specs.declared.event.Event.TheVariants.{Begun, Counted, Claimed, Locked, Finished}
use Rattle.model.specs.declared.event.Start.{Start}
use Rattle.model.specs.declared.event.Start.TheVariants.{Bits, Indices}
use Rattle.model.specs.declared.families.bits.BitsStart.TheVariants.{Set, ResetAll}
use Rattle.model.specs.declared.families.indices.IndexStart.TheVariants.{Acquire, Release}
use Rattle.model.specs.Families.Bits.Promises.{IsBitSet, IsCountingSet, HasCleared, HasTaken}
use Rattle.model.specs.Families.Indices.Promises.{IsIndexSet}
use Rattle.model.specs.Families.Indices.Spans.{SetActs}
use Rattle.headline.specs.Headline.{BitsRun, IndicesRun}
use Rattle.wrong_runs.proofs.Bits.{bits, counts}
use Rattle.wrong_runs.proofs.HeadlineSets.{two}
use Rattle.wrong_runs.proofs.Indices.{set}
use Rattle.wrong_runs.proofs.Machines.{since_is}

-- ---- bits and counts

abbrev set_1 : Start ℕ
set_1 = Bits (Set 1)

abbrev reset_all : Start ℕ
reset_all = Bits ResetAll

-- A call has set bit 1, and another party begins to set it.
abbrev stands_already : List (Event ℕ)
stands_already = Begun 0 set_1 ∷ events.Set 0 1 ∷ Finished 0 set_1 (Truth true) ∷ Begun 1 set_1 ∷ []

-- A set that answers true for a bit that stands already is refused.
set_again_is_true : BitsRun (bits (0 ∷ 2 ∷ []) (stands_already ++ Finished 1 set_1 (Truth true) ∷ [])) → ⊥
set_again_is_true bits_run = cc (bits_run.set 1 1 stands_already ([], refl))

-- Bit 1 stands, and a reset of all has begun.
abbrev unreset : List (Event ℕ)
unreset = events.Set 0 1 ∷ Begun 1 reset_all ∷ []

-- A reset of all that ends and has not cleared the bit that stood is refused.
reset_all_does_nothing : IsBitSet (bits (0 ∷ 2 ∷ []) (unreset ++ Finished 1 reset_all Done ∷ [])) → ⊥
reset_all_does_nothing bit_set =
    let held = bit_set.answers unreset [] (Finished 1 reset_all Done) refl in
    let cleared = since_is 1 reset_all {P = HasCleared 2} (events.Set 0 1 ∷ []) [] tt held 1 (omega arith) refl in absurd (omega arith)

-- Place 1 counts 1, and a reset of all has begun.
abbrev untaken : List (Event ℕ)
untaken = Counted 0 1 ∷ Begun 1 reset_all ∷ []

-- A reset of all counts that ends and has taken nothing out of the place that counted is refused.
reset_all_takes_nothing : IsCountingSet (counts (0 ∷ 1 ∷ []) (untaken ++ Finished 1 reset_all Done ∷ [])) → ⊥
reset_all_takes_nothing counting_set =
    let held = counting_set.answers untaken [] (Finished 1 reset_all Done) refl in
    let taken = since_is 1 reset_all {P = HasTaken 2} (Counted 0 1 ∷ []) [] tt held 1 (omega arith) (omega arith) in absurd (omega arith)

-- ---- unique indices

abbrev acquire : Start ℕ
acquire = Indices Acquire

-- every acquire answers that no index is left
every_acquire_fails : IsIndexSet (set (0 ∷ 1 ∷ 2 ∷ 0 ∷ []) (Begun 0 acquire ∷ Finished 0 acquire (NoIndex OutOfIndices) ∷ [])) → ⊥
every_acquire_fails index_set =
    absurd (omega (arith, index_set.answers (Begun 0 acquire ∷ []) [] (Finished 0 acquire (NoIndex OutOfIndices)) refl))

-- an acquire answers what the free list proposes, and claims no flag
acquire_claims_without_flag : IndicesRun (set (0 ∷ 1 ∷ 2 ∷ 0 ∷ []) (Begun 0 acquire ∷ Finished 0 acquire (Index 0) ∷ [])) → ⊥
acquire_claims_without_flag indices_run =
    cc (ap (λ (d : SetActs). d.claimed) (indices_run.acquired 0 0 (Begun 0 acquire ∷ []) ([], refl)).0)

-- An acquire writes that it claims index 0, and the flag of the index stays clear, so that a
-- second one could claim it.
claims_by_word_alone : IsIndexSet (set (0 ∷ 1 ∷ 2 ∷ 0 ∷ []) (Begun 0 acquire ∷ Claimed 0 0 ∷ [])) → ⊥
claims_by_word_alone index_set = cc (index_set.flags 0 (omega arith))

-- what two acquires write down that both claim index 0
abbrev both_claim : List (Event ℕ)
both_claim =
    Begun 0 acquire
    ∷ Claimed 0 0
    ∷ Finished 0 acquire (Index 0)
    ∷ Begun 1 acquire
    ∷ Claimed 1 0
    ∷ Finished 1 acquire (Index 0)
    ∷ []

-- Two parties that hold index 0 are refused.
both_claim_it : IndicesRun (set (0 ∷ 1 ∷ 2 ∷ 1 ∷ []) both_claim) → ⊥
both_claim_it indices_run = two (1 ∷ 0 ∷ []) (indices_run.no_two_hold both_claim [] refl 0) refl

-- Party 0 holds index 0, and party 1 has claimed index 1.
abbrev neighbours : List (Event ℕ)
neighbours = Begun 0 acquire ∷ Claimed 0 0 ∷ Finished 0 acquire (Index 0) ∷ Begun 1 acquire ∷ Claimed 1 1 ∷ []

-- A claim of index 1 that clears the flag of index 0, which has a holder, is refused.
claim_clears_its_neighbours : IsIndexSet (set (0 ∷ 1 ∷ 2 ∷ 2 ∷ []) neighbours) → ⊥
claim_clears_its_neighbours index_set = cc (index_set.flags 0 (omega arith))

-- A release counts down, and locks, before it clears the flag of its index.
abbrev release : Start ℕ
release = Indices (Release 0 LockIfLastIndex)

-- The release of index 0 has locked the set, and has not freed the index.
abbrev locked_first : List (Event ℕ)
locked_first = Begun 0 acquire ∷ Claimed 0 0 ∷ Finished 0 acquire (Index 0) ∷ Begun 0 release ∷ Locked 0 ∷ []

-- A release that locks the set before it has freed its index is refused, since the index still has a holder.
release_counts_before_clearing : IndicesRun (set (0 ∷ 1 ∷ 2 ∷ 1 ∷ []) locked_first) → ⊥
release_counts_before_clearing indices_run = let none = indices_run.none_once_locked locked_first [] refl refl 0 in cc
