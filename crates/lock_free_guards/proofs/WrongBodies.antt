-- What a wrong body of a call of this crate would leave or answer, and the clause that refuses it. A
-- name says what the body does.
use Rattle.std.proofs.Common.{◌≡◌, ◌≢◌, ℕ, ◌+◌, ◌-◌, ◌*◌, ◌<◌, ◌==◌, true, false, Ok, Err, Option, Some, List, [], ◌∷◌, ◌++◌, length, flat_map}
use Rattle.std.proofs.Common.{refl, sym, ap, ◌∙◌, arith, length-append, true≢false}
use Rattle.std.proofs.lemmas.Bool.Decides.{nat_tests}
use Rattle.std.proofs.lemmas.List.{append_cancel_left, same_from_push}
use Rattle.steps.specs.Indices.Robust.Release.{Released}
use Rattle.steps.specs.declared.indices.enums.ReleaseMode.{ReleaseMode}
use Rattle.steps.specs.declared.indices.enums.ReleaseState.{ReleaseState}
use Rattle.steps.specs.declared.indices.enums.ReleaseState.TheVariants as states
use Rattle.steps.specs.declared.indices.enums.RobustUniqueIndexSetReleaseError.{RobustUniqueIndexSetReleaseError}
use Rattle.steps.specs.declared.indices.enums.UniqueIndexSetAcquireFailure.TheVariants.{IsLocked, OutOfIndices}
use Rattle.steps.specs.declared.indices.robust.release.GiveBack.{GiveBack}
use Rattle.model.specs.declared.event.Answer.{Answer}
use Rattle.model.specs.declared.event.Event.{Event}
use Rattle.model.specs.declared.event.Event.TheVariants.{Begun, Finished}
use Rattle.model.specs.declared.event.Start.{Start}
use Rattle.model.specs.declared.event.Start.TheVariants.{Indices, Robust}
use Rattle.model.specs.declared.families.indices.IndexStart.TheVariants.{Acquire}
use Rattle.model.specs.declared.families.indices.robust.RobustStart.TheVariants as robust
use Rattle.model.specs.Families.Indices.Reading.{is_locked}
use Rattle.model.specs.Families.Indices.Robust.Promises.{HeldThroughout, StillToFree}
use Rattle.model.specs.Families.Indices.Robust.Reading.{Yes, filled_of, set_acts_of, IsOneOf}
use Rattle.laws_robust.specs.Gone.{IsHonest}
use Rattle.history.specs.History.{Called}
use Rattle.history.specs.Passes.{HasSplit}
use Rattle.history_owners.specs.Robust.{visit, HasFreed}
use Rattle.history.specs.declared.view.View.{View}
use Rattle.lock_free_owners.specs.Robust.Contracts.{HasGiven}
use Rattle.lock_free_sets.specs.Unique.Contracts as unique
use Rattle.lock_free_sets.specs.Unique.Held.{one_if, HeldBy}
use Rattle.lock_free_sets.proofs.Unique.Holding.{times_both, times_one}
use Rattle.lock_free_guards.specs.Acquired.{HasAcquired, HasFailed}
use Rattle.lock_free_guards.specs.Held.{HoldsFor, number_freed}
use Rattle.lock_free_guards.specs.Recovered.{IsToldFor, HasRecoveredOwner, IsRightOwnerRecovery}
use Rattle.lock_free_guards.specs.Cuts.{AreCut}
use Rattle.lock_free_guards.specs.Tries.{refused_by, EndsTries, EndsSometime, EndsWithin, EndsAtLimit}
use Rattle.lock_free_guards.specs.Unique.{HoldsMore, HoldsTheSame}
use Rattle.lock_free_guards.proofs.Trying.{unlocked_before}

-- The call c of party p leads from v to w.
module _ {p : ℕ} {start : Start ℕ} {one : Answer ℕ} {wrote : List (Event ℕ)} {v w : View ℕ} (c : Called p start one wrote v w) where
  -- a call adds its begin, its end and what it wrote to what the pass made
  makes : length w.made ≡ length v.made + (2 + length wrote)
  makes =
      omega (
        arith,
        length-append v.made (Begun p start ∷ (wrote ++ Finished p start one ∷ [])),
        length-append wrote (Finished p start one ∷ []),
        ap length c.made,
      )

  -- a pass that made nothing made no call
  no_call : w.made ≡ v.made → ⊥
  no_call none = (absurd (omega (arith, makes, ap length none)))

  -- two calls that lead from v to w have one party, one start and one answer
  one_answer : {q : ℕ} {other : Answer ℕ} {written : List (Event ℕ)} → Called q start other written v w → Finished p start one ≡ Finished q start other
  one_answer {q} {other} {written} d =
      let same_end = append_cancel_left v.made _ _ (sym c.made ∙ d.made) in
      let rest : wrote ++ Finished p start one ∷ [] ≡ written ++ Finished q start other ∷ [] = cc in
      (same_from_push _ _ _ _ rest).1

-- ---- `acquire` for an owner

module _ (owner : ℕ) (v w : View ℕ) where
  -- the guard is of another index than the one that was granted, which clause `acquired` refuses
  pub acquire_guards_another_index : (index other : ℕ) → other ≢ index → HasAcquired owner index v w → HasAcquired owner other v w → ⊥
  acquire_guards_another_index index other apart right wrong =
      let e = one_answer right.taken.called wrong.taken.called in
      let same : other ≡ index = cc in
      apart same

  -- the guard is for another owner than the one for whom the index was granted, which
  -- clause `acquired` refuses
  pub acquire_guards_for_another : (index other : ℕ) → other ≢ owner → HasAcquired owner index v w → HoldsFor other index w.made → ⊥
  acquire_guards_for_another index other apart right wrong =
      let e : ◌≡◌ {A = Option ℕ} (Some other) (Some owner) = sym wrong ∙ right.holds in
      let same : other ≡ owner = cc in
      apart same

  -- the body makes a guard without a call, which clause `acquired` refuses
  pub acquire_calls_nothing : (index : ℕ) → w.made ≡ v.made → HasAcquired owner index v w → ⊥
  acquire_calls_nothing index none wrong = no_call wrong.taken.called none

  -- the body answers `OutOfIndices` where the lock was seen, which clause `failed` refuses
  pub acquire_says_full_of_a_locked_set : is_locked v.seen ≡ true → HasFailed owner OutOfIndices v w → ⊥
  acquire_says_full_of_a_locked_set shut wrong = true≢false (sym shut ∙ wrong.refused.unlocked refl)

  -- the body answers `IsLocked` of a set that is not locked, which clause `failed` refuses
  pub acquire_says_locked_of_an_open_set : is_locked w.seen ≡ false → HasFailed owner IsLocked v w → ⊥
  acquire_says_locked_of_an_open_set free wrong = true≢false (sym (wrong.refused.locked refl) ∙ free)

-- ---- `release`

module _ (given : GiveBack) (v w : View ℕ) where
  -- the body makes no call, which clauses `released` and `refused` refuse
  pub release_does_nothing : (answer : Released) → w.made ≡ v.made → HasGiven given answer v w → ⊥
  release_does_nothing answer none wrong = no_call wrong.called none

  -- the body gives the index back, and answers that it is another owner's, which clause `refused` refuses
  pub release_denies_what_it_did : (state : ReleaseState) (failure : RobustUniqueIndexSetReleaseError) → HasGiven given (Ok state) v w
      → HasGiven given (Err failure) v w → ⊥
  release_denies_what_it_did state failure right wrong =
      let e = one_answer right.called wrong.called in
      absurd (cc)

-- ---- `recover_owner`

module _ (owner : ℕ) (v w : View ℕ) where
  -- the body frees an index of another owner, which clause `others` refuses
  pub recover_owner_frees_anothers : (other number : ℕ) → 0 < number → number_freed other w.made ≡ number_freed other v.made + number
      → number_freed other w.made ≡ number_freed other v.made → ⊥
  recover_owner_frees_anothers other number some right wrong = absurd (omega arith)

  -- the body counts each index that it came to, also those of other owners, which clause `counted` refuses
  pub recover_owner_counts_all : (his others : ℕ) → 0 < others → number_freed owner w.made ≡ number_freed owner v.made + his
      → number_freed owner w.made ≡ number_freed owner v.made + (his + others) → ⊥
  recover_owner_counts_all his others some right wrong = absurd (omega arith)

  -- the body counts no index, which clause `counted` refuses if it has freed one
  pub recover_owner_counts_none : (his : ℕ) → 0 < his → number_freed owner w.made ≡ number_freed owner v.made + his
      → number_freed owner w.made ≡ number_freed owner v.made + 0 → ⊥
  recover_owner_counts_none his some right wrong = absurd (omega arith)

-- the body says yes about each index that it comes to, which clause `recovered` refuses if one is
-- another owner's
pub recover_owner_says_yes_of_all : (owner index other : ℕ) → other ≢ owner → IsToldFor owner (visit index other HasFreed) → ⊥
recover_owner_says_yes_of_all owner index other apart told =
    let tests_apart : (other == owner) ≡ false = grind (arith, nat_tests) in
    true≢false (told ∙ tests_apart)

module _ (owner : ℕ) (mode : ReleaseMode) (state : ReleaseState) (v w : View ℕ) (wrong : HasRecoveredOwner owner mode state v w) where
  -- the body makes no call, which clause `recovered` refuses
  pub recover_owner_does_nothing : w.made ≡ v.made → ⊥
  recover_owner_does_nothing none = no_call wrong.called none

  -- the body comes to an index of a set that was seen locked, which clause `recovered` refuses
  pub recover_owner_goes_on_at_a_lock : is_locked v.seen ≡ true → wrong.visits ≢ [] → ⊥
  recover_owner_goes_on_at_a_lock shut some = some (wrong.nothing shut)

module _ (owner : ℕ) (mode : ReleaseMode) (v w : View ℕ) where
  -- the body leaves the owner an index that was his through the call, which clause `answered` refuses
  pub recover_owner_leaves_one : (index : ℕ) (wrong : IsRightOwnerRecovery owner mode states.Unlocked v w) → IsHonest wrong.before
      → HeldThroughout wrong.by (StillToFree wrong.by owner index) wrong.before → filled_of index wrong.before ≡ Some owner → ⊥
  recover_owner_leaves_one index wrong honest his still = wrong.right.1.gone honest index his still

  -- the body says no about an index that was the owner's through the call, which clause `answered` refuses
  pub recover_owner_says_no : (index : ℕ) (wrong : IsRightOwnerRecovery owner mode states.Unlocked v w)
      → HeldThroughout wrong.by (StillToFree wrong.by owner index) wrong.before
      → (IsOneOf (Yes index owner) (set_acts_of wrong.by wrong.before) → ⊥) → ⊥
  recover_owner_says_no index wrong his none = none (wrong.right.1.told index his)

  -- the body answers `Unlocked` of a locked set, which clause `answered` refuses
  pub recover_owner_says_unlocked : (wrong : IsRightOwnerRecovery owner mode states.Unlocked v w) → is_locked wrong.before ≡ true → ⊥
  recover_owner_says_unlocked wrong shut = true≢false (sym shut ∙ wrong.right.0)

  -- the body answers `Locked` of a set that is not locked, which clause `answered` refuses
  pub recover_owner_says_locked : (wrong : IsRightOwnerRecovery owner mode states.Locked v w) → is_locked wrong.before ≡ false → ⊥
  recover_owner_says_locked wrong free = true≢false (sym wrong.right ∙ free)

-- ---- acquires that wait

-- a try that found no index left is two events, its begin and its end
two_each : (start : Start ℕ) (ps : List ℕ) → length (flat_map (refused_by start) ps) ≡ 2 * length ps
two_each start [] = refl
two_each start (p ∷ ps) = omega (arith, two_each start ps)

-- how many events n tries that found none left, and a last one that finds none either, add
-- to what the pass made
ends_long : (n : ℕ) (u w : View ℕ) → EndsTries n (Indices Acquire) (unique.WasRefused OutOfIndices) u w → length w.made ≡ length u.made + 2 * (n + 1)
ends_long n u w ends_tries =
    let last = makes ends_tries.last.taken.called in
    omega (
      arith,
      ap length ends_tries.tried.made,
      length-append u.made (flat_map (refused_by (Indices Acquire)) ends_tries.tried.parties),
      two_each (Indices Acquire) ends_tries.tried.parties,
      ends_tries.tried.so_many,
    )

module _ (u w : View ℕ) where
  -- the body gives up before the limit, which clause `limit` refuses
  pub acquire_gives_up_early : (tries number : ℕ) → number < tries - 1 → EndsTries number (Indices Acquire) (unique.WasRefused OutOfIndices) u w
      → EndsAtLimit (Indices Acquire) (unique.WasRefused OutOfIndices) tries u w → ⊥
  acquire_gives_up_early tries number early right wrong =
      absurd (omega (arith, ends_long number u w right, ends_long (tries - 1) u w wrong))

  -- the body finds no index left in a set that was seen locked, which no tries can
  pub acquire_waits_at_a_lock : (n : ℕ) → is_locked u.seen ≡ true → EndsTries n (Indices Acquire) (unique.WasRefused OutOfIndices) u w → ⊥
  acquire_waits_at_a_lock n shut wrong =
      true≢false (sym shut ∙ unlocked_before (Indices Acquire) n u wrong.begun wrong.tried (wrong.last.unlocked refl))

-- how many events n tries that found none left, and a last one that gets an index, add to what the pass made
acquires_long : (owner index n : ℕ) (u w : View ℕ) → EndsTries n (Robust (robust.Acquire owner)) (HasAcquired owner index) u w
    → length w.made ≡ length u.made + 2 * (n + 2)
acquires_long owner index n u w ends_tries =
    let last = makes ends_tries.last.taken.called in
    let two = ap length ends_tries.last.taken.tells.1 in
    omega (
      arith,
      ap length ends_tries.tried.made,
      length-append u.made (flat_map (refused_by (Robust (robust.Acquire owner))) ends_tries.tried.parties),
      two_each (Robust (robust.Acquire owner)) ends_tries.tried.parties,
      ends_tries.tried.so_many,
    )

module _ (owner index : ℕ) (u w : View ℕ) where
  -- the body waits and makes no call, which clause `acquired` refuses
  pub acquire_waits_without_a_call : w.made ≡ u.made → EndsSometime (Robust (robust.Acquire owner)) (HasAcquired owner index) u w → ⊥
  acquire_waits_without_a_call none wrong = absurd (omega (arith, acquires_long owner index wrong.0 u w wrong.1, ap length none))

  -- the body goes on past the limit, which clause `acquired` refuses
  pub acquire_tries_too_often : (tries number : ℕ) → tries - 1 < number
      → EndsTries number (Robust (robust.Acquire owner)) (HasAcquired owner index) u w
      → EndsWithin (Robust (robust.Acquire owner)) (HasAcquired owner index) tries u w → ⊥
  acquire_tries_too_often tries number late right wrong =
      absurd (omega (arith, acquires_long owner index number u w right, acquires_long owner index wrong.0 u w wrong.2, wrong.1))

-- the pass does not hold the index that the body took, which clause `held` refuses
pub acquire_holds_no_more : (index : ℕ) (is : List ℕ) (made : List (Event ℕ)) → HeldBy is made → HoldsMore index made made → ⊥
acquire_holds_no_more index is made held wrong =
    let was = held index in
    let now = wrong is held index in
    let both = times_both index is (index ∷ []) in
    let one = times_one index index in
    let tests_same : (index == index) ≡ true = grind (arith, nat_tests) in
    let counted : one_if index index ≡ 1 = rw tests_same refl in
    absurd (omega arith)

-- the pass holds an index more though the body found none, which clause `kept` refuses
pub acquire_holds_one_it_was_refused : (index : ℕ) (is : List ℕ) (old new : List (Event ℕ)) → HeldBy is old → HeldBy (is ++ index ∷ []) new
    → HoldsTheSame old new → ⊥
acquire_holds_one_it_was_refused index is old new held more wrong =
    let was = wrong is held index in
    let now = more index in
    let both = times_both index is (index ∷ []) in
    let one = times_one index index in
    let tests_same : (index == index) ≡ true = grind (arith, nat_tests) in
    let counted : one_if index index ≡ 1 = rw tests_same refl in
    absurd (omega arith)

-- ---- `split_many`

-- the body makes a further pass without a split, which the clause refuses
pub split_many_splits_none : (v w : View ℕ) → AreCut HasSplit (w ∷ []) v v → ⊥
split_many_splits_none v w cut = absurd (omega (arith, cut.1.asked, ap (λ (u : View ℕ). u.asked) cut.2))

-- each pass that is split off costs one operation
splits_many : (halves : List (View ℕ)) (v w : View ℕ) → AreCut HasSplit halves v w → w.asked ≡ v.asked + length halves
splits_many [] v w cut = omega (arith, ap (λ (u : View ℕ). u.asked) cut)
splits_many (half ∷ halves) v w cut = omega (arith, cut.1.asked, splits_many halves cut.0 w cut.2)

-- the body gives more passes than it splits off, which the clause refuses
pub split_many_gives_more_than_it_splits : (halves : List (View ℕ)) (v w : View ℕ) → w.asked < v.asked + length halves
    → AreCut HasSplit halves v w → ⊥
split_many_gives_more_than_it_splits halves v w few cut = (absurd (omega (arith, splits_many halves v w cut)))
