-- The visits of a recovery that is told to free the indices of one owner alone: what its closures said and counted, and what
-- it freed.
use Rattle.std.proofs.Common.{◌≡◌, ◌≢◌, ℕ, ◌+◌, ◌==◌, Bool, true, false, List, [], ◌∷◌, length, sum_by, if◌then◌else◌}
use Rattle.std.proofs.Common.{refl, ap, ◌∙◌, arith}
use Rattle.std.specs.List.{All, FoldsTo}
use Rattle.std.proofs.lemmas.Bool.Decides.{nat_tests}
use Rattle.std.proofs.lemmas.List.Elements.{All-nil, All-cons, All-head, All-tail}
use Rattle.std.proofs.lemmas.List.Sums.{sum_by-append}
use Rattle.steps.specs.declared.indices.enums.ReleaseMode.{ReleaseMode}
use Rattle.steps.specs.declared.indices.enums.ReleaseState.{ReleaseState}
use Rattle.model.specs.declared.event.Answer.TheVariants.{State}
use Rattle.model.specs.declared.event.Start.TheVariants.{Robust}
use Rattle.model.specs.declared.families.indices.robust.RobustStart.TheVariants.{Recover}
use Rattle.history_owners.specs.Robust.{Came, Visit, visit, wrote_to, wrote_of, wrote_by}
use Rattle.history.specs.declared.view.View.{View}
use Rattle.lock_free_owners.specs.Robust.Callable.{asks, freed_of, questions_of, was_freed, was_told}
use Rattle.lock_free_owners.specs.Robust.Contracts.{HasRecovered}
use Rattle.lock_free_sets.proofs.Sums.{sum_made}
use Rattle.lock_free_guards.specs.Held.{frees_of, number_freed}
use Rattle.lock_free_guards.specs.Recovered.{IsToldFor, HasRecoveredOwner}

-- ---- what the first closure said

-- `named` is the owner whose indices a closure has freed: no call changes this owner, and the closure says yes about an
-- index just if it is this owner's.
module _ {F : Type 0} {step : F → ℕ → ℕ → Bool → F → Type 0} (named : F → ℕ) (owner : ℕ)
    (says : (p : F) (o i : ℕ) (b : Bool) (q : F) → step p o i b q → (named q ≡ named p) × (b ≡ (o == named p))) where
  -- At each visit the first closure said yes just if the index had this owner.
  told_for : (f last : F) (visits : List Visit) → named f ≡ owner → FoldsTo (asks step) f (questions_of visits) last → All (IsToldFor owner) visits
  told_for f last [] is h = All-nil (IsToldFor owner)
  told_for f last (v ∷ visits) is h =
      let here = says f v.owner v.index (was_told v.came) h.0 h.1 in
      All-cons (IsToldFor owner) v visits (here.1 ∙ ap (λ n. v.owner == n) is) (told_for h.0 last visits (here.0 ∙ is) h.2)

  -- a recovery whose first closure says yes about an owner's indices alone is a recovery for this owner
  pub recovers_owner : {S : Type 0} {tell : S → ℕ → ℕ → S → Type 0} {mode : ReleaseMode} {state : ReleaseState} {f last : F} {s s_last : S} {v w : View ℕ}
      → named f ≡ owner → HasRecovered step tell mode state f s last s_last v w → HasRecoveredOwner owner mode state v w
  recovers_owner {f} {last} is recovered =
      record {
        by = recovered.by;
        mine = recovered.mine;
        visits = recovered.visits;
        ascend = recovered.ascend;
        told = told_for f last recovered.visits is recovered.visited.asked;
        called = recovered.called;
        nothing = recovered.nothing;
      }

-- ---- what it freed

-- with a visit more, one index more was freed if this visit freed it
freed_more : (index owner : ℕ) (came : Came) (visits : List Visit)
    → length (freed_of (visit index owner came ∷ visits)) ≡ (if was_freed came then 1 else 0) + length (freed_of visits)
freed_more index owner came visits = grind arith

module _ (owner p : ℕ) where
  -- a visit that was told yes just if the owner has the index frees an index of this owner just if it freed any
  one_of_owner : (index o : ℕ) (came : Came) → was_told came ≡ (o == owner)
      → sum_by (frees_of owner) (wrote_to p index o came) ≡ (if was_freed came then 1 else 0)
  one_of_owner index o came told = grind arith

  -- the visits freed as many indices of this owner as they freed in all
  all_of_owner : (visits : List Visit) → All (IsToldFor owner) visits → sum_by (frees_of owner) (wrote_by p visits) ≡ length (freed_of visits)
  all_of_owner [] all = refl
  all_of_owner (v ∷ visits) all =
      let here = one_of_owner v.index v.owner v.came (All-head (IsToldFor owner) v visits all) in
      omega (
        arith,
        all_of_owner visits (All-tail (IsToldFor owner) v visits all),
        sum_by-append (frees_of owner) (wrote_of p v) (wrote_by p visits),
        freed_more v.index v.owner v.came visits,
      )

  module _ (other : ℕ) (apart : other ≢ owner) where
    -- An owner that is this one is not the other.
    is_another : (o : ℕ) → true ≡ (o == owner) → (o == other) ≡ false
    is_another o told = grind (arith, nat_tests)

    -- A visit that was told of this owner alone freed no index of another owner.
    none_of_other : (index o : ℕ) (came : Came) → was_told came ≡ (o == owner) → sum_by (frees_of other) (wrote_to p index o came) ≡ 0
    none_of_other index o came told = grind (arith, is_another)

    -- the visits freed no index of another owner
    none_of_others : (visits : List Visit) → All (IsToldFor owner) visits → sum_by (frees_of other) (wrote_by p visits) ≡ 0
    none_of_others [] all = refl
    none_of_others (v ∷ visits) all =
        omega (
          arith,
          none_of_other v.index v.owner v.came (All-head (IsToldFor owner) v visits all),
          none_of_others visits (All-tail (IsToldFor owner) v visits all),
          sum_by-append (frees_of other) (wrote_of p v) (wrote_by p visits),
        )

-- the visits freed as many of his as the second closure was told of
pub freed_his : {F S : Type 0} {step : F → ℕ → ℕ → Bool → F → Type 0} (named : F → ℕ) (owner : ℕ)
    → ((p : F) (o i : ℕ) (b : Bool) (q : F) → step p o i b q → (named q ≡ named p) × (b ≡ (o == named p)))
    → {tell : S → ℕ → ℕ → S → Type 0} {mode : ReleaseMode} {state : ReleaseState} {f last : F} {s s_last : S} {v w : View ℕ} → named f ≡ owner
    → (h : HasRecovered step tell mode state f s last s_last v w)
    → number_freed owner w.made ≡ number_freed owner v.made + length (freed_of h.visits)
freed_his named owner says {mode} {state} {f} {last} {v} {w} is h =
    omega (
      arith,
      sum_made (frees_of owner) h.by (Robust (Recover mode)) (State state) (wrote_by h.by h.visits) v w h.called,
      all_of_owner owner h.by h.visits (told_for named owner says f last h.visits is h.visited.asked),
    )

-- the recovery freed no index of another owner
pub freed_no_other : {owner : ℕ} {mode : ReleaseMode} {state : ReleaseState} {v w : View ℕ} → HasRecoveredOwner owner mode state v w → (o : ℕ)
    → o ≢ owner → number_freed o w.made ≡ number_freed o v.made
freed_no_other {owner} {mode} {state} {v} {w} recovered_owner o apart =
    let made =
    sum_made (frees_of o) recovered_owner.by (Robust (Recover mode)) (State state)
    (wrote_by recovered_owner.by recovered_owner.visits) v w recovered_owner.called in
    omega (arith, none_of_others owner recovered_owner.by o apart recovered_owner.visits recovered_owner.told)
