-- In a young history an acquire that was refused for want of an index met a full pool. An index that nobody
-- has given back is not given back by an acquire.
use Rattle.std.proofs.Common.{◌≡◌, ⊎_elim, ℕ, Err, Ok, List, [], ◌∷◌, sum_by, refl, sym, ap, subst, arith}
use Rattle.steps.specs.declared.indices.enums.UniqueIndexSetAcquireFailure.TheVariants.{OutOfIndices}
use Rattle.model.specs.declared.event.Answer.TheVariants.{Index, NoIndex}
use Rattle.model.specs.declared.event.Start.TheVariants.{Robust}
use Rattle.model.specs.declared.families.indices.robust.RobustStart.TheVariants.{Acquire}
use Rattle.model.specs.Families.Indices.Robust.Promises.{IsFilled}
use Rattle.model.specs.Moments.{HeldSometime}
use Rattle.model.proofs.Moments.{held_later}
use Rattle.lock_free.specs.Event.{Event}
use Rattle.lock_free.specs.Event.TheVariants.{Begun, Filled, Finished, Granted}
use Rattle.lock_free.specs.GrantLaws.{freeing, times_freed}
use Rattle.lock_free.specs.HistoryView.View.{View}
use Rattle.lock_free.specs.Robust.Contracts.{HasTaken, WasRefused}
use Rattle.lock_free.proofs.Sums.{sum_made}
use Rattle.lock_free.specs.OwnerLaws.{change, lock_call, lock_calls, LocksApart}
use Rattle.uses_laws.specs.Leases.{IsYoung, WasFull}

-- the law that in a history without calls that may lock no two such calls overlap
abbrev pub AreApart : Type 0
AreApart = (events : List (Event ℕ)) → lock_calls events ≡ 0 → LocksApart events

module _ (owner : ℕ) (old new : View ℕ) (taken : HasTaken owner (Err OutOfIndices) old new) where
  -- a refusal changes nothing
  same_of : (f : Event ℕ → ℕ) → ((p : ℕ) → f (Begun p (Robust (Acquire owner))) ≡ 0)
      → ((p : ℕ) → f (Finished p (Robust (Acquire owner)) (NoIndex OutOfIndices)) ≡ 0)
      → sum_by f new.made ≡ sum_by f old.made
  same_of f begins ends =
      omega (
        arith,
        sum_made f taken.by (Robust (Acquire owner)) (NoIndex OutOfIndices) taken.wrote old new taken.called,
        ap (sum_by f) taken.tells,
        begins taken.by,
        ends taken.by,
      )

  -- what a young pass has made is young still after the refusal
  still_young : IsYoung old.made → IsYoung new.made
  still_young young =
      let locks = same_of lock_call (λ p. refl) (λ p. refl) in
      let more = same_of change (λ p. refl) (λ p. refl) in
      let was = young.unlocked in
      let few = young.few in
      record { unlocked = omega arith; few = omega arith }

-- what was seen is what was made
module _ (v : View ℕ) (whole : (f : Event ℕ → ℕ) → sum_by f v.seen ≡ sum_by f v.made) where
  -- where what was made is young, what was seen is
  seen_young : IsYoung v.made → IsYoung v.seen
  seen_young young =
      let locks = whole lock_call in
      let all = whole change in
      let was = young.unlocked in
      let few = young.few in
      record { unlocked = omega arith; few = omega arith }

-- where an acquire of a young pass that knows all was refused for want of an index, each had an owner at a moment of
-- the call
pub was_full : AreApart → (owner : ℕ) (old new : View ℕ) → HasTaken owner (Err OutOfIndices) old new → WasRefused owner OutOfIndices old new
    → ((f : Event ℕ → ℕ) → sum_by f new.seen ≡ sum_by f new.made) → IsYoung old.made → WasFull old.capacity new.seen
was_full apart owner old new taken refused whole young =
    let now = seen_young new whole (still_young owner old new taken young) in
    let last = refused.answered in
    ⊎_elim
    (λ worn. (
    absurd (omega (arith, worn (apart new.seen now.unlocked), now.few))))
    (λ full. record {
      by = last.by;
      full = λ index below. subst (HeldSometime last.by (IsFilled index)) (sym last.is)
          (held_later last.by (IsFilled index) last.before _ tt (full index below));
    })
    last.right.1

-- an acquire that got an index
module _ (owner index : ℕ) (old new : View ℕ) (taken : HasTaken owner (Ok index) old new)
    (whole : (f : Event ℕ → ℕ) → sum_by f new.seen ≡ sum_by f new.made) where
  -- an index that nobody has given back is not given back by the acquire
  pub never_freed : (i : ℕ) → times_freed i old.made ≡ 0 → times_freed i new.seen ≡ 0
  never_freed i never =
      let none : times_freed {T = ℕ} i (Filled taken.by index owner ∷ Granted taken.by index owner ∷ []) ≡ 0 = refl in
      omega (
        arith,
        sum_made (freeing i) taken.by (Robust (Acquire owner)) (Index index) taken.wrote old new taken.called,
        ap (times_freed i) taken.tells.1,
        whole (freeing i),
      )
