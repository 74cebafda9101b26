-- Acquires of a unique index set that are tried again: what each try adds, and how the last one ends them.
use Rattle.std.proofs.Common.{◌≡◌, ℕ, ◌+◌, ◌-◌, true, false, Result, Ok, Err, IfOk, IfErr, List, [], ◌∷◌, refl, subst, arith}
use Rattle.steps.specs.declared.indices.enums.UniqueIndexSetAcquireFailure.{UniqueIndexSetAcquireFailure}
use Rattle.steps.specs.declared.indices.enums.UniqueIndexSetAcquireFailure.TheVariants.{IsLocked, OutOfIndices}
use Rattle.model.specs.declared.event.Answer.{Answer}
use Rattle.model.specs.declared.event.Answer.TheVariants.{NoIndex}
use Rattle.model.specs.declared.event.Event.{Event}
use Rattle.model.specs.declared.event.Event.TheVariants.{Finished}
use Rattle.model.specs.declared.event.Start.{Start}
use Rattle.model.specs.declared.event.Start.TheVariants.{Indices}
use Rattle.model.specs.declared.families.indices.IndexStart.TheVariants.{Acquire}
use Rattle.model.specs.Families.Indices.Reading.{is_locked}
use Rattle.history.specs.Held.{claims, frees}
use Rattle.history.specs.History.{Called, IsBeginning}
use Rattle.history.specs.Passes.{Goes}
use Rattle.history.specs.declared.view.View.{View}
use Rattle.history.proofs.Locks.{lock_stays}
use Rattle.lock_free_sets.specs.Unique.Contracts.{HasAcquired, WasRefused}
use Rattle.lock_free_sets.specs.UniqueIndexSet.{history, index_pass, index_view, made, value_of, view, SamePass}
use Rattle.lock_free_sets.specs.declared.mpmc.unique_index_set.Pass.{Pass}
use Rattle.lock_free_sets.specs.declared.mpmc.unique_index_set.UniqueIndex.{UniqueIndex}
use Rattle.lock_free_sets.proofs.Sums.{seen_begins}
use Rattle.lock_free_sets.proofs.Unique.Holding.{held_taken}
use Rattle.lock_free_guards.specs.Tries.{HasTried, EndsTries}
use Rattle.lock_free_guards.specs.Unique.{HoldsMore, HoldsTheSame}
use Rattle.lock_free_guards.proofs.Trying.{one_more, last_try, sum_stays, unlocked_before}

-- The begin of an acquire.
abbrev start : Start ℕ
start = Indices Acquire

-- An acquire that is refused because the set is locked has seen the lock.
pub lock_seen : (v w : View ℕ) → WasRefused IsLocked v w → is_locked w.seen ≡ true
lock_seen v w was_refused =
    let last : IsBeginning was_refused.answered.before w.seen =
    record { rest = Finished was_refused.answered.by start (NoIndex IsLocked) ∷ []; is = was_refused.answered.is } in
    lock_stays last was_refused.answered.right

-- from u to v the pass has tried n times
module _ (n : ℕ) (u v : View ℕ) (tried : HasTried n start u v) where
  -- after tries that took none the pass holds what it held
  pub holds_still : HoldsTheSame u.made v.made
  holds_still is held j =
      omega (arith, sum_stays start (claims j) (λ p. refl) (λ p. refl) n u v tried, sum_stays start (frees j) (λ p. refl) (λ p. refl) n u v tried, held j)

  -- A last try that took an index holds it beside those that the pass held before the tries.
  pub holds_more : (w : View ℕ) (i : ℕ) → HasAcquired i v w → HoldsMore i u.made w.made
  holds_more w i h is held = held_taken v w is i (holds_still is held) h.taken

-- from first to v the pass has tried n times; it goes on from v to w
module _ (n : ℕ) (first v w : Pass) (tried : HasTried n start (view first) (view v)) (same : SamePass v w) where
  -- What the pass knows goes on over one more try.
  goes : {p : ℕ} {answer : Answer ℕ} {wrote : List (Event ℕ)} → Called p start answer wrote (view v) (view w) → Goes (view v) (view w)
  goes called = record { share = same.share; since = seen_begins _ _ _ _ (view v) (view w) called; first = same.first; all = same.all }

  module _ (i : ℕ) (h : HasAcquired i (view v) (view w)) where
    -- A last try that took an index ends the tries.
    pub acquired : EndsTries n start (HasAcquired i) (view first) (view w)
    acquired = last_try start n (view first) (view v) (view w) tried (goes h.taken.called) (HasAcquired i) h

  module _ (failure : UniqueIndexSetAcquireFailure) (h : WasRefused failure (view v) (view w)) where
    -- A last try that was refused ends the tries.
    pub refused : EndsTries n start (WasRefused failure) (view first) (view w)
    refused = last_try start n (view first) (view v) (view w) tried (goes h.taken.called) (WasRefused failure) h

  -- One more try to which no index was left makes n + 1 tries.
  pub one_next : WasRefused OutOfIndices (view v) (view w) → HasTried (n + 1) start (view first) (view w)
  one_next was_refused =
      one_more start n (view first) (view v) (view w) tried (goes was_refused.taken.called) was_refused.taken.by
      was_refused.taken.called

-- ---- ---- the last one of several tries, by its answer

module _ (tries : ℕ) (first v : Pass) (tried : HasTried (tries - 1) start (view first) (view v)) where
  -- If the last try took an index, the pass holds it beside those that it held before the tries.
  pub held : (r : Result UniqueIndex (UniqueIndexSetAcquireFailure × Pass)) → IfOk r (λ i. HasAcquired (value_of i) (view v) (index_view i))
      → IfOk r (λ i. HoldsMore (value_of i) (made first) (made (index_pass i)))
  held (Err e) h = tt
  held (Ok i) h = holds_more (tries - 1) (view first) (view v) tried (index_view i) (value_of i) h

  module _ (e : UniqueIndexSetAcquireFailure × Pass) (h : WasRefused e.0 (view v) (view e.1)) where
    -- The last try was refused as no index was left.
    by_want : e.0 ≡ OutOfIndices → WasRefused OutOfIndices (view v) (view e.1)
    by_want is = subst (λ f. WasRefused f (view v) (view e.1)) is h

    -- So no lock had been seen before the tries.
    unlocked_so : e.0 ≡ OutOfIndices → is_locked (history first) ≡ false
    unlocked_so is = unlocked_before start (tries - 1) (view first) (view v) tried ((by_want is).unlocked refl)

    -- So the pass holds what it held before the tries.
    kept_so : SamePass v e.1 → e.0 ≡ OutOfIndices → HoldsTheSame (made first) (made e.1)
    kept_so same is = holds_still (tries - 1 + 1) (view first) (view e.1) (one_next (tries - 1) first v e.1 tried same (by_want is))

  -- If the last try found no index left, no lock had been seen before the tries.
  pub unlocked : (r : Result UniqueIndex (UniqueIndexSetAcquireFailure × Pass)) → IfErr r (λ e. WasRefused e.0 (view v) (view e.1))
      → IfErr r (λ e. e.0 ≡ OutOfIndices → is_locked (history first) ≡ false)
  unlocked (Ok i) h = tt
  unlocked (Err e) h = unlocked_so e h

  -- If the last try found no index left, the pass holds what it held before the tries.
  pub kept : (r : Result UniqueIndex (UniqueIndexSetAcquireFailure × Pass)) → IfErr r (λ e. SamePass v e.1)
      → IfErr r (λ e. WasRefused e.0 (view v) (view e.1)) → IfErr r (λ e. e.0 ≡ OutOfIndices → HoldsTheSame (made first) (made e.1))
  kept (Ok i) same h = tt
  kept (Err e) same h = kept_so e h same
