-- Two adds leave a history to which alone was added, and that keeps to all that whole copies ask.
use Rattle.std.proofs.Common.{◌≡◌, ⊎_elim, ℕ, ◌+◌, ◌*◌, ◌≤◌, Bool, true, false, None, Ok, Err, List, [], ◌∷◌, ◌++◌}
use Rattle.std.proofs.Common.{Result, IfOk, IfErr, sum_by, refl, sym, subst, arith}
use Rattle.steps.specs.Container.Add.{Added}
use Rattle.steps.specs.declared.container.add.Owned.{Owned}
use Rattle.steps.specs.declared.container.enums.ContainerAddFailure.{ContainerAddFailure}
use Rattle.steps.specs.declared.container.enums.ContainerAddFailure.TheVariants as failures
use Rattle.steps.specs.declared.container.handle.ContainerHandle.{ContainerHandle}
use Rattle.model.specs.declared.event.Start.{Start}
use Rattle.model.specs.declared.event.Start.TheVariants.{Container}
use Rattle.model.specs.declared.families.container.ContainerStart.TheVariants.{Add}
use Rattle.model.specs.declared.turn.Kind.TheVariants as kinds
use Rattle.model.specs.Families.Container.Calls.{added}
use Rattle.history_owners.specs.Container as container
use Rattle.lock_free_owners.specs.declared.mpmc.container.Container as containers
use Rattle.lock_free.specs.Container.Resting.{SettledFrom, Settles}
use Rattle.lock_free.specs.Coding.{Coding}
use Rattle.lock_free.specs.Container.Calls.{AddDone, AddRefused}
use Rattle.lock_free.specs.Container.Contracts.{HasAdded, placed}
use Rattle.lock_free.specs.Event.{Event}
use Rattle.lock_free.specs.Event.TheVariants.{Begun, Filled, Hidden, Placed, Finished}
use Rattle.lock_free.specs.History.{IsHistory}
use Rattle.lock_free.specs.HistoryView.View.{View}
use Rattle.lock_free.proofs.Sums.{sum_made}
use Rattle.history_laws.specs.Containers.{recovery, recoveries, removal, removals, rise, rises, IsFaithful, IsWellFormed, IsOrderly, IsContained}
use Rattle.history_laws.specs.Owners.{change, changes, lock_call, lock_calls, LocksApart}
use Rattle.uses_laws.specs.Copies.{HasOnlyAdded}

-- the laws
pub record Laws : Type 0 where
  pub whole : (code : Coding ℕ) (capacity : ℕ) (events : List (Event ℕ))
      → IsHistory code kinds.Container capacity events → IsOrderly events → IsContained events
  pub faithful : (events : List (Event ℕ)) → recoveries events ≡ 0 → IsFaithful events
  pub well_formed : (events : List (Event ℕ)) → removals events ≡ 0 → IsWellFormed events
  pub apart : (events : List (Event ℕ)) → lock_calls events ≡ 0 → LocksApart events

-- an add is a call of the history, whatever it answers
pub has_added : {T : Type 0} (s : containers.Container T) (given : Owned T) (old new : View T) (r : Result ContainerHandle ContainerAddFailure)
    → IfOk r (λ key. AddDone s given key old new) → IfErr r (λ failure. AddRefused given failure old new) → HasAdded given (placed r) old new
has_added s given old new (Ok key) done refused = done.added
has_added s given old new (Err failure) done refused = refused.added

-- what an add writes
record IsAdd (es : List (Event ℕ)) : Type 0 where
  pub recovered : recoveries es ≡ 0
  pub removed : removals es ≡ 0
  pub unlocked : lock_calls es ≡ 0
  pub few : 3 * changes es + rises es ≤ 4

module _ (p index owner value : ℕ) where
  abbrev wrote : Bool → Bool → List (Event ℕ)
  wrote hid put = container.taken p index owner ++ (container.when hid (Hidden p index) ++ container.when put (Placed p index value))

  -- The events of an add that got a place are few, and none is of a recovery, a removal or the lock.
  put_so : (hid put : Bool) → IsAdd (wrote hid put)
  put_so true true = record { recovered = refl; removed = refl; unlocked = refl; few = omega arith }
  put_so true false = record { recovered = refl; removed = refl; unlocked = refl; few = omega arith }
  put_so false true = record { recovered = refl; removed = refl; unlocked = refl; few = omega arith }
  put_so false false = record { recovered = refl; removed = refl; unlocked = refl; few = omega arith }

none_so : IsAdd []
none_so = record { recovered = refl; removed = refl; unlocked = refl; few = omega arith }

filled_so : (p index owner : ℕ) → IsAdd (Filled p index owner ∷ [])
filled_so p index owner = record { recovered = refl; removed = refl; unlocked = refl; few = omega arith }

-- An add writes no recovery, no removal and no lock, whatever it answers.
add_so : (capacity p : ℕ) (given : Owned ℕ) (r : Added) (es : List (Event ℕ)) → container.HasAdded capacity p given r es → IsAdd es
add_so capacity p given (Ok index) es h = subst IsAdd (sym h.1.2) (put_so p index given.owner given.value h.1.0 h.1.1)
add_so capacity p given (Err failures.IsLocked) es h =
    ⊎_elim (λ none. subst IsAdd (sym none) none_so) (λ some. subst IsAdd (sym some.2) (filled_so p some.0 given.owner)) h
add_so capacity p given (Err failures.OutOfSpace) es h = subst IsAdd (sym h) none_so

-- ---- one add

module _ (given : Owned ℕ) where
  abbrev start : Start ℕ
  start = Container (Add given.value given.owner)

  -- a pass whose last call is over begins from what it knew
  settled_is : (old new : View ℕ) → old.going ≡ None → SettledFrom old new → new ≡ old
  settled_is old new idle settled = ⊎_elim (λ same. same.0) (λ (s : Settles old new). absurd (rests s)) settled
    where
      rests : Settles old new → ⊥
      rests settles = let going = settles.resting.going in cc

  -- an add changes the sums over what its pass made only as an add may: no recovery, no removal, no
  -- lock, and few changes
  record Leaves (old new : View ℕ) : Type 0 where
    pub recovered : recoveries new.made ≡ recoveries old.made
    pub removed : removals new.made ≡ removals old.made
    pub unlocked : lock_calls new.made ≡ lock_calls old.made
    pub few : 3 * changes new.made + rises new.made ≤ 3 * changes old.made + rises old.made + 6

  -- an add leaves the sums that a history of adds alone has
  leaves_from : (r : Added) (old from new : View ℕ) → (h : HasAdded given r old new) → from ≡ h.from → Leaves from new
  leaves_from r old from new h is =
      let es = h.wrote in
      let so = add_so old.capacity h.by given r es h.tells in
      let made : (f : Event ℕ → ℕ) → sum_by f new.made ≡ sum_by f h.from.made + (f (Begun h.by start) + (sum_by f es + f (Finished h.by start (added r)))) =
      λ f. sum_made f h.by start (added r) es h.from new h.called in
      subst (λ (v : View ℕ). Leaves v new) (sym is)
      (record {
        recovered = omega (arith, made recovery, so.recovered);
        removed = omega (arith, made removal, so.removed);
        unlocked = omega (arith, made lock_call, so.unlocked);
        few = omega (arith, made change, made rise, so.few);
      })

  leaves : (r : Added) (old new : View ℕ) → old.going ≡ None → HasAdded given r old new → Leaves old new
  leaves r old new idle h = leaves_from r old old new h (sym (settled_is old h.from idle h.settled))

-- ---- the history is what was made

module _ (laws : Laws) (code : Coding ℕ) (capacity : ℕ) (old between new : View ℕ) (calm : HasOnlyAdded old.made) where
  -- the history is contained after two adds that follow on adds alone
  pub whole_after : (one two : Owned ℕ) (r s : Added) → old.going ≡ None → between.going ≡ None → HasAdded one r old between
      → HasAdded two s between new → ((f : Event ℕ → ℕ) → sum_by f new.seen ≡ sum_by f new.made)
      → IsHistory code kinds.Container capacity new.seen → IsContained new.seen
  whole_after one two r s idle rested first second all history =
      let a = leaves one r old between idle first in
      let b = leaves two s between new rested second in
      let recovered : recoveries new.seen ≡ 0 =
      omega (arith, all recovery, a.recovered, b.recovered, calm.recovered) in
      let removed : removals new.seen ≡ 0 =
      omega (arith, all removal, a.removed, b.removed, calm.removed) in
      let unlocked : lock_calls new.seen ≡ 0 =
      omega (arith, all lock_call, a.unlocked, b.unlocked, calm.unlocked) in
      laws.whole code capacity new.seen history
      (record {
        well_formed = laws.well_formed new.seen removed;
        faithful = laws.faithful new.seen recovered;
        apart = laws.apart new.seen unlocked;
        young =
            (let changed = all change in
            let rose = all rise in
            let was = calm.few in
            omega (arith, a.few, b.few));
      })
