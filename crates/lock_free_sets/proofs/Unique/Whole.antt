-- What the answers of calls say of what passes hold: of any pass, and of one that has the whole share.
use Rattle.lock_free_sets.proofs.Names.{◌≡◌, ℕ, ◌<◌, ◌≤◌, Bool, true, false, None, Ok, Err, List, [], ◌∷◌, length}
use Rattle.lock_free_sets.proofs.Names.{refl, sym, ap, subst, ◌∙◌, arith, fold-append, Acquired, ReleaseState}
use Rattle.lock_free_sets.proofs.Names.{Locked, Unlocked, UniqueIndexSetAcquireFailure, Answer, NoIndex, State, Number}
use Rattle.lock_free_sets.proofs.Names.{Truth, Event, Finished, Indices, one_word, IsAll, View, IsBeginning}
use Rattle.lock_free_sets.proofs.Names.{takes_index, gives_index, gives_or_locks, counts_out, looks_locked, Ends}
use Rattle.std.proofs.Common.{IfOk, IfErr}
use Rattle.std.proofs.Common.{sum_by}
use Rattle.steps.specs.declared.indices.enums.ReleaseMode.TheVariants as modes
use Rattle.steps.specs.declared.indices.enums.UniqueIndexSetAcquireFailure.TheVariants.{OutOfIndices, IsLocked as WasLocked}
use Rattle.model.specs.declared.families.indices.IndexStart.{IndexStart}
use Rattle.model.specs.declared.families.indices.IndexStart.TheVariants.{Acquire, Release, BorrowedIndices, IsLocked}
use Rattle.model.specs.declared.turn.Kind.TheVariants as kinds
use Rattle.model.specs.Families.Indices.Reading.{is_locked, locked_after, Tally, tally_after, tally_of}
use Rattle.lock_free_sets.specs.Unique.Held.{HeldBy, HoldsNothing, HoldsAll, HoldsSome, IsSound, IsDone}
use Rattle.lock_free_sets.specs.Unique.Contracts.{HasTaken, HasGiven, HasGivenOrLocked, HasCounted, HasLooked, Answered, HasAcquired, WasRefused}
use Rattle.lock_free_sets.specs.Unique.Calls.{AcquireDone, ReleaseDone, ReleaseOrLockDone, BorrowedDone, IsLockedDone}
use Rattle.lock_free_sets.proofs.Whole.Alone.{still_done}
use Rattle.history.proofs.Locks.{lock_stays, not_locked}
use Rattle.lock_free_sets.proofs.Unique.Facts.{taken, taken_answered, free, holds, open_still}
use Rattle.lock_free_sets.proofs.Unique.Facts.{given_or_locked, locked_answered, counted, counted_answered, looked_answered}
use Rattle.lock_free_sets.proofs.Unique.Facts.{given, unlocked, looked, counted_most, sound_after}
use Rattle.lock_free_sets.proofs.Unique.Machine.{tally_is, few, none_left, own_few}

-- ---- a call that was begun has ended

module _ {base w : View ℕ} where
  -- An acquire that has ended leaves each begun call ended.
  pub taken_done : (answer : Acquired) → HasTaken answer base w → IsDone base.made → IsDone w.made
  taken_done (Ok i) has_taken = still_done has_taken.called (tt, tt)
  taken_done (Err e) has_taken = still_done has_taken.called tt

  -- A release that has ended leaves each begun call ended.
  pub given_done : {index : ℕ} {state : ReleaseState} → HasGiven index state base w → IsDone base.made → IsDone w.made
  given_done has_given = still_done has_given.called (tt, tt)

  -- A release that may lock, and has ended, leaves each begun call ended.
  pub locked_done : {index : ℕ} {state : ReleaseState} → HasGivenOrLocked index state base w → IsDone base.made → IsDone w.made
  locked_done {state = Unlocked} has_given_or_locked = still_done has_given_or_locked.called (tt, tt)
  locked_done {state = Locked} has_given_or_locked = still_done has_given_or_locked.called (tt, (tt, tt))

  -- A count that has ended leaves each begun call ended.
  pub counted_done : {n : ℕ} → HasCounted n base w → IsDone base.made → IsDone w.made
  counted_done has_counted = still_done has_counted.called tt

  -- A call of `is_locked` that has ended leaves each begun call ended.
  pub looked_done : {b : Bool} → HasLooked b base w → IsDone base.made → IsDone w.made
  looked_done has_looked = still_done has_looked.called tt

-- ---- what an answer says of what is held

-- What an answer speaks of is a beginning of what the pass has seen.
last_of : {start : IndexStart} {answer : Answer ℕ} {old new : View ℕ} → (a : Answered start answer old new) → IsBeginning a.before new.seen
last_of {start} {answer} {old} {new} a = record { rest = Finished a.by (Indices start) answer ∷ []; is = a.is }

module _ {base w : View ℕ} {m : Unit {0}} (idle : base.going ≡ None) where
  -- An acquire of an index by a sound pass has acquired it.
  pub acquired : {i : ℕ} → Ends one_word kinds.Indices takes_index base (Ok i) m w → IsSound base → HasAcquired i base w
  acquired ends was = record { taken = taken idle ends; free = free idle ends; holds = holds idle ends was }

  -- who finds none left, with the whole share, holds as many as there are
  none_is_left : Ends one_word kinds.Indices takes_index base (Err OutOfIndices) m w → IsDone base.made → HoldsAll base.capacity w
  none_is_left ends done whole is held =
      let a = taken_answered idle ends in
      let h = ends.history in
      let all = ends.all (subst IsAll ends.share whole) in
      let now = taken_done (Err OutOfIndices) (taken idle ends) done in
      let tally =
      sym (ap tally_of a.is ∙ fold-append tally_after _ a.before (Finished a.by (Indices Acquire) (NoIndex OutOfIndices) ∷ []))
      ∙ tally_is base.capacity w.seen h w.made all now is held in
      let x = ap (λ (t : Tally). t.held) tally in
      let y = ap (λ (t : Tally). t.taking) tally in
      let z = ap (λ (t : Tally). t.giving) tally in
      let right = a.right in
      let size = ends.capacity in
      let most = few base.capacity w.seen h w.made all now is held in
      omega arith

  -- who finds the lock holds none
  none_is_held : Ends one_word kinds.Indices takes_index base (Err WasLocked) m w → HoldsNothing w.made
  none_is_held ends =
      let a = taken_answered idle ends in
      (sound_after ends).lock (lock_stays (last_of a) a.right)

  -- an acquire that failed found none left, where with the whole share its pass holds all of them,
  -- or it found the lock, where its pass holds none
  pub refused : {e : UniqueIndexSetAcquireFailure} → Ends one_word kinds.Indices takes_index base (Err e) m w → IsDone base.made → WasRefused e base w
  refused {e = OutOfIndices} ends done =
      let t = taken idle ends in
      record {
        taken = t;
        answered = taken_answered idle ends;
        unlocked = λ same. open_still base w ends.capacity ends.history t.by [] t.called;
        whole = λ same. none_is_left ends done;
        nothing = λ same. absurd (cc);
      }
  refused {e = WasLocked} ends done =
      record {
        taken = taken idle ends;
        answered = taken_answered idle ends;
        unlocked = λ same. absurd (cc);
        whole = λ same. absurd (cc);
        nothing = λ same. none_is_held ends;
      }

  -- An acquire that answered an index has acquired it, and the index is below the capacity.
  pub acquired_if : {answer : Acquired} → Ends one_word kinds.Indices takes_index base answer m w → IsSound base → (capacity : ℕ)
      → base.capacity ≡ capacity → IfOk answer (λ i. AcquireDone capacity i base w)
  acquired_if {answer = Ok i} ends was capacity size =
      record { acquired = acquired ends was; within = subst (λ n. i < n) (ends.capacity ∙ size) (free idle ends).within }
  acquired_if {answer = Err e} ends was capacity size = tt

  -- An acquire that was refused answers right, where each begun call of the pass has ended.
  pub refused_if : {answer : Acquired} → Ends one_word kinds.Indices takes_index base answer m w → IsDone base.made → IfErr answer (λ e. WasRefused e base w)
  refused_if {answer = Ok i} ends done = tt
  refused_if {answer = Err e} ends done = refused ends done

  -- a pass whose release has locked the set holds no index
  locked_nothing : {index : ℕ} {state : ReleaseState}
      → Ends one_word kinds.Indices (gives_or_locks index) base state m w → state ≡ Locked → HoldsNothing w.made
  locked_nothing {state = Locked} ends =
      λ same. (let a = locked_answered idle ends in
      (sound_after ends).lock (lock_stays (last_of a) a.right))
  locked_nothing {state = Unlocked} ends = λ same. absurd (cc)

  -- who does not lock, with the whole share, holds some index
  locked_whole : {index : ℕ} {state : ReleaseState}
      → Ends one_word kinds.Indices (gives_or_locks index) base state m w → IsDone base.made → state ≡ Unlocked
      → HoldsSome w
  locked_whole {state = Locked} ends done = λ same. absurd (cc)
  locked_whole {index = index} {state = Unlocked} ends done = λ same whole held. (
      let a = locked_answered idle ends in
      let h = ends.history in
      let all = ends.all (subst IsAll ends.share whole) in
      let now = locked_done (given_or_locked idle ends) done in
      let tally =
      sym (ap tally_of a.is
      ∙ fold-append tally_after _ a.before (Finished a.by (Indices (Release index modes.LockIfLastIndex)) (State Unlocked) ∷ []))
      ∙ tally_is base.capacity w.seen h w.made all now [] held in
      let x = ap (λ (t : Tally). t.held) tally in
      let y = ap (λ (t : Tally). t.taking) tally in
      let z = ap (λ (t : Tally). t.giving) tally in
      let right = a.right in
      absurd (omega arith))

  module _ {n : ℕ} (ends : Ends one_word kinds.Indices counts_out base n m w) where
    -- The answer of the count, with the events before its end.
    abbrev a : Answered BorrowedIndices (Number n) base w
    a = counted_answered idle ends

    -- The end of a count leaves the tally as it was before.
    same_tally : tally_of w.seen ≡ tally_of a.before
    same_tally = grind (arith, tally_of, fold-append, tally_after)

    -- The end of a count changes nothing of the lock.
    same_lock : is_locked w.seen ≡ is_locked a.before
    same_lock = grind (arith, is_locked, fold-append, locked_after)

    -- no less than a pass holds are counted
    counted_least : (is : List ℕ) → HeldBy is w.made → length is ≤ n
    counted_least is held = go (is_locked a.before) refl
      where
        -- The pass holds at most what the tally counts, and nothing once the set is locked.
        own : (length is ≤ (tally_of w.seen).held) × (is_locked w.seen ≡ true → length is ≡ 0)
        own = own_few base.capacity w ends.history ends.parties is held

        -- no fewer are counted than the pass holds, whether the set was locked or not
        go : (b : Bool) → is_locked a.before ≡ b → length is ≤ n
        go true t = let none = own.1 (same_lock ∙ t) in omega arith
        go false t =
            let less = own.0 in
            let low = (a.right.1 t).0 in
            let same = ap (λ (t : Tally). t.held) same_tally in
            omega arith

    -- with the whole share it is what the pass holds
    counted_whole : IsDone base.made → HoldsAll n w
    counted_whole done whole is held = go (is_locked a.before) refl
      where
        -- With the whole share, all that was seen is what the pass made.
        all : (f : Event ℕ → ℕ) → sum_by f w.seen ≡ sum_by f w.made
        all = ends.all (subst IsAll ends.share whole)

        -- Each call that the pass began has ended.
        now : IsDone w.made
        now = counted_done (counted idle ends) done

        -- with the whole share as many are counted as the pass holds, whether the set was locked
        -- or not
        go : (b : Bool) → is_locked a.before ≡ b → length is ≡ n
        go true t =
            let none = none_left base.capacity w.seen ends.history w.made all now is held (same_lock ∙ t) in
            let zero_is = a.right.0 t in
            omega arith
        go false t =
            let tally = sym same_tally ∙ tally_is base.capacity w.seen ends.history w.made all now is held in
            let x = ap (λ (t : Tally). t.held) tally in
            let y = ap (λ (t : Tally). t.taking) tally in
            let z = ap (λ (t : Tally). t.giving) tally in
            let low = (a.right.1 t).0 in
            let high = (a.right.1 t).1 in
            omega arith

  module _ {b : Bool} (ends : Ends one_word kinds.Indices looks_locked base b m w) where
    -- The answer of `is_locked`, with the events before its end.
    abbrev l : Answered IsLocked (Truth b) base w
    l = looked_answered idle ends

    -- A pass that finds the set locked holds no index.
    looked_nothing : b ≡ true → HoldsNothing w.made
    looked_nothing t = (sound_after ends).lock (lock_stays (last_of l) (sym l.right ∙ t))

    -- A call of `is_locked` that answered false had seen no lock before it.
    looked_unlocked : b ≡ false → is_locked base.seen ≡ false
    looked_unlocked t = not_locked l.since (sym l.right ∙ t)

  -- ---- what each answer means

  -- A release that has ended has done what `ReleaseDone` says.
  pub release_done : {index : ℕ} {state : ReleaseState}
      → Ends one_word kinds.Indices (gives_index index) base state m w → ReleaseDone index state base w
  release_done ends = record { given = given idle ends; unlocked = unlocked idle ends }

  -- a release that may lock frees its index and answers right; if it locked its pass holds
  -- nothing, and if not, with the whole share, it holds something
  pub release_or_lock_done : {index : ℕ} {state : ReleaseState}
      → Ends one_word kinds.Indices (gives_or_locks index) base state m w → IsDone base.made → ReleaseOrLockDone index state base w
  release_or_lock_done ends done =
      record {
        given = given_or_locked idle ends;
        answered = locked_answered idle ends;
        nothing = locked_nothing ends;
        whole = locked_whole ends done;
      }

  -- a count of the indices in use is no less than its pass holds, at most the capacity, and with
  -- the whole share what its pass holds
  pub borrowed_done : {n : ℕ} → Ends one_word kinds.Indices counts_out base n m w → IsDone base.made → (capacity : ℕ)
      → base.capacity ≡ capacity → BorrowedDone capacity n base w
  borrowed_done {n} ends done capacity size =
      record {
        counted = counted idle ends;
        answered = counted_answered idle ends;
        least = counted_least ends;
        most = subst (λ most. n ≤ most) size (counted_most idle ends);
        whole = counted_whole ends done;
      }

  -- a look at the lock answers right; who sees the lock holds nothing, and who does not see it had
  -- not seen it before
  pub is_locked_done : {b : Bool} → Ends one_word kinds.Indices looks_locked base b m w → IsLockedDone b base w
  is_locked_done ends =
      record {
        looked = looked idle ends;
        answered = looked_answered idle ends;
        nothing = looked_nothing ends;
        unlocked = looked_unlocked ends;
      }
