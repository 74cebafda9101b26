-- What contracts say of whole calls on a container, from what their driver knows once they have ended:
-- what each call wrote, that its answer is right, and what it tells of the lock.
use Rattle.lock_free_owners.proofs.Names.{◌≡◌, ⊎_elim, ℕ, ◌<◌, ◌≤◌, ◌==◌, Bool, true, false}
use Rattle.lock_free_owners.proofs.Names.{true≢false, Ok, Err, IfOk, OnOk, List, [], ◌∷◌, ◌++◌, refl, sym, ap, subst}
use Rattle.lock_free_owners.proofs.Names.{◌∙◌, arith, Added, Removed, Replaced, Owned, Replacement}
use Rattle.lock_free_owners.proofs.Names.{ReleaseMode, LockIfLastIndex, Default, ReleaseState, GiveBack, Answer}
use Rattle.lock_free_owners.proofs.Names.{Number, Truth, Event, Filled, Granted, FreedOf, Hidden, Finished}
use Rattle.lock_free_owners.proofs.Names.{Container, ContainerStart, Add, Remove, Replace, Len, IsEmpty, Coding}
use Rattle.lock_free_owners.proofs.Names.{added, removed, replaced, is_locked, IsUnlocked, HeldSometime, count_most}
use Rattle.lock_free_owners.proofs.Names.{View}
use Rattle.lock_free_owners.proofs.Names.{IsHistory, Called, IsBeginning, Calling, Ends}
use Rattle.steps.specs.declared.container.enums.ContainerAddFailure.{ContainerAddFailure}
use Rattle.steps.specs.declared.container.enums.ContainerAddFailure.TheVariants as failures
use Rattle.steps.specs.declared.indices.enums.ReleaseState.TheVariants as states
use Rattle.model.specs.declared.families.container.ContainerStart.TheVariants.{IsLocked}
use Rattle.model.specs.declared.families.container.calls.CountOf.TheVariants as counts
use Rattle.model.specs.declared.turn.Kind.TheVariants as kinds
use Rattle.history_owners.specs.Container as container
use Rattle.lock_free_owners.specs.Robust.Contracts.{WroteAt, WasFilled, WasGranted, WasFreed, HasReleased, FoundLock}
use Rattle.lock_free_owners.specs.Container.Contracts.{IsSound, HasMade, HasAdded, HasRemoved, HasReplaced, HasCounted}
use Rattle.lock_free_owners.specs.Container.Contracts.{HasTested, HasLooked, Answered, WasNotAdded}
use Rattle.lock_free_owners.specs.Container.Contracts.{RemovesRight, IsRightRemove, IsRightReplace, IsRightLength, IsRightTest, IsRightLook}
use Rattle.lock_free_owners.specs.Worn.{MayBeWorn}
use Rattle.lock_free_owners.specs.Container.Turns.{AddEnds, RemoveEnds, ReplaceEnds, CountEnds, LockEnds}
use Rattle.history_owners.specs.Settled.{EndsSettled}
use Rattle.lock_free_owners.proofs.ContainerSet.Sound.{sound_history}
use Rattle.lock_free_owners.proofs.ContainerSet.Resting.{settled_so}
use Rattle.lock_free_owners.proofs.ContainerSet.Began.{history_of as began_history, capacity_from}
use Rattle.lock_free_owners.proofs.ContainerSet.Began.{AnsweredBy, idle_from, later, ended_called, ended_answered}
use Rattle.history.proofs.Known.{begins_further}
use Rattle.history.proofs.Locks.{lock_stays, not_locked}
use Rattle.lock_free_owners.proofs.RobustSet.Events.{covers, wrote_there}

module _ {T : Type 0} (code : Coding T) where
  -- ---- what any call leaves

  -- The call of the driver ended in the view w with e, counted from the view `base`.
  module _ {C E : Type 0} {call : Calling T C (Unit {0}) E} {base w : View T} {e : E}
      (ends : EndsSettled code kinds.Container (Ends code kinds.Container call) base e tt w) where
    -- What the pass knew once its last call was settled, where this call began.
    abbrev from : View T
    from = ends.from

    -- What the pass has seen behind the call is a history of the container.
    pub history_of : IsHistory code kinds.Container base.capacity w.seen
    history_of = began_history ends.settled call ends.over

    module _ (start : ContainerStart T) (is_start : call.start ≡ Container start) (answer : Answer T) (is_answer : call.answer e tt ≡ answer) where
      -- In the history it is a call with this begin and this answer.
      made_call : Called ends.over.party (Container start) answer ends.over.wrote from w
      made_call = ended_called ends.settled call ends.over start is_start answer is_answer

      -- a call that has ended is one of the history, which wrote this, from where the last one of
      -- the pass had ended
      pub made : (Wrote : ℕ → List (Event T) → Type 0) → Wrote ends.over.party ends.over.wrote → HasMade start answer Wrote base w
      made Wrote tells =
          record {
            from = from;
            settled = settled_so code base from ends.settled;
            by = ends.over.party;
            mine = ends.over.mine;
            wrote = ends.over.wrote;
            tells = tells;
            called = made_call;
          }

      -- The party of the call.
      abbrev p : ℕ
      p = ends.over.party

      -- if the call wrote this event, what `Before` says of the history before it holds, and that
      -- history goes on from what the pass had seen
      pub wrote_at : (event : ℕ → Event T) (first : List (Event T)) → (rest : List (Event T)) × (ends.over.wrote ≡ first ++ event p ∷ rest)
          → {Before : ℕ → List (Event T) → Type 0} → ((before after : List (Event T)) → w.seen ≡ before ++ event p ∷ after → Before p before)
          → WroteAt event Before base w
      wrote_at event first (rest, is) held = wrote_there (later ends.settled) made_call event first rest is held

      -- the last answer, and what stood before it
      pub answered : AnsweredBy start answer base w
      answered = ended_answered ends.settled call ends.over start is_start answer is_answer

      -- if the container was not locked at a moment of the call, the pass had not seen the lock before it
      pub open_since : HeldSometime p IsUnlocked answered.before → is_locked base.seen ≡ false
      unfolding answered made_call ended_answered
      open_since once =
          let c = made_call in
          let covered = covers p (Container start) c.during (from.seen ++ c.others) once.part once.rest once.is once.within in
          not_locked (begins_further _ _ _ (later ends.settled c.others) covered) once.held

  -- what an answer speaks of is a beginning of what the pass has seen
  pub last_of : {start : ContainerStart T} {answer : Answer T} {Right : ℕ → List (Event T) → Type 0} {old new : View T}
      → (a : Answered start answer Right old new) → IsBeginning a.before new.seen
  last_of {start} {answer} a = record { rest = Finished a.by (Container start) answer ∷ []; is = a.is }

  -- ---- looks

  module _ (base w : View T) (b : Bool) (ends : LockEnds code base b tt w) where
    -- A call of `is_locked` that has ended is a call of the history.
    pub looked : HasLooked b base w
    looked = made ends IsLocked refl (Truth b) refl (λ by es. es ≡ []) ends.over.tells

    -- Its answer is right by what came before its end.
    pub looked_answered : IsRightLook b base w
    looked_answered = answered ends IsLocked refl (Truth b) refl

  -- A right answer true has seen the lock. With a right answer false no lock was seen before the call.
  looked_so : (base w : View T) (b : Bool) → IsRightLook b base w → FoundLock b base w
  looked_so base w true a = lock_stays (last_of a) (sym a.right)
  looked_so base w false a = not_locked a.since (sym a.right)

  -- A call of `is_locked` found the lock as its answer says.
  pub looked_lock : (base w : View T) (b : Bool) → LockEnds code base b tt w → FoundLock b base w
  looked_lock base w b ends = looked_so base w b (looked_answered base w b ends)

  -- ---- counts

  module _ (base w : View T) (n : ℕ) where
    module _ (ends : CountEnds code counts.Len base n tt w) where
      -- A call of `len` that has ended is a call of the history.
      pub counted : HasCounted n base w
      counted = made ends Len refl (Number n) refl (λ by es. es ≡ []) ends.over.tells

      -- The number of `len` is right by what came before its end.
      pub counted_answered : IsRightLength n base w
      counted_answered = answered ends Len refl (Number n) refl

      -- a count of the indices that have an owner is at most the capacity
      pub counted_most : n ≤ base.capacity
      counted_most = grind (arith, is_locked, counted_answered, count_most)

      -- The number is 0 where the lock had been seen.
      pub counted_none : is_locked base.seen ≡ true → n ≡ 0
      counted_none lock = counted_answered.right.none (lock_stays counted_answered.since lock)

    module _ (ends : CountEnds code counts.IsEmpty base n tt w) where
      -- A call of `is_empty` that has ended is a call of the history.
      pub tested : HasTested (n == 0) base w
      tested = made ends IsEmpty refl (Truth (n == 0)) refl (λ by es. es ≡ []) ends.over.tells

      -- The answer of `is_empty` is right by what came before its end.
      pub tested_answered : IsRightTest (n == 0) base w
      tested_answered = answered ends IsEmpty refl (Truth (n == 0)) refl

      -- `is_empty` answers true where the lock had been seen.
      pub tested_none : is_locked base.seen ≡ true → (n == 0) ≡ true
      tested_none lock =
          let right = tested_answered.right in
          right.is ∙ ap (λ k. k == 0) (right.length.none (lock_stays tested_answered.since lock))

  -- ---- remove

  module _ (base w : View T) (given : GiveBack) where
    -- a remove that has ended is a call of the history, which wrote what its answer says
    pub has_removed : (answer : Removed) → RemoveEnds code given base answer tt w → HasRemoved given answer base w
    has_removed answer ends =
        made ends (Remove given.index given.owner given.mode) refl (removed answer) refl
        (λ by es. container.HasRemoved by given answer es) (ends.over.tells (idle_from ends.settled))

    -- the end of a remove is the last event that the pass has seen, with an answer that is right
    pub removed_answered : (answer : Removed) → RemoveEnds code given base answer tt w
        → AnsweredBy (Remove given.index given.owner given.mode) (removed answer) base w
    removed_answered answer ends =
        answered ends (Remove given.index given.owner given.mode) refl (removed answer) refl

    -- the answer of a remove says what is right of a remove
    removed_so : (mode : ReleaseMode) (answer : Removed) → AnsweredBy (Remove given.index given.owner mode) (removed answer) base w
        → Answered (Remove given.index given.owner mode) (removed answer)
        (RemovesRight (MayBeWorn w.seen) base.capacity (record { index = given.index; owner = given.owner; mode = mode }) answer) base w
    removed_so mode answer h = grind arith

    -- The answer of a remove is right.
    pub removed_right : (answer : Removed) → RemoveEnds code given base answer tt w → IsRightRemove given answer base w
    removed_right answer ends = removed_so given.mode answer (removed_answered answer ends)

    -- a remove whose first event frees its index freed it in this call
    removed_at : (state : ReleaseState) (rest : List (Event T)) → (ends : RemoveEnds code given base (Ok state) tt w)
        → ends.over.wrote ≡ FreedOf ends.over.party given.index given.owner ∷ rest → WasFreed given.index given.owner base w
    removed_at state rest ends is =
        wrote_at ends (Remove given.index given.owner given.mode) refl (removed (Ok state)) refl
        (λ by. FreedOf by given.index given.owner) [] (rest, is)
        (λ before after at. ((sound_history code base.capacity w.seen (history_of ends)).does
        before after (FreedOf ends.over.party given.index given.owner) at).0)

    -- what a remove that freed its index wrote begins with that free
    freed_first : (state : ReleaseState) (p : ℕ) (es : List (Event T)) → container.HasRemovedIt p given state es
        → (rest : List (Event T)) × (es ≡ FreedOf p given.index given.owner ∷ rest)
    freed_first states.Unlocked p es h = (_, h.2.1 ∙ ap (λ zs. zs ++ container.when h.2.0 (Hidden p given.index)) h.1)
    freed_first states.Locked p es h =
        ⊎_elim (λ is. (_, h.2.1 ∙ ap (λ zs. zs ++ container.when h.2.0 (Hidden p given.index)) is))
        (λ is. (_, h.2.1 ∙ ap (λ zs. zs ++ container.when h.2.0 (Hidden p given.index)) is)) h.1.1

    -- a remove that freed its index freed it in this call
    freed_so : (state : ReleaseState) → RemoveEnds code given base (Ok state) tt w → WasFreed given.index given.owner base w
    freed_so state ends =
        let first = freed_first state ends.over.party ends.over.wrote (ends.over.tells (idle_from ends.settled)) in
        removed_at state first.0 ends first.1

    -- A remove that answers Ok has freed its index.
    pub freed : (answer : Removed) → RemoveEnds code given base answer tt w → OnOk answer (WasFreed given.index given.owner base w)
    freed (Err e) ends = tt
    freed (Ok state) ends = freed_so state ends

  module _ (base w : View T) (index owner : ℕ) where
    -- The remove of the index for its owner, in this mode.
    abbrev pub gives : ReleaseMode → GiveBack
    gives mode = record { index = index; owner = owner; mode = mode }

    -- a remove that answers Locked is in the mode that locks, and has seen the lock; one that
    -- answers Unlocked in that mode began before the lock was seen
    released_so : (mode : ReleaseMode) (state : ReleaseState) → RemoveEnds code (gives mode) base (Ok state) tt w → HasReleased state mode base w
    unfolding removed_answered answered made_call ended_answered
    released_so LockIfLastIndex states.Locked ends =
        (let a = removed_answered base w (gives LockIfLastIndex) (Ok states.Locked) ends in (lock_stays (last_of a) a.right, refl))
    released_so LockIfLastIndex states.Unlocked ends =
        λ same. open_since ends
        (Remove index owner LockIfLastIndex) refl (removed (Ok states.Unlocked)) refl
        (removed_answered base w (gives LockIfLastIndex) (Ok states.Unlocked) ends).right.0
    released_so Default states.Locked ends =
        (let no = (has_removed base w (gives Default) (Ok states.Locked) ends).tells.1.0 in absurd (cc))
    released_so Default states.Unlocked ends = λ same. absurd (cc)

    -- A remove that answers a state has released as this state says.
    pub released : (mode : ReleaseMode) (answer : Removed) → RemoveEnds code (gives mode) base answer tt w → IfOk answer (λ s. HasReleased s mode base w)
    released mode (Err e) ends = tt
    released mode (Ok state) ends = released_so mode state ends

  -- ---- replace

  module _ (base w : View T) (given : Replacement T) (answer : Replaced) (ends : ReplaceEnds code given base answer tt w) where
    -- a replace that has ended is a call of the history, which wrote what its answer says
    pub has_replaced : HasReplaced given answer base w
    has_replaced =
        made ends (Replace given.index given.value given.owner) refl (replaced answer) refl
        (λ by es. container.HasReplaced by given answer es) (ends.over.tells (idle_from ends.settled))

    -- A replace answers right by what came before its end, in the words of the laws.
    replaced_by : AnsweredBy (Replace given.index given.value given.owner) (replaced answer) base w
    replaced_by =
        answered ends (Replace given.index given.value given.owner) refl
        (replaced answer) refl

  -- the answer of a replace is right
  pub replaced_answered : (base w : View T) (given : Replacement T) (answer : Replaced) → ReplaceEnds code given base answer tt w
      → IsRightReplace given answer base w
  replaced_answered base w given (Err e) ends = replaced_by base w given (Err e) ends
  replaced_answered base w given (Ok nothing) ends = replaced_by base w given (Ok nothing) ends

  -- ---- add

  module _ (base w : View T) (given : Owned T) where
    -- what an add wrote is what its answer says
    pub has_added : (answer : Added) → AddEnds code given base answer tt w → HasAdded given answer base w
    has_added answer ends =
        made ends (Add given.value given.owner) refl (added answer) refl
        (λ by es. container.HasAdded base.capacity by given answer es)
        (subst (λ n. container.HasAdded n ends.over.party given answer ends.over.wrote) (capacity_from ends.settled)
        (ends.over.tells (idle_from ends.settled)))

    -- An add answers right by what came before its end, in the words of the laws.
    pub added_answered : (answer : Added) → AddEnds code given base answer tt w → AnsweredBy (Add given.value given.owner) (added answer) base w
    added_answered answer ends =
        answered ends (Add given.value given.owner) refl (added answer) refl

    module _ (index : ℕ) (ends : AddEnds code given base (Ok index) tt w) where
      -- The history behind the add is sound.
      abbrev sound_here : IsSound code base.capacity w.seen
      sound_here = sound_history code base.capacity w.seen (history_of ends)

      -- what it wrote, from its first two events on
      taken_first : (rest : List (Event T)) × (ends.over.wrote
          ≡ Filled ends.over.party index given.owner ∷ Granted ends.over.party index given.owner ∷ rest)
      taken_first = (let h = ends.over.tells (idle_from ends.settled) in (_, h.1.2))

      -- the index that an add took had no owner when the add filled it
      pub filled_so : WasFilled index given.owner base w
      filled_so =
          wrote_at ends (Add given.value given.owner) refl (added (Ok index)) refl
          (λ by. Filled by index given.owner) [] (Granted ends.over.party index given.owner ∷ taken_first.0, taken_first.1)
          (λ before after is. (let does_it = sound_here.does before after (Filled ends.over.party index given.owner) is in (does_it.0, does_it.1, does_it.3)))

      -- an index that an add took was granted to its owner
      pub granted_so : WasGranted index given.owner base w
      granted_so =
          wrote_at ends (Add given.value given.owner) refl (added (Ok index)) refl
          (λ by. Granted by index given.owner) (Filled ends.over.party index given.owner ∷ []) taken_first
          (λ before after is. (
            (sound_here.does before after (Granted ends.over.party index given.owner) is).0,
            λ well_formed honest. sound_here.holds well_formed honest before after (Granted ends.over.party index given.owner) is,
          ))

      -- The index that an add answers is below the capacity.
      pub within_so : index < base.capacity
      within_so = (has_added (Ok index) ends).tells.0

      -- An add that placed its value had seen no lock before.
      pub open_so : is_locked base.seen ≡ false
      open_so = (let g = granted_so in not_locked g.since g.held.0)

    -- an add that was refused found the container locked, or each index with an owner
    pub refused_so : (e : ContainerAddFailure) → AddEnds code given base (Err e) tt w → WasNotAdded given.value given.owner e base w
    refused_so failures.OutOfSpace ends =
        let a = added_answered (Err failures.OutOfSpace) ends in
        record { answered = a; unlocked = λ same. not_locked a.since a.right.0; locked = λ same. absurd (cc) }
    refused_so failures.IsLocked ends =
        let a = added_answered (Err failures.IsLocked) ends in
        record { answered = a; unlocked = λ same. absurd (cc); locked = λ same. lock_stays (last_of a) a.right }

    -- an add that begins where the lock was seen answers `IsLocked`
    pub shut : (answer : Added) → AddEnds code given base answer tt w → is_locked base.seen ≡ true → answer ≡ Err failures.IsLocked
    shut (Ok index) ends lock = (let free = open_so index ends in absurd (true≢false (sym lock ∙ free)))
    shut (Err failures.OutOfSpace) ends lock =
        (let r = (refused_so failures.OutOfSpace ends).unlocked refl in absurd (true≢false (sym lock ∙ r)))
    shut (Err failures.IsLocked) ends lock = refl
