-- What contracts say of whole calls on a robust set, from what their driver knows once they have ended:
-- what each call wrote, that its answer is right, and what it tells of the lock.
use Rattle.lock_free_owners.proofs.Names.{◌≡◌, ◌⊎◌, ⊎_elim, ℕ, ◌+◌, ◌<◌, ◌≤◌, Bool, true, false, true≢false, None, Ok, Err}
use Rattle.lock_free_owners.proofs.Names.{IfOk, IfErr, OnOk, List, [], ◌∷◌, ◌++◌, refl, sym, ◌∙◌}
use Rattle.lock_free_owners.proofs.Names.{append_assoc, arith, Acquired, Released, ReleaseMode, LockIfLastIndex}
use Rattle.lock_free_owners.proofs.Names.{Default, ReleaseState, OutOfIndices, WasLocked, GiveBack, Answer, State}
use Rattle.lock_free_owners.proofs.Names.{Event, Begun, Filled, Granted, FreedOf, Finished, Robust}
use Rattle.lock_free_owners.proofs.Names.{Release, one_word, is_locked, count_most, View, IsHistory, Called}
use Rattle.lock_free_owners.proofs.Names.{IsBeginning, Goes, takes_owned, gives_owned, recovers_owned, counts_owned}
use Rattle.lock_free_owners.proofs.Names.{looks_owned, Visit, wrote_by, Calling, Ends, opened, Looks, called}
use Rattle.steps.specs.declared.indices.enums.ReleaseState.TheVariants as states
use Rattle.steps.specs.declared.indices.enums.UniqueIndexSetAcquireFailure.{UniqueIndexSetAcquireFailure}
use Rattle.model.specs.declared.families.indices.robust.RobustStart.{RobustStart}
use Rattle.model.specs.declared.families.indices.robust.RobustStart.TheVariants.{Acquire, Recover}
use Rattle.model.specs.declared.turn.Kind.TheVariants as kinds
use Rattle.model.specs.Families.Indices.Robust.Calls.{acquire_answer, release_answer}
use Rattle.lock_free_owners.specs.Robust.Contracts.{HasTaken, HasGiven, HasRecovered, HasCounted, HasLooked}
use Rattle.lock_free_owners.specs.Robust.Contracts.{WasFilled, WasGranted, WasFreed, IsSound, Answered, WasRefused}
use Rattle.lock_free_owners.specs.Robust.Contracts.{HasReleased, FoundLock, FoundState, OnlyLooked}
use Rattle.lock_free_owners.specs.Robust.Contracts.{IsRightRelease, IsRightRecovery, IsRightCount, IsRightLook}
use Rattle.lock_free_owners.specs.Worn.{MayBeWorn}
use Rattle.laws_robust.specs.Gone.{Word, AnswersBy}
use Rattle.model.specs.Progress.{guarantee_of}
use Rattle.history.proofs.Paid.{AllowsOne, TakesBy, takes}
use Rattle.history_owners.proofs.Robusts.{robust_pays}
use Rattle.history.specs.Steps.{TakesAtMost, TakesAlone}
use Rattle.lock_free_owners.specs.Robust.Callable.{HasVisited}
use Rattle.lock_free_owners.specs.Robust.Steps.{ReleaseTakes, RecoverTakes}
use Rattle.lock_free_owners.specs.RobustUniqueIndexSet.{set_of, view, SamePass}
use Rattle.lock_free_owners.specs.declared.mpmc.robust_unique_index_set.Pass.{Pass}
use Rattle.lock_free_owners.proofs.RobustSet.Asking.{visits_none}
use Rattle.lock_free_owners.proofs.RobustSet.Sound.{sound_history, worn_on}
use Rattle.lock_free_owners.proofs.Worn.Laws.{worn_set}
use Rattle.history.proofs.Known.{begins_further}
use Rattle.history.proofs.OneRun.{first_further}
use Rattle.history.proofs.Locks.{lock_stays, not_locked}
use Rattle.lock_free_owners.proofs.RobustSet.Events.{ahead, wrote_there}

-- what an answer says, in the words of the laws
abbrev pub AnsweredBy : RobustStart → Answer ℕ → View ℕ → View ℕ → Type 0
AnsweredBy start answer old new =
    Answered start answer (λ p before. AnswersBy Word (MayBeWorn new.seen) old.capacity before (Finished p (Robust start) answer)) old new

module _ (base w : View ℕ) (h : IsHistory one_word kinds.Robust base.capacity w.seen) where
  -- The history behind the call is sound.
  sound : IsSound base.capacity w.seen
  sound = sound_history base.capacity w.seen h

  module _ {p : ℕ} {start : RobustStart} {answer : Answer ℕ} {wrote : List (Event ℕ)} (c : Called p (Robust start) answer wrote base w) where
    -- The begin of the call.
    abbrev begin : Event ℕ
    begin = Begun p (Robust start)

    -- The end of the call.
    abbrev last : Event ℕ
    last = Finished p (Robust start) answer

    -- the last answer, and what stood before it
    pub answered_by : AnsweredBy start answer base w
    answered_by =
        let before : List (Event ℕ) = (base.seen ++ c.others) ++ begin ∷ c.during in
        let is_last : w.seen ≡ before ++ last ∷ [] = c.is ∙ sym (append_assoc (base.seen ++ c.others) (begin ∷ c.during) (last ∷ [])) in
        record {
          by = p;
          before = before;
          is = is_last;
          since = record { rest = c.others ++ begin ∷ c.during; is = append_assoc base.seen c.others (begin ∷ c.during) };
          right = worn_on (worn_set base.capacity w.seen) base.capacity before last (sound.answers before [] last is_last);
        }

-- What an answer speaks of is a beginning of what the pass has seen.
last_of : {start : RobustStart} {answer : Answer ℕ} {Right : ℕ → List (Event ℕ) → Type 0} {old new : View ℕ}
    → (a : Answered start answer Right old new) → IsBeginning a.before new.seen
last_of {start} {answer} a = record { rest = Finished a.by (Robust start) answer ∷ []; is = a.is }

-- what any call leaves of what a pass knows
module _ {C M E : Type 0} (call : Calling ℕ C M E) where
  -- What the pass knows goes on from what it knew before the call.
  goes : (base w : View ℕ) (e : E) (m : M) → Ends one_word kinds.Robust call base e m w → Goes base w
  goes base w e m ends = grind (arith, opened, append_assoc)

  -- If the operations aside are as many as before, or one more, they are at most one more.
  one_aside : (base w : View ℕ) → (w.aside ≡ base.aside) ⊎ (w.aside ≡ base.aside + 1) → w.aside ≤ base.aside + 1
  one_aside base w x = ⊎_elim (λ (same : w.aside ≡ base.aside). omega arith) (λ (more : w.aside ≡ base.aside + 1). omega arith) x

-- a pass of the same set after a call that has ended is what each call leaves of a pass
pub same_pass : {C M E : Type 0} {call : Calling ℕ C M E} {old new : Pass} {e : E} {m : M} → set_of new ≡ set_of old
    → Ends one_word kinds.Robust call (view old) e m (view new) → SamePass old new
same_pass {call = call} {old = old} {new = new} {e = e} {m = m} set ends =
    record {
      set = set;
      goes = goes call (view old) (view new) e m ends;
      aside = one_aside call (view old) (view new) ends.aside;
    }

module _ (base w : View ℕ) (m : Unit {0}) (idle : base.going ≡ None) where
  -- ---- acquire

  module _ (owner : ℕ) where
    -- An acquire that has ended is a call of the history with its answer.
    pub taken : (answer : Acquired) → Ends one_word kinds.Robust (takes_owned owner) base answer m w → HasTaken owner answer base w
    taken answer ends = grind (arith, called, one_word, takes_owned)

    -- An acquire answers right by what came before its end.
    pub taken_answered : (answer : Acquired) → Ends one_word kinds.Robust (takes_owned owner) base answer m w
        → AnsweredBy (Acquire owner) (acquire_answer answer) base w
    taken_answered answer ends =
        (let t = taken answer ends in answered_by base w ends.history t.called)

    -- an index that an acquire answers was filled for its owner by this call, where it had none
    pub filled : (answer : Acquired) → Ends one_word kinds.Robust (takes_owned owner) base answer m w → IfOk answer (λ index. WasFilled index owner base w)
    filled (Err e) ends = tt
    filled (Ok index) ends =
        let t = taken (Ok index) ends in
        wrote_there (ahead base.seen) t.called (λ by. Filled by index owner) []
        (Granted t.by index owner ∷ []) t.tells.1
        (λ before after is. (let does_it = (sound base w ends.history).does before after (Filled t.by index owner) is in (does_it.0, does_it.1, does_it.3)))

    -- an index that an acquire answers was granted to its owner by this call
    granted_so : (index : ℕ) → Ends one_word kinds.Robust (takes_owned owner) base (Ok index) m w → WasGranted index owner base w
    granted_so index ends =
        let t = taken (Ok index) ends in
        wrote_there (ahead base.seen) t.called (λ by. Granted by index owner)
        (Filled t.by index owner ∷ []) [] t.tells.1
        (λ before after is. (
          ((sound base w ends.history).does before after (Granted t.by index owner) is).0,
          λ well_formed honest. (sound base w ends.history).holds well_formed honest before after (Granted t.by index owner) is,
        ))

    -- An acquire that answers an index was granted it.
    pub granted : (answer : Acquired) → Ends one_word kinds.Robust (takes_owned owner) base answer m w → IfOk answer (λ index. WasGranted index owner base w)
    granted (Err e) ends = tt
    granted (Ok index) ends = granted_so index ends

    -- An index that an acquire answers is below the capacity.
    pub within : (answer : Acquired) → Ends one_word kinds.Robust (takes_owned owner) base answer m w → (capacity : ℕ) → base.capacity ≡ capacity
        → IfOk answer (λ index. index < capacity)
    within answer ends capacity same_capacity = grind (arith, taken)

    -- an acquire that was refused found the set locked, or each index with an owner
    refused_so : (e : UniqueIndexSetAcquireFailure) → Ends one_word kinds.Robust (takes_owned owner) base (Err e) m w → WasRefused owner e base w
    refused_so OutOfIndices ends =
        let a = taken_answered (Err OutOfIndices) ends in
        record { answered = a; unlocked = λ same. not_locked a.since a.right.0; locked = λ same. absurd (cc) }
    refused_so WasLocked ends =
        let a = taken_answered (Err WasLocked) ends in
        record { answered = a; unlocked = λ same. absurd (cc); locked = λ same. lock_stays (last_of a) a.right }

    -- An acquire that took no index was refused as its failure says.
    pub refused : (answer : Acquired) → Ends one_word kinds.Robust (takes_owned owner) base answer m w → IfErr answer (λ e. WasRefused owner e base w)
    refused (Ok index) ends = tt
    refused (Err e) ends = refused_so e ends

    -- who has seen the lock finds it
    pub shut : (answer : Acquired) → Ends one_word kinds.Robust (takes_owned owner) base answer m w → is_locked base.seen ≡ true → answer ≡ Err WasLocked
    shut (Ok index) ends lock =
        (let g = granted_so index ends in let free = not_locked g.since g.held.0 in absurd (true≢false (sym lock ∙ free)))
    shut (Err OutOfIndices) ends lock =
        (let free = (refused_so OutOfIndices ends).unlocked refl in absurd (true≢false (sym lock ∙ free)))
    shut (Err WasLocked) ends lock = refl

  -- ---- release

  module _ (index owner : ℕ) where
    -- The release of the index for the owner, in this mode.
    abbrev pub given_of : ReleaseMode → GiveBack
    given_of mode = record { index = index; owner = owner; mode = mode }

    -- A release that has ended is a call of the history with its answer.
    pub given : (mode : ReleaseMode) (answer : Released) → Ends one_word kinds.Robust (gives_owned (given_of mode)) base answer m w
        → HasGiven (given_of mode) answer base w
    given mode answer ends = grind (arith, called, one_word, gives_owned)

    -- A release answers right by what came before its end.
    pub given_answered : (mode : ReleaseMode) (answer : Released) → Ends one_word kinds.Robust (gives_owned (given_of mode)) base answer m w
        → AnsweredBy (Release index owner mode) (release_answer answer) base w
    given_answered mode answer ends =
        (let t = given mode answer ends in answered_by base w ends.history t.called)

    -- the answer of a release says what is right of a release
    pub given_right : (mode : ReleaseMode) (answer : Released) → Ends one_word kinds.Robust (gives_owned (given_of mode)) base answer m w
        → IsRightRelease index owner mode answer base w
    given_right Default (Err e) ends = given_answered Default (Err e) ends
    given_right LockIfLastIndex (Err e) ends = given_answered LockIfLastIndex (Err e) ends
    given_right Default (Ok states.Locked) ends = given_answered Default (Ok states.Locked) ends
    given_right LockIfLastIndex (Ok states.Locked) ends = given_answered LockIfLastIndex (Ok states.Locked) ends
    given_right Default (Ok states.Unlocked) ends = given_answered Default (Ok states.Unlocked) ends
    given_right LockIfLastIndex (Ok states.Unlocked) ends = given_answered LockIfLastIndex (Ok states.Unlocked) ends

    -- a release whose first event frees its index freed it in this call
    freed_so : (mode : ReleaseMode) (state : ReleaseState) (rest : List (Event ℕ)) → (ends : Ends one_word kinds.Robust (gives_owned (given_of mode)) base
        (Ok state) m w)
        → (given mode (Ok state) ends).wrote ≡ FreedOf (given mode (Ok state) ends).by index owner ∷ rest → WasFreed index owner base w
    freed_so mode state rest ends is =
        let t = given mode (Ok state) ends in
        wrote_there (ahead base.seen) t.called (λ by. FreedOf by index owner) [] rest is
        (λ before after at. ((sound base w ends.history).does before after (FreedOf t.by index owner) at).0)

    -- a release that answers a state has freed its index
    pub freed : (mode : ReleaseMode) (answer : Released) → Ends one_word kinds.Robust (gives_owned (given_of mode)) base answer m w
        → OnOk answer (WasFreed index owner base w)
    freed mode (Err e) ends = tt
    freed mode (Ok states.Unlocked) ends = freed_so mode states.Unlocked [] ends (given mode (Ok states.Unlocked) ends).tells
    freed mode (Ok states.Locked) ends =
        ⊎_elim (λ is. freed_so mode states.Locked _ ends is) (λ is. freed_so mode states.Locked _ ends is) (given mode (Ok states.Locked) ends).tells.1

    -- a release that answers Locked is in the mode that locks, and has seen the lock; one that
    -- answers Unlocked in that mode began before the lock was seen
    released_so : (mode : ReleaseMode) (state : ReleaseState) → Ends one_word kinds.Robust (gives_owned (given_of mode)) base (Ok state) m w
        → HasReleased state mode base w
    released_so LockIfLastIndex states.Locked ends =
        (let a = given_answered LockIfLastIndex (Ok states.Locked) ends in (lock_stays (last_of a) a.right, refl))
    released_so LockIfLastIndex states.Unlocked ends =
        (let a = given_answered LockIfLastIndex (Ok states.Unlocked) ends in λ same. not_locked a.since a.right.0)
    released_so Default states.Locked ends = (let no = (given Default (Ok states.Locked) ends).tells.0 in absurd (cc))
    released_so Default states.Unlocked ends = λ same. absurd (cc)

    -- A release that answers a state has released as this state says.
    pub released : (mode : ReleaseMode) (answer : Released) → Ends one_word kinds.Robust (gives_owned (given_of mode)) base answer m w
        → IfOk answer (λ s. HasReleased s mode base w)
    released mode (Err e) ends = tt
    released mode (Ok state) ends = released_so mode state ends

  -- ---- looks

  -- A count of the borrowed indices that has ended is a call of the history.
  pub counted : (n : ℕ) → Ends one_word kinds.Robust counts_owned base n m w → HasCounted n base w
  counted n ends = grind (arith, called, one_word, counts_owned)

  module _ (n : ℕ) (ends : Ends one_word kinds.Robust counts_owned base n m w) where
    -- The count is right by what came before its end.
    pub counted_answered : IsRightCount n base w
    counted_answered = (let t = counted n ends in answered_by base w ends.history t.called)

    -- The count is at most the capacity.
    pub counted_most : n ≤ base.capacity
    counted_most = grind (arith, is_locked, counted_answered, count_most)

    -- The count is 0 where the lock had been seen.
    pub counted_none : is_locked base.seen ≡ true → n ≡ 0
    counted_none lock = counted_answered.right.0 (lock_stays counted_answered.since lock)

  -- A call of `is_locked` that has ended is a call of the history.
  pub looked : (b : Bool) → Ends one_word kinds.Robust looks_owned base b m w → HasLooked b base w
  looked b ends = grind (arith, called, one_word, looks_owned)

  -- Its answer is right by what came before its end.
  pub looked_answered : (b : Bool) → Ends one_word kinds.Robust looks_owned base b m w → IsRightLook b base w
  looked_answered b ends = (let t = looked b ends in answered_by base w ends.history t.called)

  -- If it answers true the pass has seen the lock, and if it answers false it had not seen it before.
  pub looked_lock : (b : Bool) → Ends one_word kinds.Robust looks_owned base b m w → FoundLock b base w
  looked_lock true ends = (let a = looked_answered true ends in lock_stays (last_of a) (sym a.right))
  looked_lock false ends = (let a = looked_answered false ends in not_locked a.since (sym a.right))

-- ---- recover

-- A recovery began in the view `base`, where the pass had no call under way, and has ended in w with this state and these
-- visits.
module _ {base w : View ℕ} (idle : base.going ≡ None) (mode : ReleaseMode) {state : ReleaseState} {visits : List Visit}
    (ends : Ends one_word kinds.Robust (recovers_owned mode) base state visits w) where
  -- In the history the recovery is one call, which wrote just the events of its visits.
  recover_called : Called ends.party (Robust (Recover mode)) (State state) (wrote_by ends.party visits) base w
  recover_called = grind (arith, called, one_word, recovers_owned)

  -- A recovery that has ended came to these visits, and wrote just what it did at them; its closures
  -- were called as the visits say.
  pub recovered : {F S : Type 0} (step : F → ℕ → ℕ → Bool → F → Type 0) (tell : S → ℕ → ℕ → S → Type 0) {f q : F} {s y : S}
      → HasVisited step tell f s visits q y → HasRecovered step tell mode state f s q y base w
  recovered step tell visited =
      record {
        by = ends.party;
        mine = ends.mine;
        visits = visits;
        ascend = (ends.tells idle).0;
        called = recover_called;
        visited = visited;
        nothing = visits_none mode base w idle visits ends.since ends.history (ends.tells idle).1;
      }

  -- A recovery answers right by what came before its end, in the words of the laws.
  recovered_by : AnsweredBy (Recover mode) (State state) base w
  recovered_by = answered_by base w ends.history recover_called

-- The state that a recovery answers is right.
pub recovered_answered : (base w : View ℕ) (idle : base.going ≡ None) (mode : ReleaseMode) (state : ReleaseState) (visits : List Visit)
    → Ends one_word kinds.Robust (recovers_owned mode) base state visits w → IsRightRecovery mode state base w
recovered_answered base w idle mode states.Locked visits ends = recovered_by idle mode ends
recovered_answered base w idle mode states.Unlocked visits ends = recovered_by idle mode ends

-- a recovery that answers Locked has seen the lock, and one that answers Unlocked began before the
-- lock was seen
pub recovered_lock : (base w : View ℕ) (idle : base.going ≡ None) (mode : ReleaseMode) (state : ReleaseState) (visits : List Visit)
    → Ends one_word kinds.Robust (recovers_owned mode) base state visits w → FoundState state base w
recovered_lock base w idle mode states.Locked visits ends =
    (let a = recovered_answered base w idle mode states.Locked visits ends in lock_stays (last_of a) a.right)
recovered_lock base w idle mode states.Unlocked visits ends =
    (let a = recovered_answered base w idle mode states.Unlocked visits ends in not_locked a.since a.right.0)

-- ---- find

-- a look leaves the capacity, the party, the call, the share and what was made, and goes on from
-- what was seen
pub only_looked : (capacity : ℕ) (v w : View ℕ) → Looks one_word kinds.Robust capacity v w → OnlyLooked v w
only_looked capacity v w h =
    record {
      capacity = h.capacity;
      party = h.party;
      going = h.going;
      state = h.state;
      share = h.share;
      made = h.made;
      aside = h.aside;
      other = h.other;
      since = h.mine;
      first = h.ran.first;
      theirs = h.theirs;
      theirs_first = h.theirs_ran;
      whole = h.whole;
      all = h.all;
      parties = h.parties;
      apart = h.apart;
    }

-- What a pass knows after a look goes on from what it knew before.
pub looks_goes : (capacity : ℕ) (base w : View ℕ) → Looks one_word kinds.Robust capacity base w → Goes base w
looks_goes capacity base w looks = grind arith

-- looks behind a call of the pass
pub looks_after : (capacity : ℕ) (base v w : View ℕ) → Goes base v → Looks one_word kinds.Robust capacity v w
    → Goes base w
looks_after capacity base v w first looks =
    let next = looks_goes capacity v w looks in
    record {
      share = next.share ∙ first.share;
      since = begins_further _ _ _ first.since next.since;
      first = first_further base.turns v.turns w.turns first.first next.first;
      all = next.all;
    }

-- ---- how many operations they take

-- base and w are what the pass knew before the call and after it, e is its end, m its room then
module _ {C M E : Type 0} (call : Calling ℕ C M E) (base w : View ℕ) (e : E) (m : M) (idle : base.going ≡ None) where
  -- A call that has ended took no more operations than the model says of it.
  takes_so : AllowsOne (guarantee_of kinds.Robust base.capacity one_word.size call.start) → Ends one_word kinds.Robust call base e m w
      → TakesBy one_word kinds.Robust base.capacity (guarantee_of kinds.Robust base.capacity one_word.size call.start) base w
  takes_so least ends = (let took = takes one_word kinds.Robust call base w e m idle in took (robust_pays one_word base.capacity) least ends)

module _ (base w : View ℕ) (idle : base.going ≡ None) where
  -- An acquire takes capacity + 3 operations alone, and capacity + 1 more for each change
  -- of a word by others.
  pub acquire_takes : (owner : ℕ) (e : Acquired) (m : Unit {0}) → Ends one_word kinds.Robust (takes_owned owner) base e m w
      → TakesAlone (base.capacity + 3) (base.capacity + 1) base w
  acquire_takes owner e m ends = takes_so (takes_owned owner) base w e m idle (omega arith) ends

  -- a release takes at most what the model says of it in its mode
  pub release_takes : (index owner : ℕ) (mode : ReleaseMode) (e : Released) (m : Unit {0})
      → Ends one_word kinds.Robust (gives_owned (record { index = index; owner = owner; mode = mode })) base e m w → ReleaseTakes base.capacity mode base w
  release_takes index owner Default e m ends =
      takes_so (gives_owned (record { index = index; owner = owner; mode = Default })) base w e m idle (omega arith) ends
  release_takes index owner LockIfLastIndex e m ends =
      takes_so (gives_owned (record { index = index; owner = owner; mode = LockIfLastIndex })) base w e m idle (omega arith) ends

  -- A count takes capacity + 2 operations alone, and as many more for each change of a word by others.
  pub count_takes : (e : ℕ) (m : Unit {0}) → Ends one_word kinds.Robust counts_owned base e m w
      → TakesAlone (base.capacity + 2) (base.capacity + 2) base w
  count_takes e m ends = takes_so counts_owned base w e m idle (omega arith) ends

  -- A call of `is_locked` takes one operation at most.
  pub look_takes : (e : Bool) (m : Unit {0}) → Ends one_word kinds.Robust looks_owned base e m w → TakesAtMost 1 base w
  look_takes e m ends = takes_so looks_owned base w e m idle (omega arith) ends

  -- A recovery takes at most what the model says of it in its mode.
  pub recover_takes : (mode : ReleaseMode) (e : ReleaseState) (m : List Visit) → Ends one_word kinds.Robust (recovers_owned mode) base e m w
      → RecoverTakes base.capacity mode base w
  recover_takes Default e m ends = takes_so (recovers_owned Default) base w e m idle (omega arith) ends
  recover_takes LockIfLastIndex e m ends = takes_so (recovers_owned LockIfLastIndex) base w e m idle (omega arith) ends
