-- A wrong answer of a call on a container, and that what the call's contract says of answers refuses it. Where it takes no
-- small history, it is said of every history.
use Rattle.std.proofs.Common.{◌≡◌, ◌≤◌, ◌<◌, ⊎_elim, ℕ, suc, ◌-◌, ◌^◌, ◌==◌, Bool, true, false, Some, Ok, Err, List, [], ◌∷◌, ◌++◌}
use Rattle.std.proofs.Common.{if◌then◌else◌, refl, sym, ap, subst, ◌∙◌, inl, arith}
use Rattle.std.proofs.lemmas.List.{same_from_push}
use Rattle.steps.specs.declared.container.enums.ContainerAddFailure.TheVariants as failures
use Rattle.steps.specs.declared.container.enums.ContainerRemoveError.{ContainerRemoveError}
use Rattle.steps.specs.declared.container.recover.DeadOwner.{DeadOwner}
use Rattle.steps.specs.declared.container.replace.Replacement.{Replacement}
use Rattle.steps.specs.declared.indices.robust.release.GiveBack.{GiveBack}
use Rattle.model.specs.declared.event.Answer.{Answer}
use Rattle.model.specs.declared.event.Answer.TheVariants.{Done, State, NoPlace, NotRemoved, Number, Truth}
use Rattle.model.specs.declared.event.Event.{Event}
use Rattle.model.specs.declared.event.Event.TheVariants as events
use Rattle.model.specs.declared.event.Event.TheVariants.{Begun, Filled, FreedOf, Finished}
use Rattle.model.specs.declared.event.Start.TheVariants.{Container}
use Rattle.model.specs.declared.families.container.ContainerStart.{ContainerStart}
use Rattle.model.specs.declared.families.container.ContainerStart.TheVariants.{Add, Remove, Replace, Recover, Len, IsEmpty, IsLocked}
use Rattle.model.specs.Families.Container.Reading.{Sees}
use Rattle.model.specs.Families.Indices.Reading.{is_locked}
use Rattle.model.specs.Families.Indices.Robust.Promises.{IsFilled, IsFilledWith, IsUnlocked, StillToFree}
use Rattle.model.specs.Families.Indices.Robust.Reading.{filled_of, Asks, Frees, set_acts_of, IsOneOf}
use Rattle.model.specs.Reading.{Never}
use Rattle.model.proofs.Readings.{Each-append, Each-nil, no_more}
use Rattle.lock_free.specs.HistoryView.View.{View}
use Rattle.lock_free.specs.ReleaseMode.{ReleaseMode}
use Rattle.lock_free.specs.ReleaseMode.TheVariants.{Default, LockIfLastIndex}
use Rattle.lock_free.specs.ReleaseState.TheVariants.{Locked, Unlocked}
use Rattle.lock_free.specs.Container.Contracts.{Answered, WasNotAdded, IsRightRemove, IsRightReplace, IsRightRecovery}
use Rattle.lock_free.specs.Container.Contracts.{IsRightLength, IsRightTest, IsRightLook}
use Rattle.lock_free_owners.specs.Worn.{BeginsAlone, LocksApart, is_locking}
use Rattle.uses_laws.specs.Wrong.{first, having_seen}
use Rattle.uses_laws.proofs.Moments.{throughout, at_none_since, both_of_two, one_of_two, none_stays}

-- the pass has seen this, and then the end of the call
abbrev Saw : List (Event ℕ) → ℕ → ContainerStart ℕ → Answer ℕ → View ℕ → Type 0
Saw before by start answer w = w.seen ≡ before ++ Finished by (Container start) answer ∷ []

abbrev saw : List (Event ℕ) → ℕ → ContainerStart ℕ → Answer ℕ → View ℕ
saw before by start answer = having_seen (before ++ Finished by (Container start) answer ∷ [])

-- what a contract says of an answer is said of the history before the call's end
said : (start : ContainerStart ℕ) (answer : Answer ℕ) (Right : ℕ → List (Event ℕ) → Type 0) (before : List (Event ℕ)) (by : ℕ) (v w : View ℕ)
    → Saw before by start answer w
    → Answered start answer Right v w
    → Right by before
said start answer Right before by v w is answered =
    let e =
    same_from_push before answered.before (Finished by (Container start) answer)
    (Finished answered.by (Container start) answer) (sym is ∙ answered.is) in
    let ends : Finished by (Container start) answer ≡ Finished answered.by (Container start) answer = e.1 in
    let who : answered.by ≡ by = cc in
    subst (λ (p : ℕ). Right p before) who (subst (λ (es : List (Event ℕ)). Right answered.by es) (sym e.0) answered.right)

-- ---- an add

-- an add that answers that the container is locked, which it is not, is refused
pub add_says_locked : (value owner by : ℕ) (before : List (Event ℕ)) (v w : View ℕ)
    → Saw before by (Add value owner) (NoPlace failures.IsLocked) w
    → is_locked before ≡ false
    → WasNotAdded value owner failures.IsLocked v w
    → ⊥
add_says_locked value owner by before v w is unlocked was_not_added =
    let locked : is_locked before ≡ true = said (Add value owner) (NoPlace failures.IsLocked) _ before by v w is was_not_added.answered in
    cc

-- an add that answers that there is no space, though the container is locked, is refused
pub add_says_full : (value owner by : ℕ) (before : List (Event ℕ)) (v w : View ℕ)
    → Saw before by (Add value owner) (NoPlace failures.OutOfSpace) w
    → is_locked before ≡ true
    → WasNotAdded value owner failures.OutOfSpace v w
    → ⊥
add_says_full value owner by before v w is locked was_not_added =
    let unlocked : is_locked before ≡ false = (said (Add value owner) (NoPlace failures.OutOfSpace) _ before by v w is was_not_added.answered).0 in
    cc

-- a history in which there is room, and the counter is not worn
abbrev begun : List (Event ℕ)
begun = Begun 0 (Container (Add 5 7)) ∷ []

-- No two calls that may lock overlap in this history.
adds_apart : LocksApart (begun ++ Finished 0 (Container (Add 5 7)) (NoPlace failures.OutOfSpace) ∷ [])
adds_apart =
    Each-append BeginsAlone [] (begun ++ Finished 0 (Container (Add 5 7)) (NoPlace failures.OutOfSpace) ∷ []) (Each-nil BeginsAlone)
    ((λ locks. cc), (tt, tt))

-- an add that answers that there is no space, where each index is free throughout, is refused
pub add_fails_with_room : WasNotAdded 5 7 failures.OutOfSpace first (saw begun 0 (Add 5 7) (NoPlace failures.OutOfSpace)) → ⊥
add_fails_with_room was_not_added =
    ⊎_elim (λ worn. let late : 2 ^ 64 - 2 ≤ 0 = worn adds_apart in absurd (omega arith))
    (λ full. at_none_since 0 (Container (Add 5 7)) (IsFilled 0) [] [] (λ e. cc) (full 0 (omega arith)))
    (said (Add 5 7) (NoPlace failures.OutOfSpace) _ begun 0 first (saw begun 0 (Add 5 7) (NoPlace failures.OutOfSpace)) refl was_not_added.answered).1

-- ---- a remove

abbrev giving : ℕ → ℕ → ReleaseMode → GiveBack
giving index owner mode = record { index = index; owner = owner; mode = mode }

-- it fails of an index that its owner has
pub remove_fails_of_its_owner : (index owner by : ℕ) (mode : ReleaseMode) (failure : ContainerRemoveError) (before : List (Event ℕ))
    (v w : View ℕ)
    → Saw before by (Remove index owner mode) (NotRemoved failure) w
    → index < v.capacity
    → filled_of index before ≡ Some owner
    → IsRightRemove (giving index owner mode) (Err failure) v w
    → ⊥
remove_fails_of_its_owner index owner by mode failure before v w is within has right_remove =
    ⊎_elim (λ (past : v.capacity ≤ index). absurd (omega arith)) (λ other. other has)
    (said (Remove index owner mode) (NotRemoved failure) _ before by v w is right_remove)

-- a remove that answers Locked where nothing is locked is refused
pub remove_says_locked : (index owner by : ℕ) (mode : ReleaseMode) (before : List (Event ℕ)) (v w : View ℕ)
    → Saw before by (Remove index owner mode) (State Locked) w
    → is_locked before ≡ false
    → IsRightRemove (giving index owner mode) (Ok Locked) v w
    → ⊥
remove_says_locked index owner by mode before v w is unlocked right_remove =
    let locked : is_locked before ≡ true = said (Remove index owner mode) (State Locked) _ before by v w is right_remove in
    cc

-- a remove that may lock
abbrev removes : ContainerStart ℕ
removes = Remove 0 7 LockIfLastIndex

-- a history in which all was locked before the call began
abbrev locked_first : ContainerStart ℕ → List (Event ℕ)
locked_first start = events.Locked 0 ∷ Begun 1 (Container start) ∷ []

-- a remove that may lock and answers Unlocked, where all was locked before it began, is refused
pub remove_says_unlocked : IsRightRemove (giving 0 7 LockIfLastIndex) (Ok Unlocked) first (saw (locked_first removes) 1 removes (State Unlocked)) → ⊥
remove_says_unlocked right_remove =
    at_none_since 1 (Container removes) IsUnlocked (events.Locked 0 ∷ []) [] (λ e. cc)
    (said removes (State Unlocked) _ (locked_first removes) 1 first (saw (locked_first removes) 1 removes (State Unlocked)) refl right_remove).0

-- a history in which the call has freed the last index, and did not lock
abbrev emptied : ContainerStart ℕ → List (Event ℕ)
emptied start = Filled 0 0 7 ∷ Begun 1 (Container start) ∷ FreedOf 1 0 7 ∷ []

no_call : (b : Bool) → is_locking {T = ℕ} (if b then Never else Never) ≡ false
no_call true = refl
no_call false = refl

-- No two calls that may lock overlap in this history.
apart : (start : ContainerStart ℕ) (answer : Answer ℕ) → LocksApart (emptied start ++ Finished 1 (Container start) answer ∷ [])
apart start answer =
    Each-append BeginsAlone [] (emptied start ++ Finished 1 (Container start) answer ∷ []) (Each-nil BeginsAlone)
    (tt, ((λ locks q. no_call (0 == q)), (tt, (tt, tt))))

-- a remove that has freed the last index, might lock and answers Unlocked is refused
pub remove_leaves_the_last : IsRightRemove (giving 0 7 LockIfLastIndex) (Ok Unlocked) first (saw (emptied removes) 1 removes (State Unlocked)) → ⊥
remove_leaves_the_last right_remove =
    ⊎_elim (λ worn. let late : 2 ^ 64 - 2 ≤ 6 = worn (apart removes (State Unlocked)) in absurd (omega arith))
    (λ since. at_none_since 1 (Container removes) (λ part. IsOneOf (Frees 0 7) (set_acts_of 1 part) × IsFilled since.other part)
    (Filled 0 0 7 ∷ []) (FreedOf 1 0 7 ∷ [])
    ((λ h. no_more h.0.before (Frees 0 7) h.0.after h.0.is), (λ h. none_stays (0 == since.other) h.1))
    since.once)
    (said removes (State Unlocked) _ (emptied removes) 1 first (saw (emptied removes) 1 removes (State Unlocked)) refl right_remove).1

-- ---- a replace

abbrev replacing : ℕ → ℕ → ℕ → Replacement ℕ
replacing index value owner = record { index = index; owner = owner; value = value }

-- it fails of an index that its owner has
pub replace_fails_of_its_owner : (index value owner by : ℕ) (failure : ContainerRemoveError) (before : List (Event ℕ)) (v w : View ℕ)
    → Saw before by (Replace index value owner) (NotRemoved failure) w
    → index < v.capacity
    → filled_of index before ≡ Some owner
    → IsRightReplace (replacing index value owner) (Err failure) v w
    → ⊥
replace_fails_of_its_owner index value owner by failure before v w is within has right_replace =
    ⊎_elim (λ (past : v.capacity ≤ index). absurd (omega arith)) (λ other. other has)
    (said (Replace index value owner) (NotRemoved failure) _ before by v w is right_replace)

-- a replace that succeeds at an index past the capacity is refused
pub replace_past_the_capacity : (index value owner by : ℕ) (before : List (Event ℕ)) (v w : View ℕ)
    → Saw before by (Replace index value owner) Done w
    → v.capacity ≤ index
    → IsRightReplace (replacing index value owner) (Ok tt) v w
    → ⊥
replace_past_the_capacity index value owner by before v w is past right_replace =
    let within : index < v.capacity = (said (Replace index value owner) Done _ before by v w is right_replace).0 in
    absurd (omega arith)

-- a history in which another owner has the index
abbrev of_another : List (Event ℕ)
of_another = Filled 0 0 9 ∷ Begun 1 (Container (Replace 0 5 7)) ∷ []

-- a replace by an owner who never had the index is refused
pub replace_of_another : IsRightReplace (replacing 0 5 7) (Ok tt) first (saw of_another 1 (Replace 0 5 7) Done) → ⊥
replace_of_another right_replace =
    at_none_since 1 (Container (Replace 0 5 7)) (IsFilledWith 7 0) (Filled 0 0 9 ∷ []) [] (λ e. cc)
    (said (Replace 0 5 7) Done _ of_another 1 first (saw of_another 1 (Replace 0 5 7) Done) refl right_replace).1

-- ---- a recovery

abbrev dead : ℕ → ReleaseMode → DeadOwner
dead owner mode = record { owner = owner; mode = mode }

-- a recovery that answers Locked where nothing is locked is refused
pub recovery_says_locked : (owner by : ℕ) (mode : ReleaseMode) (before : List (Event ℕ)) (v w : View ℕ)
    → Saw before by (Recover owner mode) (State Locked) w
    → is_locked before ≡ false
    → IsRightRecovery (dead owner mode) Locked v w
    → ⊥
recovery_says_locked owner by mode before v w is unlocked right_recovery =
    let locked : is_locked before ≡ true = said (Recover owner mode) (State Locked) _ before by v w is right_recovery in
    cc

-- a recovery for owner 7
abbrev recovers : ReleaseMode → ContainerStart ℕ
recovers mode = Recover 7 mode

-- a recovery that answers Unlocked where all was locked when it began is refused
pub recovery_says_unlocked : (mode : ReleaseMode)
    → IsRightRecovery (dead 7 mode) Unlocked first (saw (locked_first (recovers mode)) 1 (recovers mode) (State Unlocked))
    → ⊥
recovery_says_unlocked mode right_recovery =
    let right = said (recovers mode) (State Unlocked) _ (locked_first (recovers mode)) 1 first
    (saw (locked_first (recovers mode)) 1 (recovers mode) (State Unlocked)) refl right_recovery in
    at_none_since 1 (Container (recovers mode)) (λ part. IsUnlocked part × (set_acts_of 1 part ≡ set_acts_of 1 (locked_first (recovers mode))))
    (events.Locked 0 ∷ []) [] (λ h. let e = h.0 in cc)
    right.0

-- a history in which a recovery asked about nothing, although an index had its owner throughout
abbrev unasked : List (Event ℕ)
unasked = Filled 0 0 7 ∷ Begun 1 (Container (recovers Default)) ∷ []

-- a recovery that answers Unlocked and asked about no index, although its owner had one
-- throughout, is refused
pub recovery_asks_nothing : IsRightRecovery (dead 7 Default) Unlocked first (saw unasked 1 (recovers Default) (State Unlocked)) → ⊥
recovery_asks_nothing right_recovery =
    let right = said (recovers Default) (State Unlocked) _ unasked 1 first (saw unasked 1 (recovers Default) (State Unlocked)) refl right_recovery in
    ⊎_elim (λ one. no_more one.before (Asks 0 7) one.after one.is) (λ one. no_more one.before (Sees 0) one.after one.is)
    (right.1.asked 0 (throughout 1 (Container (recovers Default)) (StillToFree 1 7 0) (Filled 0 0 7 ∷ []) [] (inl refl)))

-- a recovery that has freed the last index, might lock and answers Unlocked is refused
pub recovery_leaves_the_last : IsRightRecovery (dead 7 LockIfLastIndex) Unlocked first
    (saw (emptied (recovers LockIfLastIndex)) 1 (recovers LockIfLastIndex) (State Unlocked))
    → ⊥
recovery_leaves_the_last right_recovery =
    let right = said (recovers LockIfLastIndex) (State Unlocked) _ (emptied (recovers LockIfLastIndex)) 1 first
    (saw (emptied (recovers LockIfLastIndex)) 1 (recovers LockIfLastIndex) (State Unlocked)) refl right_recovery in
    ⊎_elim (λ worn. let late : 2 ^ 64 - 2 ≤ 6 = worn (apart (recovers LockIfLastIndex) (State Unlocked)) in absurd (omega arith))
    (λ since. at_none_since 1 (Container (recovers LockIfLastIndex))
    (λ part. IsOneOf (Frees 0 7) (set_acts_of 1 part) × IsFilled since.other part)
    (Filled 0 0 7 ∷ []) (FreedOf 1 0 7 ∷ [])
    ((λ h. no_more h.0.before (Frees 0 7) h.0.after h.0.is), (λ h. none_stays (0 == since.other) h.1))
    since.once)
    (right.2 0 (record { before = []; after = []; is = refl }))

-- ---- how many

-- a length above 0 of a locked container is refused
pub length_of_a_locked_container : (number by : ℕ) (before : List (Event ℕ)) (v w : View ℕ)
    → Saw before by Len (Number (suc number)) w
    → is_locked before ≡ true
    → IsRightLength (suc number) v w
    → ⊥
length_of_a_locked_container number by before v w is locked right_length =
    let none : suc number ≡ 0 = (said Len (Number (suc number)) _ before by v w is right_length).none locked in
    cc

-- a history in which one index had an owner at each moment of a call
abbrev one : ContainerStart ℕ → List (Event ℕ)
one start = Filled 0 0 7 ∷ Begun 1 (Container start) ∷ []

-- a length of two, where only one index had an owner at any moment, is refused
pub counts_two_of_one : IsRightLength 2 first (saw (one Len) 1 Len (Number 2)) → ⊥
counts_two_of_one right_length =
    let right = (said Len (Number 2) _ (one Len) 1 first (saw (one Len) 1 Len (Number 2)) refl right_length).some refl in
    at_none_since 1 (Container Len) (IsFilled 1) (Filled 0 0 7 ∷ []) [] (λ e. cc)
    (right.once 1 (omega arith) (both_of_two right.chosen right.is))

-- a length of none, where one index had an owner throughout, is refused
pub counts_none_of_one : IsRightLength 0 first (saw (one Len) 1 Len (Number 0)) → ⊥
counts_none_of_one right_length =
    let right = (said Len (Number 0) _ (one Len) 1 first (saw (one Len) 1 Len (Number 0)) refl right_length).some refl in
    one_of_two right.chosen (right.through 0 (omega arith) (throughout 1 (Container Len) (IsFilled 0) (Filled 0 0 7 ∷ []) [] refl)) right.is

-- a test that answers that a locked container is not empty is refused
pub test_of_a_locked_container : (by : ℕ) (before : List (Event ℕ)) (v w : View ℕ)
    → Saw before by IsEmpty (Truth false) w
    → is_locked before ≡ true
    → IsRightTest false v w
    → ⊥
test_of_a_locked_container by before v w is locked right_test =
    let right = said IsEmpty (Truth false) _ before by v w is right_test in
    let none : false ≡ true = right.is ∙ ap (λ (n : ℕ). n == 0) (right.length.none locked) in
    cc

-- ---- a look at the lock

-- a look that answers true where nothing is locked is refused
pub look_says_otherwise : (by : ℕ) (before : List (Event ℕ)) (v w : View ℕ) → Saw before by IsLocked (Truth true) w
    → is_locked before ≡ false
    → IsRightLook true v w
    → ⊥
look_says_otherwise by before v w is unlocked right_look =
    let locked : true ≡ is_locked before = said IsLocked (Truth true) _ before by v w is right_look in
    cc
