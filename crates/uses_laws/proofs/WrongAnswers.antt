-- A wrong answer of a call on a robust set, and that what the call's contract says of answers refuses it. Where it takes no
-- small history, it is said of every history.
use Rattle.std.proofs.Common.{◌≡◌, ◌≤◌, ⊎_elim, ℕ, suc, ◌-◌, ◌^◌, ◌==◌, Bool, true, false, Some, Ok, Err, List, [], ◌∷◌, ◌++◌}
use Rattle.std.proofs.Common.{if◌then◌else◌, refl, sym, subst, ◌∙◌, inl, arith}
use Rattle.std.proofs.lemmas.List.{same_from_push}
use Rattle.steps.specs.declared.indices.enums.RobustUniqueIndexSetReleaseError.{RobustUniqueIndexSetReleaseError}
use Rattle.model.specs.declared.event.Answer.{Answer}
use Rattle.model.specs.declared.event.Answer.TheVariants.{State, NotOwned, Number, Truth}
use Rattle.model.specs.declared.event.Event.{Event}
use Rattle.model.specs.declared.event.Event.TheVariants.{Begun, Filled, FreedOf, Finished}
use Rattle.model.specs.declared.event.Start.TheVariants.{Robust}
use Rattle.model.specs.declared.families.indices.robust.RobustStart.{RobustStart}
use Rattle.model.specs.declared.families.indices.robust.RobustStart.TheVariants.{Release, Recover, BorrowedIndices, IsLocked}
use Rattle.model.specs.Families.Indices.Reading.{is_locked}
use Rattle.model.specs.Families.Indices.Robust.Promises.{IsFilled, StillToFree}
use Rattle.model.specs.Families.Indices.Robust.Reading.{filled_of, Asks, Frees, set_acts_of, IsOneOf}
use Rattle.model.specs.Reading.{Never}
use Rattle.model.proofs.Readings.{Each-append, Each-nil, no_more}
use Rattle.lock_free.specs.HistoryView.View.{View}
use Rattle.lock_free.specs.ReleaseMode.{ReleaseMode}
use Rattle.lock_free.specs.ReleaseMode.TheVariants.{Default, LockIfLastIndex}
use Rattle.lock_free.specs.ReleaseState.TheVariants.{Locked, Unlocked}
use Rattle.lock_free.specs.Robust.Contracts.{Answered, IsRightRelease, IsRightRecovery, IsRightCount, IsRightLook}
use Rattle.lock_free_owners.specs.Worn.{BeginsAlone, LocksApart, is_locking}
use Rattle.uses_laws.specs.Wrong.{first, having_seen}
use Rattle.uses_laws.proofs.Moments.{throughout, at_none_since, both_of_two, one_of_two, none_stays}

-- the pass has seen this, and then the end of the call
abbrev Saw : List (Event ℕ) → ℕ → RobustStart → Answer ℕ → View ℕ → Type 0
Saw before by start answer w = w.seen ≡ before ++ Finished by (Robust start) answer ∷ []

abbrev saw : List (Event ℕ) → ℕ → RobustStart → Answer ℕ → View ℕ
saw before by start answer = having_seen (before ++ Finished by (Robust start) answer ∷ [])

-- what a contract says of an answer is said of the history before the call's end
said : (start : RobustStart) (answer : Answer ℕ) (Right : ℕ → List (Event ℕ) → Type 0) (before : List (Event ℕ)) (by : ℕ) (v w : View ℕ)
    → Saw before by start answer w
    → Answered start answer Right v w
    → Right by before
said start answer Right before by v w is answered =
    let e = same_from_push before answered.before (Finished by (Robust start) answer) (Finished answered.by (Robust start) answer) (sym is ∙ answered.is) in
    let ends : Finished by (Robust start) answer ≡ Finished answered.by (Robust start) answer = e.1 in
    let who : answered.by ≡ by = cc in
    subst (λ (p : ℕ). Right p before) who (subst (λ (es : List (Event ℕ)). Right answered.by es) (sym e.0) answered.right)

-- ---- a release

-- a release that fails although the owner has the index is refused
pub release_fails_of_its_owner : (index owner by : ℕ) (mode : ReleaseMode) (failure : RobustUniqueIndexSetReleaseError) (before : List (Event ℕ))
    (v w : View ℕ)
    → Saw before by (Release index owner mode) (NotOwned failure) w
    → filled_of index before ≡ Some owner
    → IsRightRelease index owner mode (Err failure) v w
    → ⊥
release_fails_of_its_owner index owner by mode failure before v w is has right_release =
    said (Release index owner mode) (NotOwned failure) _ before by v w is right_release has

-- a release that answers Locked where nothing is locked is refused
pub release_says_locked : (index owner by : ℕ) (mode : ReleaseMode) (before : List (Event ℕ)) (v w : View ℕ)
    → Saw before by (Release index owner mode) (State Locked) w
    → is_locked before ≡ false
    → IsRightRelease index owner mode (Ok Locked) v w
    → ⊥
release_says_locked index owner by mode before v w is unlocked right_release =
    let locked : is_locked before ≡ true = said (Release index owner mode) (State Locked) _ before by v w is right_release in
    cc

-- a release that may lock, and answers Unlocked where all is locked, is refused
pub release_says_unlocked : (index owner by : ℕ) (before : List (Event ℕ)) (v w : View ℕ)
    → Saw before by (Release index owner LockIfLastIndex) (State Unlocked) w
    → is_locked before ≡ true
    → IsRightRelease index owner LockIfLastIndex (Ok Unlocked) v w
    → ⊥
release_says_unlocked index owner by before v w is locked right_release =
    let unlocked : is_locked before ≡ false = (said (Release index owner LockIfLastIndex) (State Unlocked) _ before by v w is right_release).0 in
    cc

-- a history in which a release that may lock has freed the last index, and did not lock
abbrev releases : RobustStart
releases = Release 0 7 LockIfLastIndex

abbrev emptied : List (Event ℕ)
emptied = Filled 0 0 7 ∷ Begun 1 (Robust releases) ∷ FreedOf 1 0 7 ∷ []

no_call : (b : Bool) → is_locking {T = ℕ} (if b then Never else Never) ≡ false
no_call true = refl
no_call false = refl

-- No two calls that may lock overlap in this history.
apart : LocksApart (emptied ++ Finished 1 (Robust releases) (State Unlocked) ∷ [])
apart =
    Each-append BeginsAlone [] (emptied ++ Finished 1 (Robust releases) (State Unlocked) ∷ []) (Each-nil BeginsAlone)
    (tt, ((λ locks q. no_call (0 == q)), (tt, (tt, tt))))

-- a release that has freed the last index, might lock and answers Unlocked is refused
pub release_leaves_the_last : IsRightRelease 0 7 LockIfLastIndex (Ok Unlocked) first (saw emptied 1 releases (State Unlocked)) → ⊥
release_leaves_the_last right_release =
    ⊎_elim (λ worn. let late : 2 ^ 64 - 2 ≤ 6 = worn apart in absurd (omega arith))
    (λ since. at_none_since 1 (Robust releases) (λ part. IsOneOf (Frees 0 7) (set_acts_of 1 part) × IsFilled since.other part)
    (Filled 0 0 7 ∷ []) (FreedOf 1 0 7 ∷ [])
    ((λ h. no_more h.0.before (Frees 0 7) h.0.after h.0.is), (λ h. none_stays (0 == since.other) h.1))
    since.once)
    (said releases (State Unlocked) _ emptied 1 first (saw emptied 1 releases (State Unlocked)) refl right_release).1

-- ---- a recovery

-- a recovery that answers Locked where nothing is locked is refused
pub recovery_says_locked : (by : ℕ) (mode : ReleaseMode) (before : List (Event ℕ)) (v w : View ℕ)
    → Saw before by (Recover mode) (State Locked) w
    → is_locked before ≡ false
    → IsRightRecovery mode Locked v w
    → ⊥
recovery_says_locked by mode before v w is unlocked right_recovery =
    let locked : is_locked before ≡ true = said (Recover mode) (State Locked) _ before by v w is right_recovery in
    cc

-- a recovery that answers Unlocked where all is locked is refused
pub recovery_says_unlocked : (by : ℕ) (mode : ReleaseMode) (before : List (Event ℕ)) (v w : View ℕ)
    → Saw before by (Recover mode) (State Unlocked) w
    → is_locked before ≡ true
    → IsRightRecovery mode Unlocked v w
    → ⊥
recovery_says_unlocked by mode before v w is locked right_recovery =
    let unlocked : is_locked before ≡ false = (said (Recover mode) (State Unlocked) _ before by v w is right_recovery).0 in
    cc

-- a history in which a recovery asked about nothing, although an index had an owner throughout
abbrev unasked : List (Event ℕ)
unasked = Filled 0 0 7 ∷ Begun 1 (Robust (Recover Default)) ∷ []

-- a recovery that answers Unlocked and asked about no index, although one had an owner throughout, is refused
pub recovery_asks_nothing : IsRightRecovery Default Unlocked first (saw unasked 1 (Recover Default) (State Unlocked)) → ⊥
recovery_asks_nothing right_recovery =
    let right = said (Recover Default) (State Unlocked) _ unasked 1 first (saw unasked 1 (Recover Default) (State Unlocked)) refl right_recovery in
    let one = right.1.asked 0 7 (throughout 1 (Robust (Recover Default)) (StillToFree 1 7 0) (Filled 0 0 7 ∷ []) [] (inl refl)) in
    no_more one.before (Asks 0 7) one.after one.is

-- ---- a count

-- a count above 0 of a locked set is refused
pub count_of_a_locked_set : (number by : ℕ) (before : List (Event ℕ)) (v w : View ℕ)
    → Saw before by BorrowedIndices (Number (suc number)) w
    → is_locked before ≡ true
    → IsRightCount (suc number) v w
    → ⊥
count_of_a_locked_set number by before v w is locked right_count =
    let none : suc number ≡ 0 = (said BorrowedIndices (Number (suc number)) _ before by v w is right_count).0 locked in
    cc

-- a history in which one index had an owner at each moment of a count
abbrev one : List (Event ℕ)
one = Filled 0 0 7 ∷ Begun 1 (Robust BorrowedIndices) ∷ []

-- a count of two, where only one index had an owner at any moment, is refused
pub counts_two_of_one : IsRightCount 2 first (saw one 1 BorrowedIndices (Number 2)) → ⊥
counts_two_of_one right_count =
    let right = (said BorrowedIndices (Number 2) _ one 1 first (saw one 1 BorrowedIndices (Number 2)) refl right_count).1 refl in
    at_none_since 1 (Robust BorrowedIndices) (IsFilled 1) (Filled 0 0 7 ∷ []) [] (λ e. cc)
    (right.once 1 (omega arith) (both_of_two right.chosen right.is))

-- a count of none, where one index had an owner throughout, is refused
pub counts_none_of_one : IsRightCount 0 first (saw one 1 BorrowedIndices (Number 0)) → ⊥
counts_none_of_one right_count =
    let right = (said BorrowedIndices (Number 0) _ one 1 first (saw one 1 BorrowedIndices (Number 0)) refl right_count).1 refl in
    one_of_two right.chosen
    (right.through 0 (omega arith) (throughout 1 (Robust BorrowedIndices) (IsFilled 0) (Filled 0 0 7 ∷ []) [] refl))
    right.is

-- ---- a look at the lock

-- a look that answers true where nothing is locked is refused
pub look_says_otherwise : (by : ℕ) (before : List (Event ℕ)) (v w : View ℕ) → Saw before by IsLocked (Truth true) w
    → is_locked before ≡ false
    → IsRightLook true v w
    → ⊥
look_says_otherwise by before v w is unlocked right_look =
    let locked : true ≡ is_locked before = said IsLocked (Truth true) _ before by v w is right_look in
    cc
