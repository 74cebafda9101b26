-- For each field of what `headline` says of the robust index set a run that this field refuses here.
use Rattle.std.proofs.Common.{◌≡◌, ℕ, ◌==◌, Bool, true, false, Some, None, is_some, List, [], ◌∷◌, ◌++◌, if◌then◌else◌, refl, inl, arith}
use Rattle.steps.specs.declared.indices.enums.ReleaseMode.{ReleaseMode}
use Rattle.steps.specs.declared.indices.enums.ReleaseMode.TheVariants.{Default, LockIfLastIndex}
use Rattle.steps.specs.declared.indices.enums.ReleaseState.TheVariants.{Unlocked}
use Rattle.model.specs.declared.event.Answer.TheVariants.{Index, Number, State}
use Rattle.model.specs.declared.event.Event.{Event}
use Rattle.model.specs.declared.event.Event.TheVariants.{Begun, Filled, Granted, FreedOf, Asked, Told, Locked, Finished}
use Rattle.model.specs.declared.event.Start.{Start}
use Rattle.model.specs.declared.event.Start.TheVariants as starts
use Rattle.model.specs.declared.families.indices.robust.RobustStart.TheVariants.{Acquire, Find, Release, Recover}
use Rattle.model.specs.Families.Indices.Robust.Promises.{FreesRight, IsWellFormed, IsFilled, IsFilledWith, StillToFree, HeldThroughout, count_below}
use Rattle.model.specs.Families.Indices.Robust.Reading.{SetAct, Asks, Frees, Yes, set_acts_of, IsOneOf}
use Rattle.model.proofs.Readings.{Each-append, Each-nil, no_more}
use Rattle.headline.specs.Headline.{RobustRuns}
use Rattle.wrong_runs.specs.Wrong.{two_grants}
use Rattle.wrong_runs.proofs.Counting.{none_counted, counted_below, past_bound}
use Rattle.wrong_runs.proofs.HeadlineSets.{two}
use Rattle.wrong_runs.proofs.Machines.{at_no_moment, throughout}
use Rattle.wrong_runs.proofs.Robust.{set, well_formed}

-- What `headline` says of a robust set holds of these events.
abbrev robust : List (Event ℕ) → Type 0
robust events = RobustRuns (set (0 ∷ 7 ∷ 7 ∷ []) events)

abbrev acquire : Start ℕ
acquire = starts.Robust (Acquire 7)

abbrev release : ℕ → ℕ → Start ℕ
release index owner = starts.Robust (Release index owner Default)

abbrev recover : ReleaseMode → Start ℕ
recover mode = starts.Robust (Recover mode)

-- an index is filled for two owners
filled_twice : robust (Filled 0 0 7 ∷ Filled 1 0 9 ∷ []) → ⊥
filled_twice k = two (9 ∷ 7 ∷ []) (k.no_two_fill (Filled 0 0 7 ∷ Filled 1 0 9 ∷ []) [] refl 0) refl

-- an index is granted to two owners
granted_twice : robust two_grants → ⊥
granted_twice k = two (9 ∷ 7 ∷ []) (k.no_two_hold well_formed two_grants [] refl 0) refl

-- An index is granted, and the set is locked.
abbrev pub over : List (Event ℕ)
over = Granted 0 0 7 ∷ Locked 1 ∷ []

-- The events of `over` are well-formed.
pub over_well_formed : IsWellFormed over
over_well_formed = Each-append FreesRight [] over (Each-nil FreesRight) (tt, (tt, tt))

-- The set is locked while an owner holds an index.
locked_over : robust over → ⊥
locked_over k = let none = k.none_once_locked over_well_formed over [] refl refl 0 in cc

-- An acquire answers an index that it was not granted.
answered_ungranted : robust (Begun 0 acquire ∷ Finished 0 acquire (Index 0) ∷ []) → ⊥
answered_ungranted k = cc ((k.acquired 0 0 7 (Begun 0 acquire ∷ []) ([], refl)).0)

-- An acquire has filled index 5, which the set does not have, and was granted it.
abbrev past : List (Event ℕ)
past = Begun 0 acquire ∷ Filled 0 5 7 ∷ Granted 0 5 7 ∷ []

-- An acquire answers an index that the set does not have.
answered_past : robust (past ++ Finished 0 acquire (Index 5) ∷ []) → ⊥
answered_past k = absurd (omega (arith, (k.acquired 0 5 7 past ([], refl)).1))

-- An index is freed that is not filled.
freed_unfilled : robust (FreedOf 0 0 7 ∷ []) → ⊥
freed_unfilled k = cc ((k.freed 0 0 7 [] ([], refl)).0)

-- Index 0 is filled for owner 9, and a release of it for owner 7 has begun.
abbrev of_another : List (Event ℕ)
of_another = Filled 1 0 9 ∷ Begun 0 (release 0 7) ∷ []

-- An index is freed for owner 7 that is filled with owner 9.
freed_of_another : robust (of_another ++ FreedOf 0 0 7 ∷ []) → ⊥
freed_of_another k = cc ((k.freed 0 0 7 of_another ([], refl)).0)

-- An index is freed by an acquire.
freed_by_acquire : robust (Begun 0 acquire ∷ Filled 0 0 7 ∷ FreedOf 0 0 7 ∷ []) → ⊥
freed_by_acquire k = (k.freed 0 0 7 (Begun 0 acquire ∷ Filled 0 0 7 ∷ []) ([], refl)).1

-- Two indices are filled for owner 7, and a release of index 1 has begun.
abbrev wrong_index : List (Event ℕ)
wrong_index = Filled 0 0 7 ∷ Filled 0 1 7 ∷ Begun 0 (release 1 7) ∷ []

-- Index 0 is freed by a release of index 1.
freed_by_wrong_index : robust (wrong_index ++ FreedOf 0 0 7 ∷ []) → ⊥
freed_by_wrong_index k = cc ((k.freed 0 0 7 wrong_index ([], refl)).1.0)

-- Index 0 is filled for owner 7, and a release of it for owner 9 has begun.
abbrev wrong_owner : List (Event ℕ)
wrong_owner = Filled 0 0 7 ∷ Begun 0 (release 0 9) ∷ []

-- An index of owner 7 is freed by a release for owner 9.
freed_by_wrong_owner : robust (wrong_owner ++ FreedOf 0 0 7 ∷ []) → ⊥
freed_by_wrong_owner k = cc ((k.freed 0 0 7 wrong_owner ([], refl)).1.1)

-- A recovery has asked about index 0 of owner 7, and was told nothing.
abbrev untold : List (Event ℕ)
untold = Filled 0 0 7 ∷ Begun 1 (recover Default) ∷ Asked 1 0 7 ∷ []

-- A question is no yes.
no_yes : (before after : List SetAct) → Asks 0 7 ∷ [] ≡ before ++ Yes 0 7 ∷ after → ⊥
no_yes [] after split = cc
no_yes (a ∷ before) after split = let rest : [] ≡ before ++ Yes 0 7 ∷ after = cc in no_more before (Yes 0 7) after rest

-- A recovery frees an index about which it has asked, and was not told to free it.
freed_untold : robust (untold ++ FreedOf 1 0 7 ∷ []) → ⊥
freed_untold k = let yes = (k.freed 1 0 7 untold ([], refl)).1 in no_yes yes.before yes.after yes.is

-- A recovery was told to free an index of owner 7, and has not freed it.
abbrev told : List (Event ℕ)
told = Filled 0 0 7 ∷ Begun 1 (recover Default) ∷ Asked 1 0 7 ∷ Told 1 0 7 ∷ []

-- A recovery that answers Unlocked leaves its owner an index that it was told to free.
leaves_told : robust (told ++ Finished 1 (recover Default) (State Unlocked) ∷ []) → ⊥
leaves_told k = k.recovered 1 0 7 Default told ([], refl) (record { before = Asks 0 7 ∷ []; after = []; is = refl }) refl

-- ---- a recovery that has asked about nothing

-- where a call has just begun after one event, what holds now holds throughout the call
pub held_since : (P : List (Event ℕ) → Type 0) (owner : ℕ) (start : Start ℕ) → P (Filled 0 0 owner ∷ Begun 1 start ∷ [])
    → HeldThroughout 1 P (Filled 0 0 owner ∷ Begun 1 start ∷ [])
held_since P owner start h = throughout 1 start P (Filled 0 0 owner ∷ []) [] h

-- A recovery has begun and asked about no index, while index 0 is filled.
abbrev unasked : List (Event ℕ)
unasked = Filled 0 0 7 ∷ Begun 1 (recover Default) ∷ []

-- A recovery answers Unlocked, and has not asked about an index that was filled during the whole call.
asks_nothing : robust (unasked ++ Finished 1 (recover Default) (State Unlocked) ∷ []) → ⊥
asks_nothing k =
    let one = k.asked_each 1 0 7 Default unasked ([], refl) (held_since (StillToFree 1 7 0) 7 (recover Default) (inl refl)) in
    no_more one.before (Asks 0 7) one.after one.is

-- ---- a recovery that might lock ends unlocked, and after it has freed an index none is filled

pub none_stays : (b : Bool) → is_some {T = ℕ} (if b then None else (if b then Some 7 else None)) ≡ true → ⊥
none_stays true is_there = cc
none_stays false is_there = cc

-- A recovery in the mode that locks has freed the one index that was filled.
abbrev emptied : List (Event ℕ)
emptied = Filled 0 0 7 ∷ Begun 1 (recover LockIfLastIndex) ∷ FreedOf 1 0 7 ∷ []

-- a recovery that might lock, leaves no index filled and answers Unlocked is refused
unlocked_empty : robust (emptied ++ Finished 1 (recover LockIfLastIndex) (State Unlocked) ∷ []) → ⊥
unlocked_empty k =
    let late = k.locks 1 0 7 emptied ([], refl) (record { before = []; after = []; is = refl }) in
    at_no_moment 1 (λ part. IsOneOf (Frees 0 7) (set_acts_of 1 part) × IsFilled late.other part) emptied (
      (λ h. no_more h.0.before (Frees 0 7) h.0.after h.0.is),
      (
        (λ h. no_more h.0.before (Frees 0 7) h.0.after h.0.is),
        ((λ h. no_more h.0.before (Frees 0 7) h.0.after h.0.is), (λ h. none_stays (0 == late.other) h.1)),
      ),
    )
    late.once

-- ---- what a find counts

abbrev find : Start ℕ
find = starts.Robust (Find 7)

-- A find has begun, and no index is filled.
abbrev of_nothing : List (Event ℕ)
of_nothing = Begun 0 find ∷ []

-- A find counts an index that nobody has filled.
finds_unfilled : robust (of_nothing ++ Finished 0 find (Number 1) ∷ []) → ⊥
finds_unfilled k =
    let found = k.found 0 7 1 of_nothing ([], refl) in
    none_counted found.count.chosen found.bound 0 found.count.is
    (λ index below one. at_no_moment 0 (IsFilledWith 7 index) of_nothing ((λ e. cc), (λ e. cc)) (found.count.once index below one))

-- Three indices are filled for owner 7, in a set of two, and a find has begun.
abbrev three : List (Event ℕ)
three = Filled 0 0 7 ∷ Filled 0 1 7 ∷ Filled 0 2 7 ∷ Begun 1 find ∷ []

-- A find counts more indices than the set has.
finds_past : robust (three ++ Finished 1 find (Number 3) ∷ []) → ⊥
finds_past k =
    let found = k.found 1 7 3 three ([], refl) in
    past_bound found.bound (count_below found.count.chosen found.bound) found.within (counted_below found.count.chosen found.bound) found.count.is
