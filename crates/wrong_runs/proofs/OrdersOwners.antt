-- Wrong bodies of the robust index set: for each a run or a turn that it makes, and what refuses that.
use Rattle.std.proofs.Common.{◌≡◌, ℕ, ◌+◌, ◌==◌, Bool, true, false, List, [], ◌∷◌, ◌++◌, if◌then◌else◌, refl, arith}
use Rattle.steps.specs.declared.indices.enums.ReleaseMode.TheVariants.{Default, LockIfLastIndex}
use Rattle.steps.specs.declared.indices.enums.ReleaseState.TheVariants.{Unlocked}
use Rattle.steps.specs.declared.indices.enums.UniqueIndexSetAcquireFailure.TheVariants.{OutOfIndices}
use Rattle.model.specs.declared.event.Answer.TheVariants.{Index, NoIndex, State, Number}
use Rattle.model.specs.declared.event.Event.{Event}
use Rattle.model.specs.declared.event.Event.TheVariants.{Begun, Filled, Granted, FreedOf, Asked, Told, Locked, Finished}
use Rattle.model.specs.declared.event.Start.{Start}
use Rattle.model.specs.declared.event.Start.TheVariants as starts
use Rattle.model.specs.declared.families.indices.robust.RobustStart.TheVariants.{Acquire, Release, Find, Recover}
use Rattle.model.specs.declared.turn.Turn.{Turn}
use Rattle.model.specs.declared.turn.Turn.TheVariants.{Next, Decide}
use Rattle.model.specs.Families.Indices.Robust.Promises.{IsRobustSet, FreesRight, IsWellFormed, IsFilled, IsFilledWith, count_below}
use Rattle.model.specs.Families.Indices.Robust.Reading.{Asks, Frees, set_acts_of, IsOneOf}
use Rattle.model.specs.Promises.{IsTurn}
use Rattle.model.proofs.Readings.{Each-append, Each-nil, no_more}
use Rattle.headline.specs.Headline.{RobustRuns}
use Rattle.wrong_runs.proofs.HeadlineRobust.{held_since, none_stays}
use Rattle.wrong_runs.proofs.Machines.{at_no_moment}
use Rattle.wrong_runs.proofs.Robust.{set}

abbrev acquire : ℕ → Start ℕ
acquire owner = starts.Robust (Acquire owner)

abbrev find : Start ℕ
find = starts.Robust (Find 7)

-- owner 7 was granted index 0, and owner 9 index 1
abbrev granted : List (Event ℕ)
granted =
    Begun 0 (acquire 7)
    ∷ Filled 0 0 7
    ∷ Granted 0 0 7
    ∷ Finished 0 (acquire 7) (Index 0)
    ∷ Begun 0 (acquire 9)
    ∷ Filled 0 1 9
    ∷ Granted 0 1 9
    ∷ Finished 0 (acquire 9) (Index 1)
    ∷ []

-- every acquire answers that no index is left, though index 0 was filled at no moment of the call
every_acquire_fails : IsRobustSet (set (0 ∷ 7 ∷ 9 ∷ []) (Begun 0 (acquire 7) ∷ Finished 0 (acquire 7) (NoIndex OutOfIndices) ∷ [])) → ⊥
every_acquire_fails robust_set =
    at_no_moment 0 (IsFilled 0) (Begun 0 (acquire 7) ∷ []) ((λ e. cc), (λ e. cc))
    ((robust_set.answers (Begun 0 (acquire 7) ∷ []) [] (Finished 0 (acquire 7) (NoIndex OutOfIndices)) refl).1 0 (omega arith))

-- ---- the lock

-- A recovery that has freed the index of owner 9 locks, and counts no cell: owner 7 has an index.
abbrev uncounted : List (Event ℕ)
uncounted =
    granted
    ++ Begun 1 (starts.Robust (Recover LockIfLastIndex))
    ∷ Asked 1 1 9
    ∷ Told 1 1 9
    ∷ FreedOf 1 1 9
    ∷ Locked 1
    ∷ []

-- The run in which the recovery locks without counting is well-formed.
uncounted_well_formed : IsWellFormed uncounted
uncounted_well_formed =
    Each-append FreesRight [] uncounted (Each-nil FreesRight)
    (tt, (tt, (tt, (tt, (tt, (tt, (tt, (tt, (tt, (tt, (tt, (tt, (tt, tt)))))))))))))

-- A lock while an owner holds an index is refused.
locks_without_counting : RobustRuns (set (0 ∷ 7 ∷ 9 ∷ []) uncounted) → ⊥
locks_without_counting robust_runs = let none = robust_runs.none_once_locked uncounted_well_formed uncounted [] refl refl 0 in cc

-- an acquire is granted an index after the lock
abbrev late : List (Event ℕ)
late = Begun 0 (acquire 7) ∷ Filled 0 0 7 ∷ Locked 1 ∷ Granted 0 0 7 ∷ []

-- The run in which an index is granted after the lock is well-formed.
late_well_formed : IsWellFormed late
late_well_formed = Each-append FreesRight [] late (Each-nil FreesRight) (tt, (tt, (tt, (tt, tt))))

-- An index that is granted after the lock is refused.
acquire_goes_on_after_lock : RobustRuns (set (0 ∷ 7 ∷ 9 ∷ []) late) → ⊥
acquire_goes_on_after_lock robust_runs = let none = robust_runs.none_once_locked late_well_formed late [] refl refl 0 in cc

-- ---- a recovery

-- A recovery was told to free the index of owner 7.
abbrev told : List (Event ℕ)
told = Filled 0 0 7 ∷ Begun 1 (starts.Robust (Recover Default)) ∷ Asked 1 0 7 ∷ Told 1 0 7 ∷ []

-- A recovery that was told to free an index, has freed nothing and answers Unlocked is refused.
recovers_nothing : RobustRuns (set (0 ∷ 7 ∷ 9 ∷ []) (told ++ Finished 1 (starts.Robust (Recover Default)) (State Unlocked) ∷ [])) → ⊥
recovers_nothing robust_runs = robust_runs.recovered 1 0 7 Default told ([], refl) (record { before = Asks 0 7 ∷ []; after = []; is = refl }) refl

-- ---- a release in the mode that locks

-- A release of index 0 for owner 7 in the mode that locks.
abbrev last : Start ℕ
last = starts.Robust (Release 0 7 LockIfLastIndex)

-- The release has freed the last index that was filled.
abbrev unlocked : List (Event ℕ)
unlocked = Filled 0 0 7 ∷ Begun 0 last ∷ FreedOf 0 0 7 ∷ []

-- a release that has freed the last index, might lock and answers Unlocked is refused
release_never_locks : IsRobustSet (set (0 ∷ 7 ∷ 9 ∷ []) (unlocked ++ Finished 0 last (State Unlocked) ∷ [])) → ⊥
release_never_locks robust_set =
    let since = (robust_set.answers unlocked [] (Finished 0 last (State Unlocked)) refl).1 in
    at_no_moment 0 (λ part. IsOneOf (Frees 0 7) (set_acts_of 0 part) × IsFilled since.other part) unlocked (
      (λ h. no_more h.0.before (Frees 0 7) h.0.after h.0.is),
      (
        (λ h. no_more h.0.before (Frees 0 7) h.0.after h.0.is),
        ((λ h. no_more h.0.before (Frees 0 7) h.0.after h.0.is), (λ h. none_stays (0 == since.other) h.1)),
      ),
    )
    since.once

-- ---- a find

-- Index 0 is filled for owner 7, and a find of this owner has begun.
abbrev finding : List (Event ℕ)
finding = Filled 0 0 7 ∷ Begun 1 find ∷ []

-- A count of 0 of two indices does not count index 0.
none_chosen : (chosen : ℕ → Bool) → count_below chosen 2 ≡ 0 → chosen 0 ≡ true → ⊥
none_chosen chosen none chosen_is =
    absurd (omega (arith, rw chosen_is at none))

not_stopped : ◌≡◌ {A = Turn ℕ} (Next 1) (Decide 1 false) → ⊥
not_stopped e = cc

-- A find that answers 0, though its owner had index 0 through the whole call, is refused.
find_does_nothing : IsTurn (set (0 ∷ 7 ∷ 9 ∷ []) finding) (Next 1) (set (0 ∷ 7 ∷ 9 ∷ []) (finding ++ Finished 1 find (Number 0) ∷ [])) → ⊥
find_does_nothing turn =
    let count = turn.tells.0.0 1 7 0 refl not_stopped in
    none_chosen count.chosen count.is (count.through 0 (omega arith) (held_since (IsFilledWith 7 0) 7 find refl))
