-- For each field of what `headline` says of the container a run that this field refuses here.
use Rattle.std.proofs.Common.{◌≡◌, ⊎_elim, inl, inr, ℕ, ◌==◌, true, false, List, [], ◌∷◌, ◌++◌, refl, arith}
use Rattle.steps.specs.declared.indices.enums.ReleaseMode.{ReleaseMode}
use Rattle.steps.specs.declared.indices.enums.ReleaseMode.TheVariants.{Default, LockIfLastIndex}
use Rattle.steps.specs.declared.indices.enums.ReleaseState.TheVariants.{Unlocked}
use Rattle.model.specs.declared.event.Answer.TheVariants.{Done, Index, Number, State, Truth}
use Rattle.model.specs.declared.event.Event.{Event}
use Rattle.model.specs.declared.event.Event.TheVariants.{Begun, Filled, Granted, FreedOf, Told, Locked, Placed, Copied, Shown, Finished}
use Rattle.model.specs.declared.event.Start.{Start}
use Rattle.model.specs.declared.event.Start.TheVariants.{Container, Robust}
use Rattle.model.specs.declared.families.container.ContainerStart.TheVariants.{Add, Remove, Replace, Find, Recover, GetState, UpdateState}
use Rattle.model.specs.declared.families.indices.robust.RobustStart.TheVariants as robust
use Rattle.model.specs.declared.turn.Kind.TheVariants as kinds
use Rattle.model.specs.declared.turn.Turn.{Turn}
use Rattle.model.specs.Coding.{one_word}
use Rattle.model.specs.Families.Container.Promises.{IsWellFormedRun, ReplacesRight}
use Rattle.model.specs.Families.Container.Reading.{Copies, Sees, MayReplace}
use Rattle.model.specs.Families.Indices.Reading.{is_locked}
use Rattle.model.specs.Families.Indices.Robust.Promises.{FreesRight, IsFilled, IsFilledWith, IsUnlocked, StillToFree, count_below}
use Rattle.model.specs.Families.Indices.Robust.Reading.{Asks, Frees, Yes, set_acts_of, IsOneOf}
use Rattle.model.specs.Moments.{HeldSometime}
use Rattle.model.proofs.Readings.{Each-append, Each-nil, no_more}
use Rattle.model.proofs.Runs.{begins, ran}
use Rattle.headline.specs.Headline.{ContainerRuns}
use Rattle.wrong_runs.specs.Wrong.{two_grants}
use Rattle.wrong_runs.proofs.Container.{container, still, well_formed, forgotten, no_copy, copied, copied_well_formed, unplaced}
use Rattle.wrong_runs.proofs.Counting.{none_counted, counted_below, past_bound}
use Rattle.wrong_runs.proofs.HeadlineRobust.{over, over_well_formed, held_since, none_stays}
use Rattle.wrong_runs.proofs.HeadlineSets.{two}
use Rattle.wrong_runs.proofs.Machines.{at_no_moment, at_none_since, Stays}
use Rattle.wrong_runs.proofs.Robust.{well_formed as grants_well_formed}

-- What `headline` says of a container holds of these events.
abbrev runs : List (Event ℕ) → Type 0
runs events = ContainerRuns (container still events)

abbrev add : Start ℕ
add = Container (Add 5 7)

abbrev remove : ℕ → ℕ → Start ℕ
remove index owner = Container (Remove index owner Default)

abbrev replace : Start ℕ
replace = Container (Replace 0 5 7)

abbrev recover : ReleaseMode → Start ℕ
recover mode = Container (Recover 7 mode)

-- ---- indices

-- an index is filled for two owners
filled_twice : runs (Filled 0 0 7 ∷ Filled 1 0 9 ∷ []) → ⊥
filled_twice k = two (9 ∷ 7 ∷ []) (k.no_two_fill (Filled 0 0 7 ∷ Filled 1 0 9 ∷ []) [] refl 0) refl

-- an index is granted to two owners
granted_twice : runs two_grants → ⊥
granted_twice k = two (9 ∷ 7 ∷ []) (k.no_two_hold grants_well_formed two_grants [] refl 0) refl

-- The container is locked while an owner holds an index.
locked_over : runs over → ⊥
locked_over k = let none = k.none_once_locked over_well_formed over [] refl refl 0 in cc

-- An add answers an index that it was not granted.
answered_ungranted : runs unplaced → ⊥
answered_ungranted k = cc ((k.acquired 0 0 7 5 (Begun 0 add ∷ []) ([], refl)).0)

-- An add has filled index 5, which the container does not have, and was granted it.
abbrev past : List (Event ℕ)
past = Begun 0 add ∷ Filled 0 5 7 ∷ Granted 0 5 7 ∷ []

-- An add answers an index that the container does not have.
answered_past : runs (past ++ Finished 0 add (Index 5) ∷ []) → ⊥
answered_past k = absurd (omega (arith, (k.acquired 0 5 7 5 past ([], refl)).1))

-- An index is freed that is not filled.
freed_unfilled : runs (FreedOf 0 0 7 ∷ []) → ⊥
freed_unfilled k = cc ((k.freed 0 0 7 [] ([], refl)).0)

-- Index 0 is filled for owner 9, and a remove of it for owner 7 has begun.
abbrev of_another : List (Event ℕ)
of_another = Filled 1 0 9 ∷ Begun 0 (remove 0 7) ∷ []

-- An index is freed for owner 7 that is filled with owner 9.
freed_of_another : runs (of_another ++ FreedOf 0 0 7 ∷ []) → ⊥
freed_of_another k = cc ((k.freed 0 0 7 of_another ([], refl)).0)

-- An index is freed by an add.
freed_by_add : runs (Begun 0 add ∷ Filled 0 0 7 ∷ FreedOf 0 0 7 ∷ []) → ⊥
freed_by_add k = (k.freed 0 0 7 (Begun 0 add ∷ Filled 0 0 7 ∷ []) ([], refl)).1

-- Two indices are filled for owner 7, and a remove of index 1 has begun.
abbrev wrong_index : List (Event ℕ)
wrong_index = Filled 0 0 7 ∷ Filled 0 1 7 ∷ Begun 0 (remove 1 7) ∷ []

-- Index 0 is freed by a remove of index 1.
freed_by_wrong_index : runs (wrong_index ++ FreedOf 0 0 7 ∷ []) → ⊥
freed_by_wrong_index k = cc ((k.freed 0 0 7 wrong_index ([], refl)).1.0)

-- Index 0 is filled for owner 7, and a remove of it for owner 9 has begun.
abbrev wrong_owner : List (Event ℕ)
wrong_owner = Filled 0 0 7 ∷ Begun 0 (remove 0 9) ∷ []

-- An index of owner 7 is freed by a remove for owner 9.
freed_by_wrong_owner : runs (wrong_owner ++ FreedOf 0 0 7 ∷ []) → ⊥
freed_by_wrong_owner k = cc ((k.freed 0 0 7 wrong_owner ([], refl)).1.1)

-- Index 0 is filled for owner 9, and a recovery of owner 7 has begun.
abbrev wrong_recovery : List (Event ℕ)
wrong_recovery = Filled 0 0 9 ∷ Begun 1 (recover Default) ∷ []

-- An index of owner 9 is freed by a recovery of owner 7.
freed_by_wrong_recovery : runs (wrong_recovery ++ FreedOf 1 0 9 ∷ []) → ⊥
freed_by_wrong_recovery k = cc ((k.freed 1 0 9 wrong_recovery ([], refl)).1.0)

-- The recovery of an owner has begun, and was neither told to free the owner's index nor shown it empty.
abbrev untold : List (Event ℕ)
untold = Filled 0 0 7 ∷ Begun 1 (recover Default) ∷ []

-- A recovery frees an index that it was neither told to free nor shown empty.
freed_untold : runs (untold ++ FreedOf 1 0 7 ∷ []) → ⊥
freed_untold k =
    ⊎_elim (λ one. no_more one.before (Yes 0 7) one.after one.is) (λ one. no_more one.before (Sees 0) one.after one.is)
    (k.freed 1 0 7 untold ([], refl)).1.1

-- ---- elements, in a well-formed run

-- a value is copied that does not stand there
copies_nothing : runs copied → ⊥
copies_nothing k = cc (k.copied copied_well_formed 0 0 5 [] ([], refl))

-- an add ends, and has placed nothing
unplaced_well_formed : IsWellFormedRun (container still unplaced)
unplaced_well_formed =
    well_formed unplaced still (Each-append FreesRight [] unplaced (Each-nil FreesRight) (tt, (tt, tt)))
    (Each-append ReplacesRight [] unplaced (Each-nil ReplacesRight) (tt, (tt, tt)))

-- A container refuses an add that answers an index and has placed nothing.
adds_nothing : runs unplaced → ⊥
adds_nothing k = cc (k.added unplaced_well_formed 0 0 7 5 (Begun 0 add ∷ []) ([], refl))

-- An add has ended at index 0, and a replace of its value has begun.
abbrev replacing : List (Event ℕ)
replacing = Finished 0 (Container (Add 4 7)) (Index 0) ∷ Begun 0 replace ∷ []

-- The replace ends, and has placed nothing.
abbrev unreplaced : List (Event ℕ)
unreplaced = replacing ++ Finished 0 replace Done ∷ []

-- The replace was begun where its party may replace what stands at the index.
may_replace : MayReplace 0 0 7 replacing
may_replace =
    record {
      before = Finished 0 (Container (Add 4 7)) (Index 0) ∷ [];
      start = replace;
      since = [];
      is = refl;
      within = tt;
      holds = (refl, tt);
    }

-- The run with the replace that has placed nothing is well-formed.
unreplaced_well_formed : IsWellFormedRun (container still unreplaced)
unreplaced_well_formed =
    well_formed unreplaced still (Each-append FreesRight [] unreplaced (Each-nil FreesRight) (tt, (tt, (tt, tt))))
    (Each-append ReplacesRight [] unreplaced (Each-nil ReplacesRight) (tt, (tt, (may_replace, tt))))

-- A container refuses a replace that answers Done and has placed nothing.
replaces_nothing : runs unreplaced → ⊥
replaces_nothing k = cc (k.replaced unreplaced_well_formed 0 0 7 5 replacing ([], refl))

-- ---- what is copied

-- a find asks about a value that it has not copied
asks_uncopied : ContainerRuns (forgotten (begins 1 (Container (Find 1)) 4)) → ⊥
asks_uncopied container_runs = let asked_there = container_runs.asked 1 0 5 refl in no_copy asked_there.before (Copies 0 5) asked_there.is

-- a state shows a value that was not copied
shows_uncopied : ContainerRuns (forgotten (begins 1 (Container GetState) 4)) → ⊥
shows_uncopied k = let shown_there = k.shown 1 0 _ 5 refl refl refl in no_more shown_there.before (Copied 1 0 5) shown_there.after shown_there.is

-- ---- recovery

-- a recovery that answers Unlocked leaves an index that it was shown empty
abbrev shown : List (Event ℕ)
shown = Filled 0 0 7 ∷ Begun 1 (recover Default) ∷ Shown 1 0 ∷ []

-- A recovery that answers Unlocked, and has left an index that it was shown empty, is refused.
leaves_shown : runs (shown ++ Finished 1 (recover Default) (State Unlocked) ∷ []) → ⊥
leaves_shown k = k.recovered 1 0 7 Default shown ([], refl) (inr (record { before = []; after = []; is = refl })) refl

-- A recovery has begun, which has asked about no index and was shown none, while its owner has one.
abbrev unasked : List (Event ℕ)
unasked = Filled 0 0 7 ∷ Begun 1 (recover Default) ∷ []

-- A recovery answers Unlocked that has neither asked about its owner's index nor was shown it empty.
asks_nothing : runs (unasked ++ Finished 1 (recover Default) (State Unlocked) ∷ []) → ⊥
asks_nothing k =
    ⊎_elim (λ one. no_more one.before (Asks 0 7) one.after one.is) (λ one. no_more one.before (Sees 0) one.after one.is)
    (k.asked_each 1 0 7 Default unasked ([], refl) (held_since (StillToFree 1 7 0) 7 (recover Default) (inl refl)))

-- A recovery in the mode that locks has freed the one index that was filled.
abbrev emptied : List (Event ℕ)
emptied = Filled 0 0 7 ∷ Begun 1 (recover LockIfLastIndex) ∷ FreedOf 1 0 7 ∷ []

-- a recovery that might lock, leaves no index filled and answers Unlocked is refused
unlocked_empty : runs (emptied ++ Finished 1 (recover LockIfLastIndex) (State Unlocked) ∷ []) → ⊥
unlocked_empty k =
    let late = k.locks 1 0 7 emptied ([], refl) (record { before = []; after = []; is = refl }) in
    at_no_moment 1 (λ part. IsOneOf (Frees 0 7) (set_acts_of 1 part) × IsFilled late.other part) emptied (
      (λ h. no_more h.0.before (Frees 0 7) h.0.after h.0.is),
      (
        (λ h. no_more h.0.before (Frees 0 7) h.0.after h.0.is),
        ((λ h. no_more h.0.before (Frees 0 7) h.0.after h.0.is), (λ h. none_stays (0 == late.other) h.1)),
      ),
    )
    late.once

-- ---- a recovery that began after the lock

-- A recovery that began after the lock met the container unlocked at no moment.
never_unlocked : (before : List (Event ℕ)) → Stays (λ part. is_locked part ≡ false → ⊥) (before ++ Begun 1 (recover Default) ∷ []) []
    → HeldSometime 1 IsUnlocked (before ++ Begun 1 (recover Default) ∷ [])
    → ⊥
never_unlocked before locked held = at_none_since 1 (recover Default) IsUnlocked before [] locked held

-- A value stands at index 0, and the container is locked.
abbrev placed : List (Event ℕ)
placed = Placed 0 0 5 ∷ Locked 0 ∷ []

-- A recovery that began after the lock copies a value.
copies_late : runs ((placed ++ Begun 1 (recover Default) ∷ []) ++ Copied 1 0 5 ∷ []) → ⊥
copies_late k =
    never_unlocked placed (λ e. cc) (k.visits 1 7 Default (Copied 1 0 5) (placed ++ Begun 1 (recover Default) ∷ []) refl ([], refl) refl)

-- A recovery that began after the lock is shown that nothing stands at an index.
sees_late : runs ((Locked 0 ∷ Begun 1 (recover Default) ∷ []) ++ Shown 1 0 ∷ []) → ⊥
sees_late k =
    never_unlocked (Locked 0 ∷ []) (λ e. cc) (k.visits 1 7 Default (Shown 1 0) (Locked 0 ∷ Begun 1 (recover Default) ∷ []) refl ([], refl) refl)

-- Index 0 is filled, and the container is locked.
abbrev locked_full : List (Event ℕ)
locked_full = Filled 0 0 7 ∷ Locked 0 ∷ []

-- A recovery that began after the lock frees an index.
frees_late : runs ((locked_full ++ Begun 1 (recover Default) ∷ Told 1 0 7 ∷ []) ++ FreedOf 1 0 7 ∷ []) → ⊥
frees_late k =
    at_none_since 1 (recover Default) IsUnlocked locked_full (Told 1 0 7 ∷ []) ((λ e. cc), (λ e. cc))
    (k.visits 1 7 Default (FreedOf 1 0 7) (locked_full ++ Begun 1 (recover Default) ∷ Told 1 0 7 ∷ []) refl ([], refl) refl)

-- ---- what a find counts

abbrev find : Start ℕ
find = Container (Find 7)

-- a find counts an index that nobody has filled
finds_unfilled : runs (Begun 0 find ∷ Finished 0 find (Number 1) ∷ []) → ⊥
finds_unfilled k =
    let found = k.found 0 7 1 (Begun 0 find ∷ []) ([], refl) in
    none_counted found.count.chosen found.bound 0 found.count.is
    (λ index below one. at_no_moment 0 (IsFilledWith 7 index) (Begun 0 find ∷ []) ((λ e. cc), (λ e. cc)) (found.count.once index below one))

-- Three indices are filled for owner 7, in a container of two, and a find has begun.
abbrev three : List (Event ℕ)
three = Filled 0 0 7 ∷ Filled 0 1 7 ∷ Filled 0 2 7 ∷ Begun 1 find ∷ []

-- A find counts more indices than the container has.
finds_past : runs (three ++ Finished 1 find (Number 3) ∷ []) → ⊥
finds_past k =
    let found = k.found 1 7 3 three ([], refl) in
    past_bound found.bound (count_below found.count.chosen found.bound) found.within (counted_below found.count.chosen found.bound) found.count.is

-- ---- questions and changes

-- a call waits for a decision, and asks about no value
abbrev waiting : List (Turn ℕ)
waiting = begins 0 (Robust (robust.Acquire 1)) 8 ++ begins 1 (Robust (robust.Find 1)) 1

-- A call that waits for a decision and asks about no value is refused.
waits_for_nothing : ContainerRuns (ran one_word kinds.Robust 1 2 waiting) → ⊥
waits_for_nothing container_runs = cc (container_runs.waits 1)

-- the number of changes has gone on, and nothing has changed
changed_by_nobody : ContainerRuns (container (0 ∷ 7 ∷ 7 ∷ 1 ∷ 0 ∷ 0 ∷ 0 ∷ 0 ∷ []) []) → ⊥
changed_by_nobody container_runs = cc (container_runs.changes)

-- an update says that something has changed, and nothing has
update_of_nothing : runs (Finished 0 (Container UpdateState) (Truth true) ∷ []) → ⊥
update_of_nothing k = absurd (omega (arith, k.met 0 [] ([], refl)))

-- An add has ended.
abbrev added : List (Event ℕ)
added = Finished 1 add (Index 0) ∷ []

-- An update says that nothing has changed, though an add has ended since.
misses_an_add : runs (added ++ Finished 0 (Container UpdateState) (Truth false) ∷ []) → ⊥
misses_an_add k = cc (k.met_none 0 added ([], refl))
