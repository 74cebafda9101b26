-- The last steps of a recovery at an index, and at its end: it raises the counter, tries to lock in mode
-- LockIfLastIndex, loads the counter again behind the last index, and counts its change. What a step has to
-- show is said by `StepOf` and `Leads` of `Stages`.
use Rattle.laws_container.proofs.Names.{◌≡◌, ⊎_elim, inl, inr, ℕ, ◌+◌, ◌*◌, ◌<◌, ◌≤◌, Bool, false, Option, Some, None}
use Rattle.laws_container.proofs.Names.{is_some, List, [], ◌∷◌, ◌++◌, set, refl, sym, ap, subst, append-nil, arith}
use Rattle.laws_container.proofs.Names.{fold-append, Ask, After, ReleaseMode, LockIfLastIndex, Default, ReleaseState}
use Rattle.laws_container.proofs.Names.{Lock, Raise, recover_raised, recover_locked, locked, greatest, first_lock}
use Rattle.laws_container.proofs.Names.{raise_after, raise_goes_back, lock_after, lock_goes_back, Event, Locked}
use Rattle.laws_container.proofs.Names.{Container, most_steps, promise, Sees, locked_after, IsFilled, Frees, Yes}
use Rattle.laws_container.proofs.Names.{Locks, holder_of, set_acts_of, HasJustFreed, Stands, Open, old_of}
use Rattle.laws_container.proofs.Names.{words_after, held_now, AllFollow, IsCalm, counter_of, times_below, was_one}
use Rattle.laws_container.proofs.Names.{is_shut, IsWorn, raise_ask, lock_ask, Goes, Party, raise_step, lock_moves}
use Rattle.laws_container.proofs.Names.{IsSaid, raise_number, lock_number, LockAt, one_of_none}
use Rattle.steps.specs.declared.ask.After.TheVariants.{Done}
use Rattle.steps.specs.declared.container.recover.RecoverStage.TheVariants as recovers
use Rattle.steps.specs.declared.indices.enums.ReleaseState.TheVariants as states
use Rattle.steps.specs.declared.indices.robust.parts.Raise.TheVariants as raises
use Rattle.model.specs.declared.families.container.ContainerStart.TheVariants.{Recover}
use Rattle.model.specs.Families.Indices.Robust.Steps.{locked_by}
use Rattle.laws_robust.proofs.Effects as set_effects
use Rattle.laws_robust.proofs.Knows as set_knows
use Rattle.laws_robust.proofs.Locks as set_locks
use Rattle.laws_robust.proofs.Stages as set_stages
use Rattle.laws_container.proofs.Invariant.{of_set, inv_of_set, wrote_of}
use Rattle.model.proofs.Locks.{locked_later}
use Rattle.laws_container.proofs.KeptLocks.{NoIndex, FilledBut, FoundFilled, filled_locked, filled_worn, filled_last}
use Rattle.laws_container.proofs.Knows.{RecoverKnows}
use Rattle.laws_container.proofs.RecoverParts.{Recovery, IsAtStage, as_given, OwnStep, fill_same, fill_stays, none, hidden_still, hidden_then, as_recover}
use Rattle.laws_container.proofs.RecoverParts.{first, Few, then_at, recs, asked_on, comes_to_next}
use Rattle.laws_container.proofs.RecoverEnds.{LeavesAllBut, stays_recs, stays_on, stays_next, just_on}
use Rattle.laws_container.proofs.RecoverReads.{IsInCourseAt, course_calm, back_at_least}
use Rattle.laws_container.proofs.RecoverReads.{index_at_least}
use Rattle.laws_container.proofs.Recoveries.{course_then}
use Rattle.laws_container.proofs.SetSteps.{rest_set, wide_set, locks}
use Rattle.laws_container.proofs.Stages.{all, done, sees_now, Leads}
use Rattle.laws_container.proofs.Stages.{backs_then, since_then, changes_then, was_well_formed}
use Rattle.laws_container.proofs.CallProgress.{for_back, for_index}

-- the bound on the steps of a recovery, written as these files count them
pub most_is : (c z : ℕ) (owner backs : ℕ) (T : Type 0) (mode : ReleaseMode)
    → 3 + c * for_index c z mode + backs * for_back c z mode ≡ most_steps {T = T} c z (Recover owner mode) backs
most_is = grind arith

-- a recovery of `owner` in mode `mode` is under way, by party `p` of the scene
module _ {T : Type 0} (recovery : Recovery T) where
  open recovery use {scene, inv, owner, mode}
  open recovery.scene use {coding as code, capacity as c, party as p, steps, backs, events}

  abbrev ws : List ℕ
  ws = scene.words

  abbrev z : ℕ
  z = code.size

  -- ---- the raise of the counter

  -- the recovery has freed `index`, and is in the raise of the counter
  module _ {index : ℕ} {raise : Raise} (here : IsAtStage recovery (recovers.Raises index raise))
      (course : IsInCourseAt recovery index (index + 1)) (just : HasJustFreed (all scene))
      (knows : RecoverKnows code c owner mode here.room (recovers.Raises index raise) (sees_now scene))
      (few_steps : steps ≤ 6 + z + raise_number raise + index * for_index c z mode + backs * for_back c z mode)
      (filled_since : FilledBut (IsWorn scene.terms.by ws) mode p owner (λ i. i ≡ index) events) where
    -- what a step of the raise leads to, as a step of the recovery
    abbrev raises_to : Option Ask → Bool → After Raise ReleaseState → Type 0
    raises_to ask back r =
        Leads scene (Recover owner mode) ask back scene.states [] (as_recover recovery here.room (recover_raised (first recovery) index mode r))

    -- a recovery whose raise has ended goes on to the lock in mode LockIfLastIndex, and
    -- else to the next index
    by_mode : (m : ReleaseMode) → mode ≡ m → (ask : Option Ask) (back : Bool)
        → LeavesAllBut recovery ask back
        → Few recovery ask back (8 + z) index
        → Leads scene (Recover owner mode) ask back scene.states [] (as_recover recovery here.room
        (recover_raised (first recovery) index m (Done states.Unlocked)))
    -- in mode Default the recovery comes to the next index
    by_mode Default mode_is ask back leaves few =
        let wide = index_at_least c z mode in
        stays_next recovery here leaves index knows.1 (omega arith) course
        (subst (λ m. FilledBut (IsWorn scene.terms.by (words_after ws ask)) m p owner NoIndex (events ++ [])) (sym mode_is) tt)
    -- in mode LockIfLastIndex the recovery comes to the first step of the lock
    by_mode LockIfLastIndex mode_is ask back leaves few =
        let party_after = then_at recovery here.room (recovers.Locks index first_lock) ask back in
        stays_on recovery here leaves (recovers.Locks index first_lock) (omega arith) (
          course_calm recovery index (index + 1) index (index + 1) course course.within (omega arith),
          just_on recovery just,
          mode_is,
          tt,
        ) (
          here.long,
          (leaves.paid, stays_recs recovery here leaves index knows.1 party_after, tt),
          (fill_stays recovery ask leaves.stays (λ i. i ≡ index) filled_since, tt),
        )

    -- the step of a raise in a recovery: it goes on in the raise, to the lock or to the next index, and where
    -- the set is locked to count its change
    pub raises_step : raises_to (Some (raise_ask raise)) (raise_goes_back raise (counter_of ws)) (raise_after raise (counter_of ws))
    raises_step =
        let one = back_at_least c z mode in
        raise_step (of_set scene) (inv_of_set scene inv) raises_to raise (record {
          paid = knows.0;
          -- the raise goes on: it has read the counter, or has found it moved
          goes = λ number ask back same held few.
              let low = few (6 + z + index * for_index c z mode) (for_back c z mode) (omega arith) (omega arith) in
              let leaves : LeavesAllBut recovery ask back = record { stays = stays_same ask same; paid = held_is ask back number held } in
              let party_after = then_at recovery here.room (recovers.Raises index (raises.ExchangesCounter number)) ask back in
              stays_on recovery here leaves (recovers.Raises index (raises.ExchangesCounter number)) (omega arith)
              (course_calm recovery index (index + 1) index (index + 1) course course.within (omega arith), just_on recovery just) (
                here.long,
                (
                  subst (λ es. set_knows.Holding number (set_stages.seen (of_set scene) ask back es)) (sym (append-nil events)) held,
                  stays_recs recovery here leaves index knows.1 party_after,
                ),
                fill_stays recovery ask leaves.stays (λ i. i ≡ index) filled_since,
              );
          -- the set is locked: the recovery goes on to count its change
          meets = λ ask back same shut paid few.
              let low = few (6 + z + index * for_index c z mode) (for_back c z mode) (omega arith) (omega arith) in
              let wide = index_at_least c z mode in
              let times = times_below c index (for_index c z mode) course.within in
              let leaves : LeavesAllBut recovery ask back = record { stays = stays_same ask same; paid = paid } in
              stays_on recovery here leaves (recovers.AddsChange states.Locked) (omega arith) tt (
                here.long,
                (
                  paid,
                  locked_later events [] (is_shut (of_set scene) (inv_of_set scene inv) shut),
                  hidden_still recovery here ask (then_at recovery here.room (recovers.AddsChange states.Locked) ask back) knows.1.hidden,
                ),
                tt,
              );
          -- the counter is at its end, and stays there
          rests = λ ask back same worn end paid few.
              let low = few (6 + z + index * for_index c z mode) (for_back c z mode) (omega arith) (omega arith) in
              by_mode mode refl ask back (record { stays = stays_same ask same; paid = paid }) (omega arith);
          -- the counter is raised
          closes = λ ask less new paid few.
              let low = few (6 + z + index * for_index c z mode) (for_back c z mode) (omega arith) (omega arith) in
              by_mode mode refl ask false
              (record { stays = set_effects.stays_raised (of_set scene) (inv_of_set scene inv) (words_after ws ask) less new; paid = paid })
              (omega arith);
        })
      where
        stays_same : (ask : Option Ask) → words_after ws ask ≡ ws → set_effects.Stays (of_set scene) (words_after ws ask)
        stays_same ask same = set_effects.stays_same (of_set scene) (inv_of_set scene inv) (words_after ws ask) same

        held_is : (ask : Option Ask) (back : Bool) (number : ℕ)
            → set_knows.Holding number (set_stages.sees (of_set scene) ask back)
            → backs_then scene back + since_then scene ask ≤ changes_then scene ask
        held_is = grind arith

  -- ---- the lock

  -- the recovery has freed `index` and raised the counter, and is in the lock, in mode LockIfLastIndex
  module _ {index : ℕ} {lock : Lock} (here : IsAtStage recovery (recovers.Locks index lock))
      (course : IsInCourseAt recovery index (index + 1)) (just : HasJustFreed (all scene)) (may_lock : mode ≡ LockIfLastIndex) (stands : LockAt c lock)
      (knows : RecoverKnows code c owner mode here.room (recovers.Locks index lock) (sees_now scene))
      (few_steps : steps ≤ 8 + z + lock_number c lock + index * for_index c z mode + backs * for_back c z mode)
      (filled_since : FilledBut (IsWorn scene.terms.by ws) mode p owner (λ i. i ≡ index) events
      × set_knows.LockSays c (FoundFilled p events) lock) where
    -- what a step of the lock leads to, as a step of the recovery
    abbrev locks_to : Option Ask → Bool → List (Event T) → After Lock ReleaseState → Type 0
    locks_to ask back did r =
        Leads scene (Recover owner mode) ask back scene.states (did ++ []) (as_recover recovery here.room (recover_locked (first recovery) index r))

    for_a_back : for_back c z mode ≡ z + c + 4
    for_a_back = ap (for_back c z) may_lock

    for_an_index : for_index c z mode ≡ z + c + 10
    for_an_index = ap (for_index c z) may_lock

    -- an index was found filled after all that the recovery had done to the set
    abbrev Says : ℕ → ℕ → Type 0
    Says = FoundFilled p events

    -- a lock that finds an index filled finds it so after all that the recovery has freed
    said : IsSaid (of_set scene) (inv_of_set scene inv) Says
    said =
        record {
          none = λ some. absurd (omega arith);
          empty_next = λ j filled low none h. h;
          filled_next =
              λ j filled o low is h some. record {
                other = j;
                once = held_now p (λ part. IsFilled j part × (set_acts_of p part ≡ set_acts_of p events)) events (ap is_some is, refl);
              };
        }

    abbrev locking : List (Event T)
    locking = Locked p ∷ []

    -- a recovery whose lock sets the counter to locked goes on to the next index, or behind the last one to
    -- its last load of the counter
    locks_set : (ask : Option Ask) → (IsCalm scene.terms.by events → (i : ℕ) → holder_of i events ≡ None)
        → counter_of ws < greatest → words_after ws ask ≡ set ws 0 locked
        → backs_then scene false + since_then scene ask ≤ changes_then scene ask
        → Few recovery ask false 1 (index + 1)
        → locks_to ask false locking (Done states.Locked)
    locks_set ask nobody less new paid few =
        let set_does = set_locks.locks (of_set scene) (inv_of_set scene inv) set_effects.quiet_none tt tt tt nobody less new in
        let step = λ (y : Party T). own_lock ask y set_does.goes in
        comes_to_next recovery here index ask false (record {
          longer = λ start w. refl;
          follows = subst (λ m. AllFollow (Stands promise c) (Open (Container (Recover owner m)) (wrote_of p events)) locking) (sym may_lock) (just, tt);
          does = λ y owe.
              locks (as_given recovery here) y
              (rest_set scene 0 locked (omega arith) new)
              (wide_set scene 0 locked new)
              set_does (was_well_formed scene (Recover owner mode) tt here.call.span (words_after ws ask) y locking (refl, tt))
              (λ was. owe);
          few = few;
          below = course.within;
          -- the lock frees no index and asks about none, so the recovery keeps its course
          course = λ i low. course_then (Locks ∷ []) []
              course low (omega arith) tt tt
              (λ j was. ⊎_elim (λ had. inl had) (λ e. absurd (cc)) (was_one (Frees j owner) Locks (all scene) was));
          paid = paid;
          rec = λ y. recs recovery here (step y) knows.1 (record {
            New = none;
            asked = asked_on recovery here (step y) (index + 1) knows.1.asked;
            told = λ i said. inl (⊎_elim (λ yes. ⊎_elim (λ had. inl had) (λ e. absurd (cc)) (was_one (Yes i owner) Locks (all scene) yes))
                (λ seen. inr (one_of_none (Sees i) (done scene) seen)) said);
            was = λ i e. absurd e;
            new = λ i e. absurd e;
            hidden = hidden_then recovery here (step y)
                (λ i was. ⊎_elim (λ had. had) (λ e. absurd (cc)) (was_one (Frees i owner) Locks (all scene) was))
                knows.1.hidden;
          });
          fill = filled_locked p owner (IsWorn scene.terms.by (words_after ws ask)) mode NoIndex (events ++ locking)
              (fold-append locked_after false events locking);
        })
      where
        own_lock : (ask : Option Ask) (y : Party T) → Goes ws (words_after ws ask) events locking → OwnStep recovery ask false y locking
        own_lock ask y goes = record { own = (refl, tt); fresh = tt; longer = λ start w. refl; goes = goes }

    -- the step of a lock in a recovery: it goes on in the lock, or to the next index once the lock has ended,
    -- whatever that answers
    pub locks_step : locks_to (Some (lock_ask lock)) (lock_goes_back lock (old_of ws (Some (lock_ask lock))))
        (locked_by p lock (old_of ws (Some (lock_ask lock)))) (lock_after c lock (old_of ws (Some (lock_ask lock))))
    locks_step =
        let wide = for_a_back in
        let each = for_an_index in
        lock_moves (of_set scene) (inv_of_set scene inv) Says said locks_to lock (record {
          at = stands;
          paid = knows.0;
          scanned = knows.2;
          says = filled_since.1;
          -- the lock goes on
          goes = λ next ask back stays next_at held scanned says few.
              let low = few (8 + z + index * for_index c z mode) (for_back c z mode) (omega arith) (omega arith) in
              let paid = lock_paid next ask back held in
              let leaves : LeavesAllBut recovery ask back = record { stays = stays; paid = paid } in
              let party_after = then_at recovery here.room (recovers.Locks index next) ask back in
              stays_on recovery here leaves (recovers.Locks index next) (omega arith) (
                course_calm recovery index (index + 1) index (index + 1) course course.within (omega arith),
                just_on recovery just,
                may_lock,
                next_at,
              ) (
                here.long,
                (
                  paid_calm next ask back held,
                  stays_recs recovery here leaves index knows.1 party_after,
                  scanned_calm next ask back scanned,
                ),
                (
                  fill_stays recovery ask stays (λ i. i ≡ index) filled_since.0,
                  subst (λ es. set_knows.LockSays c (FoundFilled p es) next) (sym (append-nil events)) says,
                ),
              );
          -- the set is locked already
          meets = λ ask same shut paid few.
              let low = few (8 + z + index * for_index c z mode) (for_back c z mode) (omega arith) (omega arith) in
              let stays = set_effects.stays_same (of_set scene) (inv_of_set scene inv) (words_after ws ask) same in
              let leaves : LeavesAllBut recovery ask false = record { stays = stays; paid = paid } in
              stays_next recovery here leaves index knows.1 (omega arith) course (fill_same recovery ask same NoIndex
              (filled_locked p owner (IsWorn scene.terms.by ws) mode NoIndex events (is_shut (of_set scene) (inv_of_set scene inv) shut)));
          -- an index is filled, so the lock is not made
          finds = λ filled ask stays open_now more says paid few.
              let low = few (8 + z + index * for_index c z mode) (for_back c z mode) (omega arith) (omega arith) in
              let leaves : LeavesAllBut recovery ask false = record { stays = stays; paid = paid } in
              stays_next recovery here leaves index knows.1 (omega arith) course
              (fill_stays recovery ask stays NoIndex (filled_last p owner (IsWorn scene.terms.by ws) mode NoIndex events (says more)));
          -- the counter is at its end, so the lock is not made
          rests = λ ask stays open_now worn paid few.
              let low = few (8 + z + index * for_index c z mode) (for_back c z mode) (omega arith) (omega arith) in
              let leaves : LeavesAllBut recovery ask false = record { stays = stays; paid = paid } in
              stays_next recovery here leaves index knows.1 (omega arith) course
              (filled_worn p owner (IsWorn scene.terms.by (words_after ws ask)) mode NoIndex (events ++ []) worn);
          -- no index is filled, and the lock is made
          shuts = λ ask nobody less new paid few.
              let low = few (8 + z + index * for_index c z mode) (for_back c z mode) (omega arith) (omega arith) in
              locks_set ask nobody less new paid (omega arith);
        })
      where
        held_paid : (held : Option ℕ) (ask : Option Ask) (back : Bool)
            → set_knows.Paid held (set_stages.sees (of_set scene) ask back)
            → backs_then scene back + since_then scene ask ≤ changes_then scene ask
        held_paid = grind arith

        lock_paid : (next : Lock) (ask : Option Ask) (back : Bool)
            → set_knows.Paid (set_knows.lock_holds next) (set_stages.sees (of_set scene) ask back)
            → backs_then scene back + since_then scene ask ≤ changes_then scene ask
        lock_paid next ask back paid = held_paid (set_knows.lock_holds next) ask back paid

        -- what is paid for a lock's turns back is paid still after a step that writes nothing
        paid_calm : (next : Lock) (ask : Option Ask) (back : Bool)
            → set_knows.Paid (set_knows.lock_holds next) (set_stages.sees (of_set scene) ask back)
            → set_knows.Paid (set_knows.lock_holds next) (set_stages.seen (of_set scene) ask back (events ++ []))
        paid_calm = grind (arith, append-nil)

        scanned_calm : (next : Lock) (ask : Option Ask) (back : Bool)
            → set_knows.Scanned (set_knows.lock_scan c next) (set_stages.sees (of_set scene) ask back)
            → set_knows.Scanned (set_knows.lock_scan c next) (set_stages.seen (of_set scene) ask back (events ++ []))
        scanned_calm = grind (arith, append-nil)
