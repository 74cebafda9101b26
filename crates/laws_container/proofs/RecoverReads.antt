-- The steps of a recovery before its question: it loads the counter; then at each index the cell, the number
-- of the element, and, under an odd number, its words (`RecoverWords`). What a step has to show is said by
-- `StepOf` and `Leads` of `Stages`.
use Rattle.laws_container.proofs.Names.{◌≡◌, ◌≢◌, ◌⊎◌, ⊎_elim, inl, inr, ℕ, ◌+◌, ◌*◌, ◌<◌, ◌≤◌, ◌==◌, if◌then◌else◌}
use Rattle.laws_container.proofs.Names.{nat_lt, Bool, false, true, Option, Some, None, is_some, List, [], ◌∷◌, ◌++◌}
use Rattle.laws_container.proofs.Names.{refl, sym, ap, subst, ◌∙◌, append-nil, arith, nat_tests, Ask, After, GoOn}
use Rattle.laws_container.proofs.Names.{ReleaseState, RecoverStage, ReleaseMode, LockIfLastIndex, Default, count_word}
use Rattle.laws_container.proofs.Names.{is_even, recover_comes_to, recover_ends, recover_sees, cell_word, locked}
use Rattle.laws_container.proofs.Names.{Event, Shown, Party, WasShown, Act, Sees, acts_of, seen_in, contents_of}
use Rattle.laws_container.proofs.Names.{IsFilledWith, IsUnlocked, HeldThroughout, StillToFree, SetAct, Frees, Asks}
use Rattle.laws_container.proofs.Names.{Yes, set_acts_of, IsOneOf, asked_in, words_after, AllByRecursion, AreOwn}
use Rattle.laws_container.proofs.Names.{BeginsNone, step_count, held_now, held_later, no_more, IsWorn, counter_of}
use Rattle.laws_container.proofs.Names.{cell, filled_by, is_shut, unlocked, through_now, loads_same, one_of_none}
use Rattle.laws_container.proofs.Names.{last_one, was_one}
use Rattle.steps.specs.declared.container.recover.Recover as recover_calls
use Rattle.steps.specs.declared.container.recover.RecoverStage.TheVariants as recovers
use Rattle.steps.specs.declared.copied.Buffer as buffers
use Rattle.steps.specs.declared.indices.enums.ReleaseState.TheVariants as states
use Rattle.model.specs.declared.families.container.ContainerStart.TheVariants.{Recover}
use Rattle.lemmas_owners.proofs.Operations as operations
use Rattle.laws_container.proofs.Copies.{copying_first}
use Rattle.laws_container.proofs.Core.{count_at}
use Rattle.laws_container.proofs.Finds.{nothing_stands}
use Rattle.laws_container.proofs.HiddenKnows.{HasHidden}
use Rattle.laws_container.proofs.Invariant.{AreAllRight, before, of_set, inv_of_set}
use Rattle.model.proofs.Locks.{locked_later}
use Rattle.laws_container.proofs.KeptLocks.{NoIndex, FilledBut, filled_none}
use Rattle.laws_container.proofs.Knows.{WasFilled, Recovers, RecoverKnows, Knows}
use Rattle.laws_container.proofs.RecoverParts.{Recovery, IsAtStage, OwnStep, fill_same, none, hidden_still, hidden_then, as_recover, first, then_at}
use Rattle.laws_container.proofs.RecoverParts.{reads_does, go_on, recs, fills_on, asked_on, asked_more, told_none, comes_to_next}
use Rattle.laws_container.proofs.Recoveries.{course_then}
use Rattle.laws_container.proofs.Silent.{Silent, silent_set}
use Rattle.laws_container.proofs.Stages.{all, done, sees_now, then_sees, ShowsThen, StepOf, Leads}
use Rattle.laws_container.proofs.Stages.{Lengthens, none_lengthens, backs_then, since_then, changes_then, acts_more}
use Rattle.laws_container.proofs.Stages.{was_well_formed}
use Rattle.laws_container.proofs.CallProgress.{recover_at, recover_number, for_back, for_index, AreBelow, IsInCourse, RecoverAt}
use Rattle.laws_container.proofs.Turns.{count_in}
use Rattle.laws_container.proofs.Writing.{even_is, odd_is}
use Rattle.lemmas.proofs.Cases.{on_bool}

pub none_is : {T : Type 0} (o : Option T) → is_some o ≡ false → o ≡ None
none_is None nothing = refl
none_is (Some x) nothing = absurd (cc)

pub back_at_least : (c z : ℕ) (mode : ReleaseMode) → z + 1 ≤ for_back c z mode
back_at_least c z Default = omega arith
back_at_least c z LockIfLastIndex = omega arith

pub index_at_least : (c z : ℕ) (mode : ReleaseMode) → z + 7 ≤ for_index c z mode
index_at_least c z Default = omega arith
index_at_least c z LockIfLastIndex = omega arith

-- a recovery of `owner` in mode `mode` is under way, by party `p` of the scene
module _ {T : Type 0} (recovery : Recovery T) where
  open recovery use {scene, inv, owner, mode, fits}
  open recovery.scene use {coding as code, capacity as c, party as p, steps, backs, events}

  abbrev ws : List ℕ
  ws = scene.words

  abbrev z : ℕ
  z = code.size

  -- a step with the operation `ask` that writes `es` leads the recovery to stage `next`
  abbrev pub LeadsToStage : Option Ask → Bool → List (Event T) → buffers.Buffer 128 → RecoverStage → Type 0
  LeadsToStage ask back es room next =
      ShowsThen scene (Recover owner mode) ask back scene.states es (GoOn (recover_at c owner mode room next))

  -- a step with the operation `ask` that writes `es` leads to what becomes of the recovery
  abbrev pub LeadsOn : Option Ask → Bool → List (Event T) → buffers.Buffer 128 → After (recover_calls.Recover T (buffers.Buffer 128)) ReleaseState → Type 0
  LeadsOn ask back es room a =
      ShowsThen scene (Recover owner mode) ask back scene.states es (as_recover recovery room a)

  -- the recovery is at `index`, has seen indices below `bound`, and has asked about each that it has freed,
  -- or was shown it
  abbrev pub IsInCourseAt : ℕ → ℕ → Type 0
  IsInCourseAt index bound = IsInCourse c z (all scene) (done scene) owner index bound

  right_none : (words' : List ℕ) (y : Party T) → AreAllRight scene words' y []
  right_none = grind arith

  -- a recovery keeps its course over a step that writes nothing, and may move on to a higher bound
  pub course_calm : (index bound index' bound' : ℕ) → IsInCourseAt index bound → index' < c → bound ≤ bound'
      → IsInCourse c z (all scene ++ []) (done scene ++ []) owner index' bound'
  course_calm index bound index' bound' on_course low more =
      course_then [] [] on_course low more tt tt
      (λ j was. inl (one_of_none (Frees j owner) (all scene) was))

  -- ---- any step that changes and writes nothing

  -- the operation `ask` leaves the words, and the recovery has paid for its turns back
  pub record LeavesWords (ask : Option Ask) (back : Bool) : Type 0 where
    pub same : words_after ws ask ≡ ws
    pub paid : backs_then scene back + since_then scene ask ≤ changes_then scene ask

  -- a step that leaves the words and writes silent events, which begin and end no call, is one of the recovery's own
  pub silent_step : {ask : Option Ask} (back : Bool) (y : Party T) (es : List (Event T)) → words_after ws ask ≡ ws
      → AllByRecursion Silent es → AreOwn p es → BeginsNone p es → Lengthens es → OwnStep recovery ask back y es
  silent_step {ask} back y es same silent own fresh longer =
      record { own = own; fresh = fresh; longer = longer; goes = (silent_set inv (words_after ws ask) same y es silent own).goes }

  -- the recovery is at `stage`, and takes a step that leaves the words
  module _ {stage : RecoverStage} (here : IsAtStage recovery stage) {ask : Option Ask} {back : Bool} (leaves : LeavesWords ask back) where
    abbrev calm_step : (y : Party T) → OwnStep recovery ask back y []
    calm_step y = silent_step back y [] leaves.same tt tt tt none_lengthens

    -- what a recovery knows of the indices below `k` it knows after a step that changes and writes nothing
    pub calm_recs : (y : Party T) (k : ℕ) → Recovers code c owner k none none (sees_now scene)
        → Recovers code c owner k none none (then_sees scene ask back scene.states y [])
    calm_recs y k known =
        recs recovery here (calm_step y) known (record {
          New = none;
          asked = asked_on recovery here (calm_step y) k known.asked;
          told = told_none recovery here;
          was = λ i e. absurd e;
          new = λ i e. absurd e;
          hidden = hidden_still recovery here ask y known.hidden;
        })

    -- a recovery that has asked about index `k`, or was shown it, or need not free it, has come past it
    calm_recs_more : (y : Party T) {k : ℕ} → Recovers code c owner k none none (sees_now scene)
        → (HeldThroughout p (StillToFree p owner k) (events ++ [])
        → IsOneOf (Asks k owner) (set_acts_of p (events ++ [])) ⊎ WasShown p k (events ++ []))
        → Recovers code c owner (k + 1) none none (then_sees scene ask back scene.states y [])
    calm_recs_more y {k} known now =
        recs recovery here (calm_step y) known (record {
          New = none;
          asked = asked_more recovery here (calm_step y) k known.asked now;
          told = told_none recovery here;
          was = λ i e. absurd e;
          new = λ i e. absurd e;
          hidden = hidden_still recovery here ask y known.hidden;
        })

    -- a step that changes and writes nothing leads a recovery to the stage `next`, where the conditions of
    -- that stage hold
    pub calm_on : (room' : buffers.Buffer 128) (next : RecoverStage)
        → steps + step_count ask ≤ recover_number c z mode next (backs_then scene back)
        → RecoverAt c z (all scene ++ []) (done scene ++ []) owner mode next
        → Knows code c (recover_at c owner mode room' next)
        (then_sees scene ask back scene.states (then_at recovery room' next ask back) [])
        → LeadsToStage ask back [] room' next
    calm_on room' next few stands known =
        go_on recovery here room' next ask back (record {
          longer = none_lengthens;
          does = reads_does recovery here leaves.same tt tt (right_none (words_after ws ask) (then_at recovery room' next ask back)) refl;
          follows = tt;
          few = few;
          stands = stands;
          known = known;
        })

    -- a step that changes and writes nothing brings a recovery to the next index, or behind the last one to
    -- its last load of the counter
    pub calm_next : (index : ℕ)
        → steps + step_count ask ≤ 1 + (index + 1) * for_index c z mode + backs_then scene back * for_back c z mode
        → IsInCourseAt index index ⊎ IsInCourseAt index (index + 1)
        → ((y : Party T) → Recovers code c owner (index + 1) none none (then_sees scene ask back scene.states y []))
        → FilledBut (IsWorn scene.terms.by ws) mode p owner NoIndex events
        → LeadsOn ask back [] here.room (recover_comes_to (first recovery) (index + 1))
    calm_next index few course rec filled_but =
        comes_to_next recovery here index ask back (record {
          longer = none_lengthens;
          follows = tt;
          does = λ y owe. reads_does recovery here leaves.same tt tt (right_none (words_after ws ask) y) owe;
          few = few;
          below = ⊎_elim (λ h. h.within) (λ h. h.within) course;
          course = λ i low.
              ⊎_elim (λ h. course_calm index index i (index + 1) h low (omega arith))
              (λ h. course_calm index (index + 1) i (index + 1) h low (omega arith)) course;
          paid = leaves.paid;
          rec = rec;
          fill = fill_same recovery ask leaves.same NoIndex filled_but;
        })

  -- ---- the counter

  -- the recovery is at its first step, in which it loads the counter
  module _ (here : IsAtStage recovery recovers.LoadsCounter)
      (stands : RecoverAt c z (all scene) (done scene) owner mode recovers.LoadsCounter)
      (knows : RecoverKnows code c owner mode here.room recovers.LoadsCounter (sees_now scene)) (few_steps : steps ≤ 0) where
    abbrev load_counter : Option Ask
    load_counter = Some (operations.loads 0)

    -- a recovery at its first step has freed no index, so there is nothing to hide
    nothing_freed : HasHidden code c p owner none (before scene)
    nothing_freed holds i was = absurd (no_more was.before (Frees i owner) was.after (sym stands.0 ∙ was.is))

    -- the step in which a recovery loads the counter first: it goes on to count its change if that is locked,
    -- and else goes to the first index
    pub counter_step : StepOf scene (Recover owner mode) (recover_at c owner mode here.room recovers.LoadsCounter)
    counter_step =
        on_bool (λ b. Leads scene (Recover owner mode) (Some (operations.loads 0)) false scene.states []
        (as_recover recovery here.room (if b then recover_ends (first recovery) states.Locked else recover_comes_to (first recovery) 0)))
        (counter_of ws == locked)
        (λ t.
        let shut : counter_of ws ≡ locked = grind (arith, nat_tests) in
        calm_on here leaves here.room (recovers.AddsChange states.Locked) (omega arith) tt (
          here.long,
          (
            leaves.paid,
            locked_later events [] (is_shut (of_set scene) (inv_of_set scene inv) shut),
            hidden_still recovery here load_counter (then_at recovery here.room (recovers.AddsChange states.Locked) load_counter false) nothing_freed,
          ),
          tt,
        ))
        (λ t.
        let open_now : counter_of ws ≢ locked = grind (arith, nat_tests) in
        next open_now (nat_lt 0 c) refl)
      where
        leaves : LeavesWords load_counter false
        leaves = record { same = loads_same ws 0; paid = let paid = knows.0 in omega arith }

        -- where the counter is not locked the recovery goes to the first index, or to its last
        -- steps if there is none
        next : counter_of ws ≢ locked → (b : Bool) → nat_lt 0 c ≡ b
            → LeadsOn (Some (operations.loads 0)) false [] here.room (GoOn (record (first recovery) {
              stage = if b then recovers.LoadsCell 0 else recovers.LoadsCounterAgain;
            }))
        next open_now true index_test =
            let some = inv.good.some in
            let party_after = then_at recovery here.room (recovers.LoadsCell 0) load_counter false in
            let now : Recovers code c owner 0 none none (sees_now scene) =
            record {
              dead = knows.1;
              was_open = held_now p IsUnlocked events (unlocked (of_set scene) (inv_of_set scene inv) open_now);
              asked = λ i below. absurd (omega arith);
              gone = knows.2;
              hidden = nothing_freed;
            } in
            calm_on here leaves here.room (recovers.LoadsCell 0) (omega arith)
            (record {
              within = omega arith;
              seen = subst (λ (d : List (Act T)). AreBelow 0 (seen_in (d ++ []))) (sym stands.1) tt;
              asked = subst (λ (d : List SetAct). AreBelow 0 (asked_in (d ++ []))) (sym stands.0) tt;
              freed = λ i was. let h = one_of_none (Frees i owner) (all scene) was in absurd (no_more h.before (Frees i owner) h.after (sym stands.0 ∙ h.is));
            }) (
              here.long,
              (leaves.paid, calm_recs here leaves party_after 0 now),
              fill_same recovery load_counter (loads_same ws 0) NoIndex (filled_none p owner (IsWorn scene.terms.by ws) mode NoIndex events stands.0),
            )
        next open_now false index_test = let some = inv.good.some in let nothing : c ≤ 0 = grind (arith, nat_tests) in absurd (omega arith)

  -- ---- a cell

  -- the recovery loads the cell of `index`, and has come past the indices below it
  module _ {index : ℕ} (here : IsAtStage recovery (recovers.LoadsCell index)) (course : IsInCourseAt index index)
      (knows : RecoverKnows code c owner mode here.room (recovers.LoadsCell index) (sees_now scene))
      (few_steps : steps ≤ 1 + index * for_index c z mode + backs * for_back c z mode)
      (filled_since : FilledBut (IsWorn scene.terms.by ws) mode p owner NoIndex events) where
    abbrev load_cell : Option Ask
    load_cell = Some (operations.loads (cell_word index))

    loads_cell : LeavesWords load_cell false
    loads_cell = record { same = loads_same ws (cell_word index); paid = let paid = knows.0 in omega arith }

    -- an index whose cell has another owner is none that the recovery must free
    not_to_free : cell ws index ≢ owner → HeldThroughout p (StillToFree p owner index) (events ++ [])
        → IsOneOf (Asks index owner) (set_acts_of p (events ++ [])) ⊎ WasShown p index (events ++ [])
    not_to_free = grind (arith, append-nil, through_now)

    -- the step in which a recovery loads a cell: it goes on to the number of the element if the cell has the
    -- owner, and else to the next index
    pub cell_step : StepOf scene (Recover owner mode) (recover_at c owner mode here.room (recovers.LoadsCell index))
    cell_step =
        on_bool (λ b. Leads scene (Recover owner mode) (Some (operations.loads (cell_word index))) false scene.states []
        (as_recover recovery here.room
        (if b then GoOn (record (first recovery) { stage = recovers.LoadsCount index }) else recover_comes_to
        (first recovery) (index + 1))))
        (cell ws index == owner)
        -- the cell has the recovery's owner: the recovery goes on to the number of the element
        (λ t.
        let has_owner : cell ws index ≡ owner = grind (arith, nat_tests) in
        let y = then_at recovery here.room (recovers.LoadsCount index) load_cell false in
        calm_on here loads_cell here.room (recovers.LoadsCount index) (omega arith) (course_calm index index index index course course.within (omega arith)) (
          here.long,
          (
            loads_cell.paid,
            calm_recs here loads_cell y index knows.1,
            held_later p (IsFilledWith owner index) events [] tt
                (held_now p (IsFilledWith owner index) events
                (filled_by (of_set scene) (inv_of_set scene inv) index course.within owner fits has_owner)),
          ),
          fill_same recovery load_cell (loads_same ws (cell_word index)) NoIndex filled_since,
        ))
        -- the cell has another owner or none: the recovery goes on to the next index
        (λ t.
        let other : cell ws index ≢ owner = grind (arith, nat_tests) in
        let wide = index_at_least c z mode in
        calm_next here loads_cell index (omega arith) (inl course) (λ y. calm_recs_more here loads_cell y knows.1 (not_to_free other)) filled_since)

  -- ---- the number of an element, loaded or found at a check

  -- the recovery has found the number of the element at `index`, by a load or by a check that failed: it goes on from that number
  pub record FindsNumber (index : ℕ) (ask : Option Ask) (back : Bool) : Type 0 where
    -- the step leaves the words, is paid for, and is within the bound of the recovery
    pub leaves : LeavesWords ask back
    pub few : steps + step_count ask ≤ 3 + index * for_index c z mode + backs_then scene back * for_back c z mode
    -- the recovery is at this index, which its owner had at a moment of the call
    pub course : IsInCourseAt index index
    pub filled : WasFilled owner index (sees_now scene)
    -- what it knows of the indices below, and of its locks
    pub rec : Recovers code c owner index none none (sees_now scene)
    pub filled_since : FilledBut (IsWorn scene.terms.by ws) mode p owner NoIndex events

  module _ {stage : RecoverStage} (here : IsAtStage recovery stage) {index : ℕ} {ask : Option Ask} {back : Bool} (finds : FindsNumber index ask back) where
    open finds use {leaves, few, course, filled, rec, filled_since}
    open finds.leaves use {same, paid}

    abbrev pub number : ℕ
    number = count_in code c (before scene) index

    same_number : count_at c (words_after ws ask) index ≡ number
    same_number = ap (λ w. count_at c w index) same

    abbrev showing : List (Event T)
    showing = Shown p index ∷ []

    -- under an even number nothing stands at the index: the recovery is shown that, and goes
    -- on to empty the cell
    is_shown : is_even number ≡ true → LeadsToStage ask back showing here.room (recovers.EmptiesCell index number)
    is_shown even =
        let next = recovers.EmptiesCell index number in
        let party_after = then_at recovery here.room next ask back in
        let step : OwnStep recovery ask back party_after showing = silent_step back party_after showing same (tt, tt) (refl, tt) tt (λ start w. refl) in
        let acts_then : acts_of p (events ++ showing) ≡ done scene ++ Sees index ∷ [] =
        acts_more scene (Recover owner mode) here.call.span showing (refl, tt) (λ start w. refl) in
        go_on recovery here here.room next ask back (record {
          longer = λ start w. refl;
          -- its event is right: under an even number nothing stands
          does = reads_does recovery here same (tt, tt) (refl, tt) (record {
            asks = (tt, tt);
            recovers = (tt, tt);
            answers = (tt, tt);
            contains = λ holds.
                let holds_before =
                was_well_formed scene (Recover owner mode) tt here.call.span (words_after ws ask) party_after showing (refl, tt) holds in (
                  none_is (contents_of index events)
                      (nothing_stands code c ws index (contents_of index events)
                      (inv.elements.whole holds_before index course.within) (even_is number even)),
                  tt,
                );
            places = λ holds. (tt, tt);
          })
              refl;
          follows = (course.seen, tt);
          few = let low = few in omega arith;
          -- the recovery keeps its course, with one index more seen
          stands = (
            course_then [] (Sees index ∷ []) course
                course.within (omega arith) (omega arith, tt) tt
                (λ j was. inl (one_of_none (Frees j owner) (all scene) was)),
            inr (record { before = done scene; is = refl }),
          );
          -- what the recovery knows before it empties the cell: `index` is the one that it is about to free
          known = (
            here.long,
            (
              paid,
              recs recovery here step rec (record {
                New = λ i. i ≡ index;
                asked =
                    asked_more recovery here step index rec.asked
                    (λ through. inr (subst (IsOneOf (Sees index)) (sym acts_then) (last_one (Sees index) (done scene))));
                told = λ i said.
                    ⊎_elim (λ yes. inl (inl (one_of_none (Yes i owner) (all scene) yes)))
                    (λ seen. ⊎_elim (λ had. inl (inr had)) (λ e. let is : index ≡ i = cc in inr (sym is))
                    (was_one (Sees i) (Sees index) (done scene) seen))
                    said;
                was = λ i e. absurd e;
                new = λ i e. inr e;
                hidden = hidden_then recovery here step (λ i was. one_of_none (Frees i owner) (all scene) was) rec.hidden;
              }),
              course.within,
              λ kept. omega (arith, same_number),
              λ holds filled. inl same_number,
            ),
            fills_on recovery here step NoIndex NoIndex (λ i was. inl (one_of_none (Frees i owner) (all scene) was)) (λ i e. e) filled_since,
          );
        })

    -- under an odd number the recovery begins to copy the element
    is_copied : is_even number ≡ false → LeadsToStage ask back [] here.room (recovers.LoadsWord index number 0)
    is_copied odd =
        let some = inv.elements.coded.some in
        let party_after = then_at recovery here.room (recovers.LoadsWord index number 0) ask back in
        calm_on here leaves here.room (recovers.LoadsWord index number 0) (let low = few in omega arith)
        (course_calm index index index index course course.within (omega arith), odd_is number odd, omega arith) (
          here.long,
          (
            inl (same_number, paid),
            calm_recs here leaves party_after index rec,
            held_later p (IsFilledWith owner index) events [] tt filled,
            copying_first code c course.within here.long (odd_is number odd) (λ kept. omega (arith, same_number)),
            λ holds filled. inl same_number,
          ),
          fill_same recovery ask same NoIndex filled_since,
        )

    -- the step in which a recovery finds the number of an element: it begins a copy if the number is odd, and
    -- goes on to the cell if it is even
    pub sees_number : Leads scene (Recover owner mode) ask back scene.states
        ((if is_even number then Shown p index ∷ [] else []) ++ []) (as_recover recovery here.room (recover_sees (first recovery) index number))
    sees_number = grind (arith, is_shown, is_copied)

  -- the step in which a recovery loads the number of an element: it begins a copy if the number is odd, and
  -- goes on to the cell if it is even
  pub count_step : {index : ℕ} (here : IsAtStage recovery (recovers.LoadsCount index)) → IsInCourseAt index index
      → RecoverKnows code c owner mode here.room (recovers.LoadsCount index) (sees_now scene)
      → steps ≤ 2 + index * for_index c z mode + backs * for_back c z mode
      → FilledBut (IsWorn scene.terms.by ws) mode p owner NoIndex events
      → StepOf scene (Recover owner mode) (recover_at c owner mode here.room (recovers.LoadsCount index))
  count_step {index} here course knows few_steps filled_since =
      let finds : FindsNumber index (Some (operations.loads (count_word c index))) false =
      record {
        leaves = record { same = loads_same ws (count_word c index); paid = let paid = knows.0 in omega arith };
        few = omega arith;
        course = course;
        filled = knows.2;
        rec = knows.1;
        filled_since = filled_since;
      } in
      sees_number here finds
