-- The steps of a recovery behind its question at an index: it empties the cell, if that has its owner still,
-- and then hides what stands there, unless the number of the element has changed. What a step has to show is
-- said by `StepOf` and `Leads` of `Stages`.
use Rattle.laws_container.proofs.Names.{◌≡◌, ◌≢◌, ◌⊎◌, ⊎_elim, inl, inr, ℕ, ◌+◌, ◌*◌, ◌%◌, ◌≤◌, ◌==◌, if◌then◌else◌}
use Rattle.laws_container.proofs.Names.{Bool, false, true, Option, Some, None, List, [], ◌∷◌, ◌++◌, set, refl, sym}
use Rattle.laws_container.proofs.Names.{ap, subst, ◌∙◌, append-nil, arith, nat_tests, fold-append, Ask, GoOn}
use Rattle.laws_container.proofs.Names.{RecoverStage, count_word, is_even, recover_comes_to, recover_raises}
use Rattle.laws_container.proofs.Names.{cell_word, empty, one_more, Event, FreedOf, Hidden, Party, WasShown, Sees}
use Rattle.laws_container.proofs.Names.{HidesOne, acts, cell_of, LivesToRelease, Frees, Yes, filled_after, filled_of}
use Rattle.laws_container.proofs.Names.{IsOneOf, HasJustFreed, flight_of, words_after, step_count, is_gone, cell}
use Rattle.laws_container.proofs.Names.{was_one, by_latest, at_same, some_none, one_owner, both_ways, filled_by}
use Rattle.laws_container.proofs.Names.{calm_less, IsWorn, exchanges, exchange_sets, fails_same, one_of_none}
use Rattle.steps.specs.declared.container.recover.RecoverStage.TheVariants as recovers
use Rattle.steps.specs.declared.indices.robust.parts.Raise.TheVariants as raises
use Rattle.model.specs.declared.families.container.ContainerStart.TheVariants.{Recover}
use Rattle.laws_robust.proofs.Effects as set_effects
use Rattle.laws_robust.proofs.Frees as set_frees
use Rattle.laws_robust.proofs.Invariant as set_invariant
use Rattle.laws_container.specs.Gone.{FreedBy}
use Rattle.laws_container.proofs.Core.{count_at}
use Rattle.laws_container.proofs.HiddenKnows.{StillStands}
use Rattle.laws_container.proofs.HiddenOn.{hidden_even, hidden_other, hidden_freed, hides_it}
use Rattle.laws_container.proofs.Invariant.{KeepsInvariant, before, after, of_set, inv_of_set}
use Rattle.laws_container.proofs.KeptLocks.{NoIndex, FilledBut}
use Rattle.laws_container.proofs.Knows.{Recovers, RecoverKnows, Knows}
use Rattle.laws_container.proofs.Left.{left_after, left_of}
use Rattle.laws_container.proofs.RecoverParts.{Recovery, IsAtStage, as_given, freeing, OwnStep, fill_same, none, hidden_still, as_recover, first, Few, then_at}
use Rattle.laws_container.proofs.RecoverParts.{stays_does, go_on, recs, fills_on, asked_on, told_none, comes_to_next}
use Rattle.laws_container.proofs.RecoverReads.{LeadsOn, LeadsToStage, IsInCourseAt, LeavesWords, silent_step, course_calm, calm_recs, calm_on, index_at_least}
use Rattle.laws_container.proofs.Recoveries.{rehidden, course_then}
use Rattle.laws_container.proofs.SetSteps.{rest_set, wide_set, frees}
use Rattle.laws_container.proofs.Stages.{all, done, sees_now, then_sees, StepOf, Leads, none_lengthens, backs_then, since_then, changes_then, was_well_formed}
use Rattle.laws_container.proofs.CallProgress.{recover_at, recover_number, for_back, for_index, AskedOrShown, IsInCourse, RecoverAt}
use Rattle.laws_container.proofs.Steps.{hides}
use Rattle.laws_container.proofs.Turns.{owes, count_in}
use Rattle.laws_container.proofs.Writing.{even_is, odd_is, hides_count}
use Rattle.lemmas.proofs.Cases.{on_bool}

-- a recovery of `owner` in mode `mode` is under way, by party `p` of the scene
module _ {T : Type 0} (recovery : Recovery T) where
  open recovery use {scene, inv, owner, mode, fits}
  open recovery.scene use {coding as code, capacity as c, party as p, steps, backs, events, latest}

  abbrev ws : List ℕ
  ws = scene.words

  abbrev z : ℕ
  z = code.size

  -- ---- a step on the counter

  -- the operation `ask` leaves all words but the counter, and the recovery has paid for its turns back
  pub record LeavesAllBut (ask : Option Ask) (back : Bool) : Type 0 where
    pub stays : set_effects.Stays (of_set scene) (words_after ws ask)
    pub paid : backs_then scene back + since_then scene ask ≤ changes_then scene ask

  module _ {stage : RecoverStage} (here : IsAtStage recovery stage) {ask : Option Ask} {back : Bool} (leaves : LeavesAllBut ask back) where
    open leaves use {stays}

    -- what a recovery that has come past an index knows it knows after a step that leaves all words but the
    -- counter and writes nothing
    pub stays_recs : (index : ℕ) → Recovers code c owner (index + 1) none none (sees_now scene) → (y : Party T)
        → Recovers code c owner (index + 1) none none (then_sees scene ask back scene.states y [])
    stays_recs index known y =
        let goes = (set_effects.quietly (of_set scene) (inv_of_set scene inv) (words_after ws ask) [] stays.leaves set_effects.quiet_none tt tt tt).goes in
        let step : OwnStep recovery ask back y [] = record { own = tt; fresh = tt; longer = none_lengthens; goes = goes } in
        recs recovery here step known (record {
          New = none;
          asked = asked_on recovery here step (index + 1) known.asked;
          told = told_none recovery here;
          was = λ i e. absurd e;
          new = λ i e. absurd e;
          hidden = hidden_still recovery here ask y known.hidden;
        })

    -- a step that leaves all words but the counter, and writes nothing, leads a recovery to the stage `next`,
    -- where the conditions of that stage hold
    pub stays_on : (next : RecoverStage)
        → steps + step_count ask ≤ recover_number c z mode next (backs_then scene back)
        → RecoverAt c z (all scene ++ []) (done scene ++ []) owner mode next
        → Knows code c (recover_at c owner mode here.room next)
        (then_sees scene ask back scene.states (then_at recovery here.room next ask back) [])
        → LeadsToStage recovery ask back [] here.room next
    stays_on next few stands known =
        go_on recovery here here.room next ask back (record {
          longer = none_lengthens;
          does = stays_does recovery here stays refl;
          follows = tt;
          few = few;
          stands = stands;
          known = known;
        })

    -- a step that leaves all words but the counter, and writes nothing, brings a recovery to the next index,
    -- or behind the last one to its last load of the counter
    pub stays_next : (index : ℕ) → Recovers code c owner (index + 1) none none (sees_now scene)
        → Few recovery ask back 1 (index + 1)
        → IsInCourseAt recovery index (index + 1)
        → FilledBut (IsWorn scene.terms.by (words_after ws ask)) mode p owner NoIndex (events ++ [])
        → LeadsOn recovery ask back [] here.room (recover_comes_to (first recovery) (index + 1))
    stays_next index known few course fill =
        comes_to_next recovery here index ask back (record {
          longer = none_lengthens;
          follows = tt;
          does = λ y owe. stays_does recovery here stays owe;
          few = few;
          below = course.within;
          course = λ i low. course_calm recovery index (index + 1) i (index + 1) course low (omega arith);
          paid = leaves.paid;
          rec = stays_recs index known;
          fill = fill;
        })

  pub just_on : HasJustFreed (all scene) → HasJustFreed (all scene ++ [])
  just_on just_freed = subst HasJustFreed (sym (append-nil (all scene))) just_freed

  -- ---- the exchange of a cell

  -- the recovery empties the cell of `index`, after a yes or after it was shown under the number `count` that
  -- nothing stands there
  module _ {index count : ℕ} (here : IsAtStage recovery (recovers.EmptiesCell index count))
      (stands : RecoverAt c z (all scene) (done scene) owner mode (recovers.EmptiesCell index count))
      (knows : RecoverKnows code c owner mode here.room (recovers.EmptiesCell index count) (sees_now scene))
      (few_steps : steps ≤ 4 + z + index * for_index c z mode + backs * for_back c z mode)
      (filled_since : FilledBut (IsWorn scene.terms.by ws) mode p owner NoIndex events) where
    abbrev empty_it : Option Ask
    empty_it = Some (exchanges (cell_word index) owner empty)

    abbrev frees_it : List (Event T)
    frees_it = FreedOf p index owner ∷ []

    paid_now : backs_then scene false + since_then scene empty_it ≤ changes_then scene empty_it
    paid_now = let paid = knows.0 in omega arith

    -- where the cell has another owner by now, or none, the recovery frees nothing and goes
    -- on to the next index
    misses : cell ws index ≢ owner → LeadsOn recovery empty_it false [] here.room (recover_comes_to (first recovery) (index + 1))
    misses other =
        let same = fails_same ws (cell_word index) owner empty other in
        let wide = index_at_least c z mode in
        let stays = set_effects.stays_same (of_set scene) (inv_of_set scene inv) (words_after ws empty_it) same in
        let step = λ (y : Party T). silent_step recovery {ask = empty_it} false y [] same tt tt tt none_lengthens in
        comes_to_next recovery here index empty_it false (record {
          longer = none_lengthens;
          follows = tt;
          does = λ y owe. stays_does recovery here stays owe;
          few = omega arith;
          below = stands.0.within;
          course = λ i low. course_calm recovery index (index + 1) i (index + 1) stands.0 low (omega arith);
          paid = paid_now;
          rec = λ y. recs recovery here (step y) knows.1 (record {
            New = none;
            asked = asked_on recovery here (step y) (index + 1) knows.1.asked;
            told = told_none recovery here;
            was = λ i e. inl (λ filled. other (inv.good.cells index stands.0.within
                ∙ ap cell_of
                (subst (λ n. filled_of n events ≡ Some owner) e (subst (λ es. filled_of i es ≡ Some owner) (append-nil events) filled))));
            new = λ i e. absurd e;
            hidden = hidden_still recovery here empty_it y knows.1.hidden;
          });
          fill = fill_same recovery empty_it same NoIndex filled_since;
        })

    -- the cell has the recovery's owner still
    module _ (is : cell ws index ≡ owner) where
      new : words_after ws empty_it ≡ set ws (cell_word index) empty
      new = exchange_sets ws (cell_word index) owner empty is

      -- the number of the element is the same after the cell is emptied
      stays_count : count_at c (words_after ws empty_it) index ≡ count_in code c (before scene) index
      stays_count =
          rest_set scene (cell_word index) empty (let below = stands.0.within in omega arith) new (count_word c index) (omega arith)

      filled : filled_of index events ≡ Some owner
      filled = filled_by (of_set scene) (inv_of_set scene inv) index stands.0.within owner fits is

      -- for the set the exchange frees the index, and does nothing else
      set_does : set_invariant.Does (of_set scene) (words_after ws empty_it) frees_it
      set_does =
          set_frees.frees (of_set scene) (inv_of_set scene inv)
          stands.0.within filled (subst (LivesToRelease owner events) (sym here.call.span) tt)
          (λ calm q ne o alive h. let same : owner ≡ o = one_owner (filled_of index events) owner o filled h.filled in
          both_ways (is_gone scene.terms.by o events) alive (subst (λ n. is_gone scene.terms.by n events ≡ true) same knows.1.dead))
          (λ calm o alive h.
          let theirs = ((inv.good.owned (calm_less scene.terms.by events frees_it calm)).settled index o h).0 in
          let same : owner ≡ o = one_owner (filled_of index events) owner o filled theirs in
          both_ways (is_gone scene.terms.by o events) alive (subst (λ n. is_gone scene.terms.by n events ≡ true) same knows.1.dead))
          new

      -- the recovery was told to free the index, or was shown that nothing stood there
      was_known : IsOneOf (Yes index owner) (all scene) ⊎ WasShown p index events
      was_known = grind (arith, inl, by_latest, all, inr, done)

      -- the exchange that empties the cell does for the machine what freeing the index does
      does : {y : Party T} → owes (flight_of (Some y.doing)) ≡ true → KeepsInvariant scene (words_after ws empty_it) scene.states y frees_it
      does {y} owe =
          frees (as_given recovery here) y
          (rest_set scene (cell_word index) empty (let below = stands.0.within in omega arith) new)
          (wide_set scene (cell_word index) empty new)
          set_does (was_well_formed scene (Recover owner mode) tt here.call.span (words_after ws empty_it) y frees_it (refl, tt)) (λ was. owe)
          (subst (FreedBy scene.terms.by p index owner events) (sym here.call.span) (refl, knows.1.dead, was_known))

      -- the step by which the recovery empties the cell
      step : (y : Party T) → OwnStep recovery empty_it false y frees_it
      step y = record { own = (refl, tt); fresh = tt; longer = λ start w. refl; goes = set_does.goes }

      -- once the cell is empty the recovery has come past the index, and what stood there under the number
      -- still stands there
      recs_freed : (y : Party T)
          → Recovers code c owner (index + 1) none
          (StillStands code c index count (after scene (words_after ws empty_it) y frees_it))
          (then_sees scene empty_it false scene.states y frees_it)
      recs_freed y =
          recs recovery here (step y) knows.1 (record {
            New = none;
            asked = asked_on recovery here (step y) (index + 1) knows.1.asked;
            told = λ i said. inl
                (⊎_elim (λ yes. ⊎_elim (λ had. inl had) (λ e. absurd (cc)) (was_one (Yes i owner) (Frees index owner) (all scene) yes))
                (λ seen. inr (one_of_none (Sees i) (done scene) seen)) said);
            was = λ i e. inl (λ now. some_none (filled_of i (events ++ frees_it)) owner
                (fold-append (filled_after i) None events frees_it ∙ at_same index i None (filled_of i events) e) now);
            new = λ i e. absurd e;
            hidden =
                hidden_freed (freeing recovery here) index count stands.0.within (words_after ws empty_it) y stays_count knows.1.hidden
                (λ earlier holds. knows.4 earlier filled);
          })

      -- where the number is even nothing stands at the freed index, so all that the recovery
      -- has freed is hidden
      recs_empty : is_even count ≡ true → (y : Party T) → owes (flight_of (Some y.doing)) ≡ true
          → Recovers code c owner (index + 1) none none (then_sees scene empty_it false scene.states y frees_it)
      recs_empty even y owe =
          rehidden code c owner (index + 1) none
          (StillStands code c index count (after scene (words_after ws empty_it) y frees_it)) none
          (then_sees scene empty_it false scene.states y frees_it) (recs_freed y)
          (hidden_even code c p owner index count (after scene (words_after ws empty_it) y frees_it)
          (does owe).changes.whole stands.0.within (even_is count even) (recs_freed y).hidden)

      -- what a recovery that may lock has to show of each index that it has freed, it has shown of all but
      -- the one that it frees now
      fills_freed : (y : Party T) → FilledBut (IsWorn scene.terms.by (words_after ws empty_it)) mode p owner (λ i. i ≡ index) (events ++ frees_it)
      fills_freed y =
          fills_on recovery here (step y) NoIndex (λ i. i ≡ index)
          (λ i was. ⊎_elim (λ had. inl had) (λ e. let same : index ≡ i = cc in inr (sym same))
          (was_one (Frees i owner) (Frees index owner) (all scene) was))
          (λ i e. absurd e) filled_since

      -- the recovery has asked about the index that it has freed, or was shown it, and keeps its course
      course_freed : IsInCourse c z (all scene ++ Frees index owner ∷ []) (done scene ++ []) owner index (index + 1)
      course_freed =
          course_then (Frees index owner ∷ []) [] stands.0 stands.0.within (omega arith) tt tt
          (λ j was. ⊎_elim (λ had. inl had)
          (λ e. inr (let same : index ≡ j = cc in
          subst (λ n. AskedOrShown c z (all scene) (done scene) owner n) same
          (⊎_elim (λ yes. inl yes.1) (λ shown. inr (by_latest (Sees index) (done scene) shown)) stands.1)))
          (was_one (Frees j owner) (Frees index owner) (all scene) was))

      -- an exchange that empties the cell leads on: to hiding what stands there if the number is odd, and to
      -- the raise of the counter if it is even
      empties : (b : Bool) → is_even count ≡ b
          → Leads scene (Recover owner mode) empty_it false scene.states frees_it (as_recover recovery here.room
          (if b then recover_raises (first recovery) index else GoOn (record (first recovery) { stage = recovers.Hides index count })))
      empties true even_test =
          let party_after = then_at recovery here.room (recovers.Raises index raises.LoadsCounter) empty_it false in
          go_on recovery here here.room (recovers.Raises index raises.LoadsCounter) empty_it false (record {
            longer = λ start w. refl;
            does = does refl;
            follows = ((refl, ⊎_elim (λ yes. inl yes.0) (λ shown. inr shown) stands.1), tt);
            few = omega arith;
            stands = (course_freed, record { index = index; owner = owner; latest = record { before = all scene; is = refl } });
            known = (here.long, (paid_now, recs_empty even_test party_after refl), fills_freed party_after);
          })
      empties false even_test =
          let party_after = then_at recovery here.room (recovers.Hides index count) empty_it false in
          go_on recovery here here.room (recovers.Hides index count) empty_it false (record {
            longer = λ start w. refl;
            does = does refl;
            follows = ((refl, ⊎_elim (λ yes. inl yes.0) (λ shown. inr shown) stands.1), tt);
            few = omega arith;
            stands = (course_freed, odd_is count even_test, record { before = all scene; is = refl });
            known = (
              here.long,
              (
                paid_now,
                recs_freed party_after,
                record {
                  within = stands.0.within;
                  below = λ kept. let low = knows.3 kept in let same = stays_count in omega arith;
                  left = λ well_formed eq. fold-append (left_after index) true events frees_it ∙ at_same index index true (left_of index events) refl;
                },
              ),
              fills_freed party_after,
            );
          })

    -- the step in which a recovery empties the cell: it frees the index if the cell has its owner, and else
    -- goes to the next index
    pub empties_step : StepOf scene (Recover owner mode) (recover_at c owner mode here.room (recovers.EmptiesCell index count))
    empties_step =
        on_bool (λ b. Leads scene (Recover owner mode) (Some (exchanges (cell_word index) owner empty)) false scene.states
        ((if b then FreedOf p index owner ∷ [] else []) ++ [])
        (as_recover recovery here.room
        (if b then (if is_even count then recover_raises (first recovery) index else GoOn
        (record (first recovery) { stage = recovers.Hides index count }))
        else recover_comes_to (first recovery) (index + 1))))
        (cell ws index == owner)
        (λ t. let has_owner : cell ws index ≡ owner = grind (arith, nat_tests) in empties has_owner (is_even count) refl)
        (λ t. let other : cell ws index ≢ owner = grind (arith, nat_tests) in misses other)

  -- ---- what stands there is hidden

  -- the recovery has freed `index`, and hides the element there if it has the odd number `count` still
  module _ {index count : ℕ} (here : IsAtStage recovery (recovers.Hides index count))
      (stands : RecoverAt c z (all scene) (done scene) owner mode (recovers.Hides index count))
      (knows : RecoverKnows code c owner mode here.room (recovers.Hides index count) (sees_now scene))
      (few_steps : steps ≤ 5 + z + index * for_index c z mode + backs * for_back c z mode)
      (filled_since : FilledBut (IsWorn scene.terms.by ws) mode p owner (λ i. i ≡ index) events) where
    abbrev hide_it : Option Ask
    hide_it = Some (exchanges (count_word c index) count (one_more count))

    abbrev count_now : ℕ
    count_now = count_in code c (before scene) index

    abbrev hiding : List (Event T)
    hiding = Hidden p index ∷ []

    abbrev next : RecoverStage
    next = recovers.Raises index raises.LoadsCounter

    paid_hide : backs_then scene false + since_then scene hide_it ≤ changes_then scene hide_it
    paid_hide = let paid = knows.0 in omega arith

    -- the latest act of the recovery on the set was to free an index
    just : HasJustFreed (all scene)
    just = record { index = index; owner = owner; latest = stands.2 }

    -- the step in which a recovery hides what stands at a freed index: it goes on to the raise of the
    -- counter, whether it finds the loaded number or another one
    pub hides_step : StepOf scene (Recover owner mode) (recover_at c owner mode here.room (recovers.Hides index count))
    hides_step =
        on_bool (λ b. Leads scene (Recover owner mode) (Some (exchanges (count_word c index) count (one_more count))) false
        scene.states ((if b then Hidden p index ∷ [] else []) ++ [])
        (as_recover recovery here.room (recover_raises (first recovery) index)))
        (count_now == count)
        -- the number is the one that was loaded: the step hides what stood there
        (λ t.
        let same_count : count_now ≡ count = grind (arith, nat_tests) in
        let party_after = then_at recovery here.room next hide_it false in
        let odd : count_now % 2 ≡ 1 = ap (λ n. n % 2) same_count ∙ stands.1 in
        let does : KeepsInvariant scene (words_after ws hide_it) scene.states party_after hiding =
        hides (as_given recovery here) party_after
        (record { below = stands.0.within; new = hides_count inv index count stands.0.within same_count; owed = refl }) odd
        (λ holds q ne o theirs fresh. both_ways (left_of index events) fresh (knows.2.left holds same_count))
        (was_well_formed scene (Recover owner mode) tt here.call.span (words_after ws hide_it) party_after hiding (refl, tt)) in
        let step : OwnStep recovery hide_it false party_after hiding =
        record { own = (refl, tt); fresh = tt; longer = λ start w. refl; goes = does.set.goes } in
        go_on recovery here here.room next hide_it false (record {
          longer = λ start w. refl;
          does = does;
          follows = (stands.2, tt);
          few = omega arith;
          -- the recovery keeps its course: the step frees no index, and asks about none
          stands = (
            course_then [] (acts hiding)
                stands.0 stands.0.within (omega arith) tt tt
                (λ j was. inl (one_of_none (Frees j owner) (all scene) was)),
            just_on just,
          );
          -- what the recovery knows then: all that it has freed is hidden
          known = (
            here.long,
            (
              paid_hide,
              recs recovery here step knows.1 (record {
                New = none;
                asked = asked_on recovery here step (index + 1) knows.1.asked;
                told = λ i said. inl
                    (⊎_elim (λ yes. inl (one_of_none (Yes i owner) (all scene) yes))
                    (λ seen. ⊎_elim (λ had. inr had) (λ e. absurd (cc)) (was_one (Sees i) (HidesOne index) (done scene) seen))
                    said);
                was = λ i e. absurd e;
                new = λ i e. absurd e;
                hidden = hides_it (freeing recovery here) (words_after ws hide_it) party_after index count knows.1.hidden;
              }),
            ),
            fills_on recovery here step (λ i. i ≡ index) (λ i. i ≡ index)
                (λ i was. inl (one_of_none (Frees i owner) (all scene) was)) (λ i e. e) filled_since,
          );
        }))
        -- the number is another one: another call has hidden what stood there, and the step changes nothing
        (λ t.
        let other : count_now ≢ count = grind (arith, nat_tests) in
        let same = fails_same ws (count_word c index) count (one_more count) other in
        let leaves : LeavesWords recovery hide_it false = record { same = same; paid = paid_hide } in
        calm_on recovery here leaves here.room next (omega arith)
        (course_calm recovery index (index + 1) index (index + 1) stands.0 stands.0.within (omega arith), just_on just) (
          here.long,
          (
            paid_hide,
            calm_recs recovery here leaves (then_at recovery here.room next hide_it false) (index + 1)
                (rehidden code c owner (index + 1) none (StillStands code c index count (before scene)) none
                (sees_now scene) knows.1 (hidden_other code c p owner index count (before scene) other knows.1.hidden)),
          ),
          fill_same recovery hide_it same (λ i. i ≡ index) filled_since,
        ))
