-- The last two steps of a remove: it hides what stood at its index, unless the number of the
-- element has changed, and it counts its change and ends. What a step has to show is said by
-- `StepOf` and `Leads` of `Stages`.
use Rattle.laws_container.proofs.Names.{◌≡◌, ◌≢◌, ⊎_elim, inl, inr, ℕ, ◌+◌, ◌%◌, ◌<◌, ◌≤◌, ◌==◌, if◌then◌else◌, Bool}
use Rattle.laws_container.proofs.Names.{false, Option, Some, List, [], ◌∷◌, ◌++◌, refl, sym, ap, subst, ◌∙◌}
use Rattle.laws_container.proofs.Names.{append-nil, arith, nat_tests, Ask, GoOn, RemoveStage, ReleaseMode}
use Rattle.laws_container.proofs.Names.{LockIfLastIndex, Default, ReleaseState, GiveBack, change_word, count_word}
use Rattle.laws_container.proofs.Names.{empty, greatest, one_more, Event, Hidden, Finished, Container, ContainerStart}
use Rattle.laws_container.proofs.Names.{ContainerFlight, Party, ContainerHandleNotOwnedByContainer, GoneBy, filled_of}
use Rattle.laws_container.proofs.Names.{◌⊎◌, most_steps, place_of, Act, HasDone, IsUnlocked}
use Rattle.laws_container.proofs.Names.{FilledSinceFreed, SetAct, Frees, Locks, IsOneOf, BeginsNone, words_after}
use Rattle.laws_container.proofs.Names.{held_later, counter_of, IsWorn, worn_on, both_ways, quiet_end, exchanges}
use Rattle.laws_container.proofs.Names.{fails_same}
use Rattle.steps.specs.declared.ask.After.TheVariants.{Done}
use Rattle.steps.specs.declared.container.remove.RemoveStage.TheVariants as removes
use Rattle.steps.specs.declared.indices.enums.ReleaseState.TheVariants as states
use Rattle.model.specs.declared.event.Answer.TheVariants as answers
use Rattle.model.specs.declared.families.container.ContainerStart.TheVariants.{Remove}
use Rattle.laws_container.specs.Gone.{AnswersBy}
use Rattle.laws_container.proofs.HiddenOn.{Freeing, hidden_other, hidden_on, hides_it}
use Rattle.laws_container.proofs.Invariant.{Scene, Inv, ActsFor, before, inv_of_set}
use Rattle.model.proofs.Locks.{locked_later}
use Rattle.laws_container.proofs.Knows.{RemoveSays, RemoveKnows}
use Rattle.laws_container.proofs.Left.{left_of}
use Rattle.laws_container.proofs.Sets.{leaves_behind}
use Rattle.laws_container.proofs.Stages.{Call, none_in_call, IsUnderWay, all, done, sees_now, then_sees, StepOf, Leads, none_lengthens}
use Rattle.laws_container.proofs.Stages.{party_then, backs_then, goes_on, ends, was_well_formed}
use Rattle.laws_container.proofs.CallProgress.{remove_at, release_total, RemoveAt, place_is}
use Rattle.laws_container.proofs.Steps.{loads, hides, end_does, ends_counted}
use Rattle.laws_container.proofs.Turns.{count_in}
use Rattle.laws_container.proofs.Writing.{adds_one, adds_to_change, hides_count}
use Rattle.lemmas.proofs.Cases.{by_bool, on_bool}

-- the steps of a remove are those of its release and three more
pub total_is : (c z index owner : ℕ) (mode : ReleaseMode) (backs : ℕ) (T : Type 0)
    → 3 + release_total c index owner mode backs ≡ most_steps {T = T} c z (Remove index owner mode) backs
total_is = grind arith

-- a remove that answers a state has freed its index
removed_frees : (T : Type 0) (index owner : ℕ) (mode : ReleaseMode) (state : ReleaseState) {made : List SetAct}
    → HasDone {T = T} (Remove index owner mode) (answers.State state) made [] → IsOneOf (Frees index owner) made
removed_frees T index owner Default states.Locked has_done = absurd has_done
removed_frees T index owner Default states.Unlocked has_done =
    subst (IsOneOf (Frees index owner)) (sym has_done) (record { before = []; after = []; is = refl })
removed_frees T index owner LockIfLastIndex states.Locked has_done =
    ⊎_elim (λ e. subst (IsOneOf (Frees index owner)) (sym e) (record { before = []; after = []; is = refl }))
    (λ e. subst (IsOneOf (Frees index owner)) (sym e) (record { before = []; after = Locks ∷ []; is = refl })) has_done
removed_frees T index owner LockIfLastIndex states.Unlocked has_done =
    subst (IsOneOf (Frees index owner)) (sym has_done) (record { before = []; after = []; is = refl })

-- what a remove that answers a state has done to the set is right, whatever it has done to elements
removed_done : {T : Type 0} (index owner : ℕ) (mode : ReleaseMode) (state : ReleaseState) (made : List SetAct) (done : List (Act T))
    → HasDone {T = T} (Remove index owner mode) (answers.State state) made []
    → HasDone {T = T} (Remove index owner mode) (answers.State state) made done
removed_done index owner mode state made acts has_done = grind arith

-- a remove that has done nothing to the set has done what belongs to the answer that its handle is not the container's
pub refused_done : (T : Type 0) (index owner : ℕ) (mode : ReleaseMode) (set_acts : List SetAct) (acts : List (Act T))
    → set_acts ≡ []
    → HasDone {T = T} (Remove index owner mode) (answers.NotRemoved ContainerHandleNotOwnedByContainer) set_acts acts
refused_done = grind arith

-- that answer is right where the index is not below the capacity, or is not filled with
-- the owner of the handle
pub refused_right : {T : Type 0} (by : GoneBy) (worn : Type 0) (c p index owner : ℕ) (mode : ReleaseMode) (events : List (Event T))
    → (c ≤ index) ⊎ (filled_of index events ≢ Some owner)
    → AnswersBy by worn c events (Finished p (Container (Remove index owner mode)) (answers.NotRemoved ContainerHandleNotOwnedByContainer))
refused_right = grind arith

-- a remove by the party of the scene, of a handle whose index is below the capacity, for an
-- owner that is not gone
pub record Removing (T : Type 0) : Type 0 where
  -- the turn, and what holds of the machine before it
  pub scene : Scene T
  pub inv : Inv scene
  -- the arguments of the call
  pub index : ℕ
  pub owner : ℕ
  pub mode : ReleaseMode
  -- the owner can be in a cell and is not gone, and the index is below the capacity
  pub fits : owner < empty
  pub acts : ActsFor scene owner
  pub below : index < scene.capacity

-- the steps of one remove
module _ {T : Type 0} (removing : Removing T) where
  open removing use {scene, inv, index, owner, mode, fits, below}
  open removing.scene use {coding as code, capacity as c, party as p, steps, backs, events}

  abbrev ws : List ℕ
  ws = scene.words

  abbrev z : ℕ
  z = code.size

  abbrev start : ContainerStart T
  start = Remove index owner mode

  -- the remove as a call at this stage
  abbrev pub at_stage : RemoveStage → ContainerFlight T
  at_stage stage = remove_at c index owner mode stage

  -- the party's call under way is this remove, at this stage
  abbrev pub IsAtStage : RemoveStage → Type 0
  IsAtStage stage = IsUnderWay scene (Remove index owner mode) (remove_at c index owner mode stage)

  -- the remove at this stage, as a call of the container
  abbrev pub as_given : (stage : RemoveStage) → IsAtStage stage → Call T
  as_given stage here = record { scene = scene; inv = inv; start = start; flight = at_stage stage; no_look = tt; here = here }

  -- the remove at this stage, as a call that frees an index of its owner
  abbrev pub freeing : (stage : RemoveStage) → IsAtStage stage → Freeing T
  freeing stage here = record { scene = scene; inv = inv; start = start; no_replace = tt; span = here.span; owner = owner }

  -- the party after the step by which the remove comes to stage `next`
  abbrev pub then_at : RemoveStage → Option Ask → Bool → Party T
  then_at next ask back = party_then scene start ask back (GoOn (at_stage next))

  pub given_is : ◌≡◌ {A = GiveBack} (record { index = index; owner = owner; mode = mode }) (record { index = place_of c index; owner = owner; mode = mode })
  given_is = grind (arith, place_is)

  -- the step turns back no loop, so the steps that are allowed stay the same
  same_total : release_total c index owner mode (backs_then scene false) ≡ release_total c index owner mode backs
  same_total = grind arith

  -- ---- what stands there is hidden

  -- the remove has freed its index, and hides the element there if it has the odd number `count` still
  module _ {count : ℕ} (state : ReleaseState) (here : IsAtStage (removes.Hides count state))
      (stands : RemoveAt c z (all scene) (done scene) index owner mode (removes.Hides count state))
      (knows : RemoveKnows code c index owner mode (removes.Hides count state) (sees_now scene))
      (few_steps : steps ≤ 1 + release_total c index owner mode backs) where
    abbrev hide_it : Option Ask
    hide_it = Some (exchanges (count_word c index) count (one_more count))

    abbrev count_now : ℕ
    count_now = count_in code c (before scene) index

    abbrev next : RemoveStage
    next = removes.AddsChange state

    -- a counter at its end is at its end after the exchange
    counter_stays : counter_of ws ≡ greatest → counter_of (words_after ws hide_it) ≡ greatest
    counter_stays end =
        by_bool (count_now == count)
        (λ t.
        let same_count : count_now ≡ count = grind (arith, nat_tests) in
        (leaves_behind (inv_of_set scene inv) (words_after ws hide_it) (count_word c index) _
        (omega arith) (hides_count inv index count below same_count)).stuck
        end)
        (λ t.
        let other : count_now ≢ count = grind (arith, nat_tests) in
        ap counter_of (fails_same ws (count_word c index) count (one_more count) other) ∙ end)

    -- what the state that a remove answers says before the exchange, it says after it
    says_then : (m : ReleaseMode) (t : ReleaseState) (es : List (Event T)) → BeginsNone p es → (y : Party T)
        → RemoveSays code c index owner m t (sees_now scene)
        → RemoveSays code c index owner m t (then_sees scene hide_it false scene.states y es)
    says_then m states.Locked es fresh y remove_says = locked_later events es remove_says
    says_then Default states.Unlocked es fresh y remove_says = tt
    says_then LockIfLastIndex states.Unlocked es fresh y remove_says = (
      held_later p IsUnlocked events es fresh remove_says.0,
      ⊎_elim (λ end. inl (worn_on scene.terms.by ws (words_after ws hide_it) counter_stays end))
          (λ (found : FilledSinceFreed p owner index events). inr
          (record { other = found.other; once = held_later p _ events es fresh found.once }))
          remove_says.1,
    )

    -- the step in which a remove hides what stood at its index: it goes on to count its change, whether it
    -- finds the loaded number or another one
    pub hides_step : StepOf scene start (at_stage (removes.Hides count state))
    hides_step =
        on_bool (λ b. Leads scene start (Some (exchanges (count_word c index) count (one_more count))) false scene.states
        ((if b then Hidden p index ∷ [] else []) ++ []) (GoOn (at_stage (removes.AddsChange state))))
        (count_now == count)
        -- the number is the one that was loaded: the step hides what stood there
        (λ t.
        let same_count : count_now ≡ count = grind (arith, nat_tests) in
        let party_after = then_at next hide_it false in
        let written : List (Event T) = Hidden p index ∷ [] in
        let odd : count_now % 2 ≡ 1 = ap (λ n. n % 2) same_count ∙ stands.4 in
        let total = same_total in
        goes_on scene (at_stage next) hide_it false here.span (record {
          longer = λ start w. refl;
          does =
              hides (as_given (removes.Hides count state) here) party_after
              (record { below = below; new = hides_count inv index count below same_count; owed = refl }) odd
              (λ holds q ne o theirs fresh. both_ways (left_of index events) fresh (knows.2.left holds same_count))
              (was_well_formed scene start tt here.span (words_after ws hide_it) party_after written (refl, tt));
          follows = ((refl, stands.2, stands.3), tt);
          few = omega arith;
          stands = (
            refl,
            given_is,
            fits,
            (
              below,
              subst (λ d. HasDone {T = T} (Remove index owner mode) (answers.State state) d []) (sym (append-nil (all scene))) stands.1,
            ),
          );
          known = (
            let paid = knows.0 in
                omega arith,
            says_then mode state written tt party_after knows.1,
            hides_it (freeing (removes.Hides count state) here) (words_after ws hide_it) party_after index count knows.3,
          );
        }))
        -- the number is another one: another call has hidden what stood there, and the step changes nothing
        (λ t.
        let other : count_now ≢ count = grind (arith, nat_tests) in
        let party_after = then_at next hide_it false in
        let total = same_total in
        goes_on scene (at_stage next) hide_it false here.span (record {
          longer = none_lengthens;
          does =
              loads (as_given (removes.Hides count state) here) party_after
              (fails_same ws (count_word c index) count (one_more count) other)
              (was_well_formed scene start tt here.span (words_after ws hide_it) party_after [] tt) (λ was. refl);
          follows = tt;
          few = omega arith;
          stands = (
            refl,
            given_is,
            fits,
            (
              below,
              subst (λ d. HasDone {T = T} (Remove index owner mode) (answers.State state) d []) (sym (append-nil (all scene))) stands.1,
            ),
          );
          known = (
            let paid = knows.0 in omega arith,
            says_then mode state [] tt party_after knows.1,
            hidden_on (freeing (removes.Hides count state) here) (words_after ws hide_it) party_after (none_in_call scene)
                (λ i was. subst (IsOneOf (Frees i owner)) (append-nil (all scene)) was)
                (hidden_other code c p owner index count (before scene) other knows.3),
          );
        }))

  -- ---- the change is counted, and the call ends

  -- the remove has hidden what stood at its index, and counts its change
  module _ (state : ReleaseState) (here : IsAtStage (removes.AddsChange state))
      (has_done : HasDone {T = T} (Remove index owner mode) (answers.State state) (all scene) [])
      (knows : RemoveKnows code c index owner mode (removes.AddsChange state) (sees_now scene))
      (few_steps : steps ≤ 2 + release_total c index owner mode backs) where
    abbrev end_it : Option Ask
    end_it = Some (adds_one (change_word c))

    -- a counter at its end is at its end after the change is counted
    counter_stays_then : counter_of ws ≡ greatest → counter_of (words_after ws end_it) ≡ greatest
    counter_stays_then end =
        (leaves_behind (inv_of_set scene inv) (words_after ws end_it) (change_word c) _ (omega arith)
        (adds_to_change inv)).stuck
        end

    -- the answer of the remove is right, from what the remove knows of its state (`RemoveSays`)
    answers_right : (m : ReleaseMode) (t : ReleaseState) → RemoveSays code c index owner m t (sees_now scene)
        → AnswersBy scene.terms.by (IsWorn scene.terms.by (words_after ws end_it)) c events
        (Finished p (Container (Remove index owner m)) (answers.State t))
    answers_right = grind (arith, inl, worn_on, counter_stays_then, inr)

    -- the step in which a remove counts its change ends the remove
    pub end_step : StepOf scene start (at_stage (removes.AddsChange state))
    end_step =
        let party_after = party_then scene start end_it false (Done (answers.State state)) in
        let written : List (Event T) = Finished p (Container start) (answers.State state) ∷ [] in
        let well_formed = was_well_formed scene start tt here.span (words_after ws end_it) party_after written (refl, tt) in
        let new = adds_to_change inv in
        let most = total_is c z index owner mode (backs_then scene false) T in
        let total = same_total in
        ends scene (answers.State state) end_it false here.span (record {
          longer = none_lengthens;
          does = ends_counted (as_given (removes.AddsChange state) here) party_after (record {
            set_does =
                end_does (as_given (removes.AddsChange state) here) party_after
                (leaves_behind (inv_of_set scene inv) (words_after ws end_it) (change_word c) _ (omega arith) new)
                (quiet_end p (Container start) (answers.State state) (λ i o. refl) (λ i r. refl));
            answers = answers_right mode state knows.1;
            placed = λ holds.
                ⊎_elim (λ empty. empty) (λ never. absurd never)
                (knows.2 (well_formed holds) index (removed_frees T index owner mode state has_done));
            well_formed = well_formed;
          })
              new (λ holds i said. inv.elements.announced holds i said);
          follows = ((refl, removed_done index owner mode state (all scene) (done scene) has_done), tt);
          few = omega arith;
          paid = let paid = knows.0 in omega arith;
        })
