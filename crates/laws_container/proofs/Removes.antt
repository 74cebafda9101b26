-- The steps of a remove. It goes through the release of the set, which frees its index; then it hides what
-- stood there, unless the number of the element has changed, and counts its change. What a step has to show
-- is said by `StepOf` and `Leads` of `Stages`.
use Rattle.laws_container.proofs.Names.{◌≡◌, ◌≢◌, ⊎_elim, inl, inr, ℕ, ◌+◌, ◌%◌, ◌<◌, ◌≤◌, if◌then◌else◌, Bool, false}
use Rattle.laws_container.proofs.Names.{true, Option, Some, None, List, [], ◌∷◌, ◌++◌, set, refl, sym, ap, subst, ◌∙◌}
use Rattle.laws_container.proofs.Names.{arith, Ok, fold-append, Ask, After, GoOn, ContainerHandleNotOwnedByContainer}
use Rattle.laws_container.proofs.Names.{RemoveStage, ReleaseMode, LockIfLastIndex, ReleaseState, ReleaseStage}
use Rattle.laws_container.proofs.Names.{count_word, is_even, Removed, at_remove, remove_released, cell_word, empty}
use Rattle.laws_container.proofs.Names.{locked, greatest, went_on, Answer, Event, FreedOf, Locked, Finished}
use Rattle.laws_container.proofs.Names.{Container, ContainerStart, ContainerFlight, Party, removed, promise, Act}
use Rattle.laws_container.proofs.Names.{contents_after, HasDone, locked_after, is_locked, LivesToRelease, Frees}
use Rattle.laws_container.proofs.Names.{Locks, filled_of, holder_of, settled_of, IsOneOf, as_it_is, SinceBegin}
use Rattle.laws_container.proofs.Names.{Stands, Open, span_of, as_call, words_after, step_count, held_now, AllFollow}
use Rattle.laws_container.proofs.Names.{no_more, Word, is_gone, GivesBackRight, IsHonest, IsCalm, lives_freed}
use Rattle.laws_container.proofs.Names.{counter_of, was_one, release_at, release_number, ReleaseAt}
use Rattle.steps.specs.declared.ask.After.TheVariants.{Done}
use Rattle.steps.specs.declared.container.remove.Remove as remove_calls
use Rattle.steps.specs.declared.container.remove.RemoveStage.TheVariants as removes
use Rattle.steps.specs.declared.indices.enums.ReleaseState.TheVariants as states
use Rattle.steps.specs.declared.indices.robust.parts.Raise.TheVariants as raises
use Rattle.steps.specs.declared.indices.robust.release.Release as set_calls
use Rattle.steps.specs.declared.indices.robust.release.ReleaseStage.TheVariants as releases
use Rattle.steps.specs.Indices.Robust.Release.{Released}
use Rattle.model.specs.declared.event.Answer.TheVariants as answers
use Rattle.model.specs.declared.families.container.ContainerStart.TheVariants.{Remove}
use Rattle.model.specs.declared.families.container.calls.ContainerFlight.TheVariants as calls
use Rattle.laws_robust.proofs.Effects as set_effects
use Rattle.lemmas_owners.proofs.Choices as choices
use Rattle.laws_robust.proofs.HeldRelease.{Releasing, Caller, Ends, held_step}
use Rattle.laws_robust.proofs.Invariant as set_invariant
use Rattle.laws_robust.proofs.Knows as set_knows
use Rattle.laws_robust.proofs.Locks as set_locks
use Rattle.laws_robust.proofs.Stages as set_stages
use Rattle.laws_container.specs.Gone.{FreedBy}
use Rattle.laws_container.proofs.Core.{count_at}
use Rattle.laws_container.proofs.HiddenKnows.{RemoveCovers, StillStands, HasHidden, no_index}
use Rattle.laws_container.proofs.HiddenRemoves.{Removing, as_given, freeing, refused_done, refused_right, total_is}
use Rattle.laws_container.proofs.HiddenRemoves.{at_stage, IsAtStage, then_at, given_is}
use Rattle.laws_container.proofs.HiddenOn.{hidden_even, hidden_calm, stands_calm, hidden_on, stands_on, hidden_freed}
use Rattle.laws_container.proofs.Invariant.{KeepsInvariant, right_end, before, after, of_set, inv_of_set, wrote_of}
use Rattle.laws_container.proofs.Knows.{View, HasLeft, ReleaseHides, ReleaseLeft, RemoveSays, IsPaid, Knows}
use Rattle.laws_container.proofs.Left.{left_after, left_of}
use Rattle.laws_container.proofs.SetSteps.{rest_set, wide_set, frees, locks}
use Rattle.laws_container.proofs.Silent.{silently}
use Rattle.laws_container.proofs.Stages.{sees_calmly, AreInCall, all, done, sees_now, then_sees, StepOf, Leads}
use Rattle.laws_container.proofs.Stages.{none_lengthens, party_then, since_then, changes_then, backs_then, goes_on}
use Rattle.laws_container.proofs.Stages.{goes_calmly, ends, owes_none, was_well_formed, was_well_formed_calmly}
use Rattle.laws_container.proofs.CallProgress.{remove_number, release_total, RemoveAt}
use Rattle.laws_container.proofs.SetStays.{moves}
use Rattle.laws_container.proofs.Terms.{Keeps}
use Rattle.laws_container.proofs.Turns.{remove_owes, count_in}
use Rattle.laws_container.proofs.Writing.{even_is, odd_is}
use Rattle.lemmas.proofs.Cases.{on_bool}

-- a remove is under way: of the handle with `index` and `owner`, in mode `mode`, by party `p` of the scene
module _ {T : Type 0} (removing : Removing T) where
  open removing use {scene, inv, index, owner, mode, fits, acts, below}
  open removing.scene use {coding as code, capacity as c, party as p, steps, backs, events, latest}

  abbrev ws : List ℕ
  ws = scene.words

  abbrev z : ℕ
  z = code.size

  abbrev start : ContainerStart T
  start = Remove index owner mode

  -- how the remove goes on, as a call of the container
  abbrev as_remove : After remove_calls.Remove Removed → After (ContainerFlight T) (Answer T)
  as_remove a =
      as_call calls.Remove removed
      (went_on as_it_is (record { index = index; owner = owner; mode = mode }) tt a)

  abbrev first : remove_calls.Remove
  first = record { capacity = c; stage = removes.LoadsCount }

  -- what the remove sees after a step that writes nothing and leads to stage `next`
  abbrev SeesCalmly : RemoveStage → Option Ask → Bool → View T
  SeesCalmly next ask back =
      sees_calmly scene ask back scene.states (then_at removing next ask back)

  -- ---- a step on the counter, or none, that writes nothing

  -- a step of a remove that owes no raise of the changes, which leaves all words but the counter and writes
  -- nothing, keeps what holds of the machine
  stays_does : (stage : RemoveStage) → IsAtStage removing stage → {words' : List ℕ} → set_effects.Stays (of_set scene) words'
      → {y : Party T} → remove_owes stage ≡ false → KeepsInvariant scene words' scene.states y []
  stays_does stage here {words'} stays {y} owes =
      moves (as_given removing stage here) y stays (was_well_formed scene start tt here.span words' y [] tt) (owes_none scene y here owes)

  -- What has to be shown of a step that leaves all words but the counter, and writes nothing, by which the remove comes to the stage `next`:
  -- after it the remove is within its steps, stands at that stage and knows what it tells.
  pub record StaysOn (next : RemoveStage) (ask : Option Ask) (back : Bool) : Type 0 where
    pub stays : set_effects.Stays (of_set scene) (words_after ws ask)
    pub few : steps + step_count ask ≤ remove_number c index owner mode next (backs_then scene back)
    pub stands : RemoveAt c z (all scene) (done scene) index owner mode next
    pub known : Knows code c (at_stage removing next) (SeesCalmly next ask back)

  -- such a step leads a remove that owes no raise of the changes to that stage
  pub stays_on : (stage : RemoveStage) → IsAtStage removing stage → remove_owes stage ≡ false → (next : RemoveStage) (ask : Option Ask) (back : Bool)
      → StaysOn next ask back → Leads scene start ask back scene.states [] (GoOn (at_stage removing next))
  stays_on stage here owes next ask back on =
      goes_calmly scene (at_stage removing next) ask back here.span (record {
        does = stays_does stage here on.stays owes;
        few = on.few;
        stands = (refl, given_is removing, fits, on.stands);
        known = on.known;
      })

  -- a remove that finds another owner in the cell ends with the answer that its handle is not the container's
  refuses : (stage : RemoveStage) → IsAtStage removing stage → remove_owes stage ≡ false → (ask : Option Ask)
      → words_after ws ask ≡ ws → filled_of index events ≢ Some owner → all scene ≡ [] → IsPaid (sees_now scene)
      → steps + step_count ask ≤ 1 + release_total c index owner mode (backs_then scene false)
      → Leads scene start ask false scene.states [] (Done (answers.NotRemoved ContainerHandleNotOwnedByContainer))
  refuses stage here owes ask same other none paid few =
      let party_after = party_then scene start ask false (Done (answers.NotRemoved ContainerHandleNotOwnedByContainer)) in
      let written : List (Event T) = Finished p (Container start) (answers.NotRemoved ContainerHandleNotOwnedByContainer) ∷ [] in
      let most = total_is c z index owner mode (backs_then scene false) T in
      ends scene (answers.NotRemoved ContainerHandleNotOwnedByContainer) ask false here.span (record {
        longer = none_lengthens;
        does =
            silently (as_given removing stage here) same (tt, tt) (refl, tt)
            (was_well_formed scene start tt here.span (words_after ws ask) party_after written (refl, tt))
            (owes_none scene party_after here owes)
            (right_end scene
            (refused_right scene.terms.by (set_invariant.IsWorn scene.terms.by (words_after ws ask)) c p index owner mode events (inr other))
            (λ h. tt));
        follows = ((refl, refused_done T index owner mode (all scene) (done scene) none), tt);
        few = omega arith;
        paid = omega arith;
      })

  -- ---- the release

  -- the remove is in the release of the set, at `stage`, after it has loaded the number
  -- `count` of the element
  module _ (count : ℕ) (stage : ReleaseStage) (here : IsAtStage removing (removes.Releases count stage))
      (now_at : ReleaseAt c index owner mode (all scene) stage) (nothing : done scene ≡ [])
      (left : ReleaseLeft code c index count stage (sees_now scene))
      (hiding : ReleaseHides code c index owner count stage (sees_now scene)) where
    -- the owner for whom the index is given back lives
    lives : LivesToRelease owner events (span_of p events)
    lives = subst (LivesToRelease owner events) (sym here.span) acts.alive

    -- where the run is honest with the freeing of the index, its owner is not gone
    gives_back : IsHonest (events ++ FreedOf p index owner ∷ []) → is_gone Word owner events ≡ false
    gives_back honest = subst (GivesBackRight owner events) here.span (honest events [] (FreedOf p index owner) refl)

    -- where the run is calm with the freeing of the index, its owner is not gone, and the index was settled
    -- for him when the remove began
    began : IsCalm scene.terms.by (events ++ FreedOf p index owner ∷ [])
        → (is_gone scene.terms.by owner events ≡ false) × SinceBegin p (λ part since. settled_of index part ≡ Some owner) events
    began = grind (arith, lives_freed, gives_back)

    -- the release of the remove, as the set has it
    abbrev releasing : Releasing T
    releasing =
        record {
          scene = of_set scene;
          inv = inv_of_set scene inv;
          index = index;
          owner = owner;
          mode = mode;
          fits = fits;
          below = below;
          lives = lives;
          began = began;
          extra = 1;
        }

    -- what a step of the release leads to, as a step of the remove
    abbrev LeadsInRemove : Option Ask → Bool → List (Event T) → After set_calls.Release Released → Type 0
    LeadsInRemove ask back did a =
        Leads scene start ask back scene.states (did ++ []) (as_remove (remove_released first count a))

    abbrev this : RemoveStage
    this = removes.Releases count stage

    -- what was left at the index is left still after a step that leaves all words but the counter
    left_calm : (next : RemoveStage) (ask : Option Ask) (back : Bool)
        → set_effects.Stays (of_set scene) (words_after ws ask) → HasLeft code c index count (sees_now scene)
        → HasLeft code c index count (SeesCalmly next ask back)
    left_calm next ask back stays was_left =
        let same : count_at c (words_after ws ask) index ≡ count_in code c (before scene) index = stays.others (count_word c index) (omega arith) in
        record {
          within = was_left.within;
          below = λ kept. let low = was_left.below kept in omega arith;
          left = λ holds is. was_left.left (was_well_formed_calmly scene start tt here.span (then_at removing next ask back) holds) (sym same ∙ is);
        }

    -- a release that has freed the index knows that what stands there under the loaded number was left there
    has_left : all scene ≡ Frees index owner ∷ [] → HasLeft code c index count (sees_now scene)
    has_left freed = grind arith

    -- after a step that leaves all words but the counter, the release knows at its next stage what was left
    -- at the index
    left_next : (next : ReleaseStage) (ask : Option Ask) (back : Bool)
        → set_effects.Stays (of_set scene) (words_after ws ask) → ReleaseAt c index owner mode (all scene) next
        → ReleaseLeft code c index count next (SeesCalmly (removes.Releases count next) ask back)
    left_next releases.EmptiesCell ask back stays stands = (below, low stage now_at left)
      where
        same : count_at c (words_after ws ask) index ≡ count_in code c (before scene) index
        same = stays.others (count_word c index) (omega arith)

        -- after a step that leaves all words but the counter, the number at the index is no lower than the
        -- one that was loaded
        low : (s : ReleaseStage) → ReleaseAt c index owner mode (all scene) s
            → ReleaseLeft code c index count s (sees_now scene) → Keeps scene.terms
            → count ≤ count_at c (words_after ws ask) index
        low releases.EmptiesCell stands release_left kept = omega (arith, release_left.1 kept, same)
        low (releases.Raises raise) stands release_left kept = omega (arith, release_left.below kept, same)
        low (releases.Locks lock) stands release_left kept = omega (arith, release_left.below kept, same)
    left_next (releases.Raises raise) ask back stays stands =
        left_calm (removes.Releases count (releases.Raises raise)) ask back stays (has_left stands)
    left_next (releases.Locks lock) ask back stays stands =
        left_calm (removes.Releases count (releases.Locks lock)) ask back stays (has_left stands.2)

    -- until the release frees the index, the loaded number covers what stands there (`RemoveCovers`)
    covers : all scene ≡ [] → RemoveCovers code c p owner index count (before scene)
    covers none = grind arith

    -- after it has freed the index, what stood there stands under the loaded number, or has been hidden
    stands_still : all scene ≡ Frees index owner ∷ [] → HasHidden code c p owner (StillStands code c index count (before scene)) (before scene)
    stands_still freed = grind arith

    -- after a step that leaves all words but the counter, the release knows at its next stage whether what
    -- stood at the index is hidden
    hides_next : (next : ReleaseStage) (ask : Option Ask) (back : Bool)
        → set_effects.Stays (of_set scene) (words_after ws ask) → ReleaseAt c index owner mode (all scene) next
        → ReleaseHides code c index owner count next (SeesCalmly (removes.Releases count next) ask back)
    hides_next releases.EmptiesCell ask back stays stands =
        let same : count_at c (words_after ws ask) index ≡ count_in code c (before scene) index = stays.others (count_word c index) (omega arith) in
        λ well_formed lives since. ⊎_elim (λ is. inl (same ∙ is)) (λ even. inr (ap (λ n. n % 2) same ∙ even))
        (covers stands (was_well_formed_calmly scene start tt here.span
        (then_at removing (removes.Releases count releases.EmptiesCell) ask back) well_formed)
        lives since)
    hides_next (releases.Raises raise) ask back stays stands =
        stands_calm (freeing removing this here) (words_after ws ask)
        (then_at removing (removes.Releases count (releases.Raises raise)) ask back) index count
        (stays.others (count_word c index) (omega arith)) (stands_still stands)
    hides_next (releases.Locks lock) ask back stays stands =
        stands_calm (freeing removing this here) (words_after ws ask)
        (then_at removing (removes.Releases count (releases.Locks lock)) ask back) index count
        (stays.others (count_word c index) (omega arith)) (stands_still stands.2)

    -- where the loaded number is even nothing stood at the index, so there is nothing to hide
    none_stands : all scene ≡ Frees index owner ∷ [] → is_even count ≡ true → HasHidden code c p owner no_index (before scene)
    none_stands = grind (arith, hidden_even, before, even_is, stands_still)

    -- the end of the release says what the remove needs for its own answer
    says_now : (next : RemoveStage) (ask : Option Ask) (back : Bool) (m : ReleaseMode) (state : ReleaseState)
        → Ends releasing (words_after ws ask) m state
        → RemoveSays code c index owner m state (SeesCalmly next ask back)
    says_now = grind (arith, held_now)

    -- a remove that has freed its index and ends with this state has done to the set what the answer says
    done_now : (words' : List ℕ) (m : ReleaseMode) (state : ReleaseState)
        → Ends releasing words' m state
        → all scene ≡ Frees index owner ∷ []
        → HasDone {T = T} (Remove index owner m) (answers.State state) (all scene) []
    done_now words' m state why freed = grind arith

    -- the release has ended with this state: the remove hides next what stood at the index, or counts its
    -- change if nothing stood there
    released : (state : ReleaseState) (ask : Option Ask) (back : Bool)
        → set_effects.Stays (of_set scene) (words_after ws ask)
        → Ends releasing (words_after ws ask) mode state
        → all scene ≡ Frees index owner ∷ []
        → backs_then scene back + since_then scene ask ≤ changes_then scene ask
        → steps + step_count ask ≤ 1 + release_total c index owner mode (backs_then scene back)
        → LeadsInRemove ask back [] (Done (Ok state))
    released state ask back stays why freed paid few =
        on_bool (λ b. Leads scene start ask back scene.states []
        (as_remove
        (if b then GoOn (at_remove first (removes.AddsChange state)) else GoOn (at_remove first (removes.Hides count state)))))
        (is_even count)
        -- nothing stood at the index: the remove counts its change next
        (λ t.
        stays_on this here refl (removes.AddsChange state) ask back (record {
          stays = stays;
          few = omega arith;
          stands = (below, done_now (words_after ws ask) mode state why freed);
          known = (
            paid,
            says_now (removes.AddsChange state) ask back mode state why,
            hidden_calm (freeing removing this here) (words_after ws ask) (then_at removing (removes.AddsChange state) ask back) (none_stands freed t),
          );
        }))
        -- a value stood at the index: the remove hides it next
        (λ t.
        stays_on this here refl (removes.Hides count state) ask back (record {
          stays = stays;
          few = omega arith;
          stands = (
            below,
            done_now (words_after ws ask) mode state why freed,
            subst (IsOneOf (Frees index owner)) (sym freed) (record { before = []; after = []; is = refl }),
            nothing,
            odd_is count t,
          );
          known = (
            paid,
            says_now (removes.Hides count state) ask back mode state why,
            left_calm (removes.Hides count state) ask back stays (has_left freed),
            stands_calm (freeing removing this here) (words_after ws ask)
                (then_at removing (removes.Hides count state) ask back) index count
                (stays.others (count_word c index) (omega arith)) (stands_still freed),
          );
        }))

    -- the release has ended by locking the set: the remove hides next what stood at the index, or counts its
    -- change if nothing stood there
    locked_by : (ask : Option Ask) → mode ≡ LockIfLastIndex
        → (IsCalm scene.terms.by events → (i : ℕ) → holder_of i events ≡ None) → counter_of ws < greatest
        → words_after ws ask ≡ set ws 0 locked → all scene ≡ Frees index owner ∷ []
        → backs_then scene false + since_then scene ask ≤ changes_then scene ask
        → steps + step_count ask ≤ 1 + release_total c index owner mode (backs_then scene false)
        → LeadsInRemove ask false (Locked p ∷ []) (Done (Ok states.Locked))
    locked_by ask may_lock nobody less new freed paid few =
        on_bool (λ b. Leads scene start ask false scene.states (Locked p ∷ [])
        (as_remove (if b then GoOn (at_remove first (removes.AddsChange states.Locked)) else GoOn
        (at_remove first (removes.Hides count states.Locked)))))
        (is_even count)
        -- nothing stood at the index: the remove counts its change next
        (λ t.
        goes_on scene (at_stage removing (removes.AddsChange states.Locked)) ask false here.span (record {
          longer = λ start w. refl;
          does = does (then_at removing (removes.AddsChange states.Locked) ask false);
          follows = stands;
          few = omega arith;
          stands = (refl, given_is removing, fits, (below, done_then));
          known = (
            paid,
            says,
            hidden_on (freeing removing this here) (words_after ws ask)
                (then_at removing (removes.AddsChange states.Locked) ask false) lock_in_call frees_none (none_stands freed t),
          );
        }))
        -- a value stood at the index: the remove hides it next
        (λ t.
        goes_on scene (at_stage removing (removes.Hides count states.Locked)) ask false here.span (record {
          longer = λ start w. refl;
          does = does (then_at removing (removes.Hides count states.Locked) ask false);
          follows = stands;
          few = omega arith;
          stands = (
            refl,
            given_is removing,
            fits,
            (
              below,
              done_then,
              subst (λ d. IsOneOf (Frees index owner) (d ++ Locks ∷ [])) (sym freed)
                  (record { before = []; after = Locks ∷ []; is = refl }),
              ap (λ (d : List (Act T)). d ++ []) nothing,
              odd_is count t,
            ),
          );
          known = (
            paid,
            says,
            left_then (then_at removing (removes.Hides count states.Locked) ask false),
            stands_then (then_at removing (removes.Hides count states.Locked) ask false),
          );
        }))
      where
        lock_in_call : AreInCall scene (Locked p ∷ [])
        lock_in_call = record { own = (refl, tt); fresh = tt; longer = λ start w. refl }

        set_does : set_invariant.Does (of_set scene) (words_after ws ask) (Locked p ∷ [])
        set_does = set_locks.locks (of_set scene) (inv_of_set scene inv) set_effects.quiet_none tt tt tt nobody less new

        -- for the machine of the container the lock does what it does for that of the set
        does : (y : Party T) → KeepsInvariant scene (words_after ws ask) scene.states y (Locked p ∷ [])
        does y =
            locks (as_given removing this here) y (rest_set scene 0 locked (omega arith) new) (wide_set scene 0 locked new) set_does
            (was_well_formed scene start tt here.span (words_after ws ask) y (Locked p ∷ []) (refl, tt)) (owes_none scene y here refl)

        -- the event of the lock may stand in this remove, which has freed its index
        stands : AllFollow (Stands promise c) (Open (Container (Remove index owner mode)) (wrote_of p events)) (Locked p ∷ [])
        stands = grind (arith, promise)

        done_then : HasDone {T = T} (Remove index owner mode) (answers.State states.Locked) (all scene ++ Locks ∷ []) []
        done_then = grind (arith, all, inr)

        says : is_locked (events ++ Locked p ∷ []) ≡ true
        says = fold-append locked_after false events (Locked p ∷ [])

        -- what was left at the index before the lock is left there after it
        left_then : (y : Party T) → HasLeft code c index count (then_sees scene ask false scene.states y (Locked p ∷ []))
        left_then y =
            let h = has_left freed in
            let same : count_at c (words_after ws ask) index ≡ count_in code c (before scene) index =
            rest_set scene 0 locked (omega arith) new
            (count_word c index) (omega arith) in
            record {
              within = h.within;
              below = λ kept. let low = h.below kept in omega arith;
              left =
                  λ holds is. fold-append (left_after index) true events (Locked p ∷ [])
                  ∙ h.left (was_well_formed scene start tt here.span (words_after ws ask) y (Locked p ∷ []) (refl, tt) holds)
                  (sym same ∙ is);
            }

        -- what the remove has freed after the lock, it had freed before
        frees_none : (i : ℕ) → IsOneOf (Frees i owner) (all scene ++ Locks ∷ []) → IsOneOf (Frees i owner) (all scene)
        frees_none i was = ⊎_elim (λ had. had) (λ e. absurd (cc)) (was_one (Frees i owner) Locks (all scene) was)

        -- what stood at the index under the loaded number stands there after the lock, or has been hidden
        stands_then : (y : Party T)
            → HasHidden code c p owner
            (StillStands code c index count (after scene (words_after ws ask) y (Locked p ∷ [])))
            (after scene (words_after ws ask) y (Locked p ∷ []))
        stands_then y =
            stands_on (freeing removing this here) (words_after ws ask) y lock_in_call frees_none index count
            (rest_set scene 0 locked (omega arith) new (count_word c index) (omega arith))
            (fold-append (contents_after index) None events (Locked p ∷ [])) (stands_still freed)

    -- what the release of the set leads to as part of a remove: one field for each kind of step of the
    -- release, and for each of its ends
    caller : Caller releasing LeadsInRemove
    -- the release goes on in a step that leaves all words but the counter
    caller =
        record {
          quiet = λ next ask back stays at known few.
              stays_on this here refl (removes.Releases count next) ask back (record {
                stays = stays;
                few = omega arith;
                stands = (below, at, nothing);
                known = (known, left_next next ask back stays at, hides_next next ask back stays at);
              });
          freed = λ ask new does none known few.
              let next = removes.Releases count (releases.Raises raises.LoadsCounter) in
              let party_after = then_at removing next ask false in
              let written : List (Event T) = FreedOf p index owner ∷ [] in
              let rest = rest_set scene (cell_word index) empty (omega arith) new in
              let same : count_at c (words_after ws ask) index ≡ count_in code c (before scene) index = rest (count_word c index) (omega arith) in
              goes_on scene (at_stage removing next) ask false here.span (record {
                longer = λ start w. refl;
                does =
                    frees (as_given removing this here) party_after rest (wide_set scene (cell_word index) empty new) does
                    (was_well_formed scene start tt here.span (words_after ws ask) party_after written (refl, tt))
                    (owes_none scene party_after here refl)
                    (subst (FreedBy scene.terms.by p index owner events) (sym here.span) tt);
                follows = ((refl, refl, none), tt);
                few = omega arith;
                stands = (refl, given_is removing, fits, (below, ap (λ d. d ++ Frees index owner ∷ []) none, ap (λ (d : List (Act T)). d ++ []) nothing));
                known = (
                  known,
                  record {
                    within = below;
                    below = low same;
                    left = λ holds is. fold-append (left_after index) true events written ∙ choices.at_same index index true (left_of index events) refl;
                  },
                  hidden_freed (freeing removing this here) index count below (words_after ws ask) party_after same
                      (λ holds i was. absurd (no_more was.before (Frees i owner) was.after (sym none ∙ was.is)))
                      (λ earlier holds. covers none earlier (acts.stays earlier.kept) (began holds.calm).1),
                );
              });
          refused = λ ask same other none paid few. refuses this here refl ask same other none (omega arith) few;
          ended = λ state ask back stays why freed paid few. released state ask back stays why freed paid few;
          locks = λ ask may_lock nobody less new freed paid few. locked_by ask may_lock nobody less new freed paid few;
        }
      where
        low : {n : ℕ} → n ≡ count_in code c (before scene) index → Keeps scene.terms → count ≤ n
        low {n} same kept = go stage now_at left
          where
            -- the cases are the stages of the release
            go : (s : ReleaseStage) → ReleaseAt c index owner mode (all scene) s → ReleaseLeft code c index count s (sees_now scene) → count ≤ n
            go = grind arith

    -- the step of a remove in the release of the set keeps the invariant
    pub release_step : set_knows.Knows c (release_at c index owner mode stage) (set_stages.now (of_set scene))
        → steps ≤ 1 + release_number c mode stage backs
        → StepOf scene start (at_stage removing (removes.Releases count stage))
    release_step knows few_steps =
        held_step releasing LeadsInRemove caller
        stage now_at knows few_steps
