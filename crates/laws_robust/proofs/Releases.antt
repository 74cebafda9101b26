-- Each step of a release of the robust index set keeps the invariant, in the form that the frame asks of a turn (`Shows`, Invariant).
use Rattle.laws_robust.proofs.Names.{◌≡◌, ◌≢◌, ℕ, ◌+◌, ◌<◌, ◌≤◌, inl, inr, Bool, true, false, Option, Some, None}
use Rattle.laws_robust.proofs.Names.{List, [], ◌∷◌, ◌++◌, set, refl, ap, subst, arith, sym, Ok, flat_map-append}
use Rattle.laws_robust.proofs.Names.{fold-append, Ask, After, Done, ReleaseMode, LockIfLastIndex, Default}
use Rattle.laws_robust.proofs.Names.{ReleaseState, IndexIsNotOwnedByProvidedOwner, ReleaseStage, empty, locked}
use Rattle.laws_robust.proofs.Names.{greatest, Released, went_on, State, NotOwned, Event, FreedOf, Locked, Finished}
use Rattle.laws_robust.proofs.Names.{Robust, locked_after, is_locked, most_steps, release_answer, LivesToRelease}
use Rattle.laws_robust.proofs.Names.{SetAct, Frees, Locks, set_acts, filled_of, holder_of, settled_of, is_dead}
use Rattle.laws_robust.proofs.Names.{HasDone, as_it_is, SinceBegin, span_of, as_call, words_after, step_count}
use Rattle.steps.specs.declared.indices.enums.ReleaseState.TheVariants as states
use Rattle.steps.specs.declared.indices.enums.RobustUniqueIndexSetReleaseError.{RobustUniqueIndexSetReleaseError}
use Rattle.steps.specs.declared.indices.robust.release.Release as calls
use Rattle.steps.specs.declared.indices.robust.release.ReleaseStage.TheVariants as releases
use Rattle.model.specs.declared.families.indices.robust.RobustStart.TheVariants.{Release}
use Rattle.model.specs.declared.families.indices.robust.calls.RobustFlight.TheVariants as flights
use Rattle.laws_robust.specs.Gone.{GoneBy, Word, is_gone, GivesBackRight, IsHonest, IsCalm, AnswersBy}
use Rattle.laws_robust.proofs.Core.{counter_of}
use Rattle.laws_robust.proofs.Effects.{Stays, quiet_end, stays_same}
use Rattle.laws_robust.proofs.Gone.{lives_freed}
use Rattle.laws_robust.proofs.HeldRelease.{Releasing, Caller, Ends, StepAt, held_step}
use Rattle.laws_robust.proofs.Invariant.{IsWorn, Scene, Inv, wrote_of}
use Rattle.laws_robust.proofs.Knows.{Knows, IsPaid}
use Rattle.laws_robust.proofs.CallProgress.{release_at, release_number, ReleaseAt}
use Rattle.laws_robust.proofs.Locks.{locks}
use Rattle.laws_robust.proofs.Stages.{IsHere, all, now, sees, backs_then, StepOf, Leads, goes_on, ends, goes_quietly}
use Rattle.laws_robust.proofs.Stages.{ends_quietly}

-- a release that is refused since the owner does not hold the index has freed nothing
not_owned_done : (T : Type 0) (index owner : ℕ) (mode : ReleaseMode) (failure : RobustUniqueIndexSetReleaseError) (done : List SetAct)
    → done ≡ [] → HasDone {T = T} (Release index owner mode) (NotOwned failure) done
not_owned_done = grind arith

-- a release that is refused so is right, where the owner does not hold the index
not_owned_right : {T : Type 0} (by : GoneBy) (worn : Type 0) (c p index owner : ℕ) (mode : ReleaseMode)
    (failure : RobustUniqueIndexSetReleaseError) (events : List (Event T))
    → filled_of index events ≢ Some owner
    → AnswersBy by worn c events (Finished p (Robust (Release index owner mode)) (NotOwned failure))
not_owned_right = grind arith

-- The party `p` releases the index for the owner, who is alive. `c` is the capacity, `ws` the
-- words before the step.
module _ {T : Type 0} {scene : Scene T} (inv : Inv scene) {index owner : ℕ} (fits : owner < empty)
    (below : index < scene.capacity) (alive : is_dead owner scene.events ≡ false) where
  open scene use {by as by, capacity as c, party as p, steps as steps, backs as backs, events as events}

  -- the words of the set before the step
  abbrev ws : List ℕ
  ws = scene.set.words

  -- a step that wrote `did`, after which the release is as `a` says, keeps the invariant (`Shows`)
  abbrev Lead : ReleaseMode → Option Ask → Bool → List (Event T) → After calls.Release Released → Type 0
  Lead mode ask back did a =
      Leads scene (Release index owner mode) ask back did
      (as_call flights.Release release_answer
      (went_on as_it_is (record { index = index; owner = owner; mode = mode }) tt a))

  module _ {mode : ReleaseMode} (here : IsHere scene (Release index owner mode)) where
    -- the owner for whom the release acts lives
    lives : LivesToRelease owner events (span_of p events)
    lives = subst (LivesToRelease owner events) (sym here) alive

    -- where the history is honest, the owner who gives the index back is not gone
    gives_back : IsHonest (events ++ FreedOf p index owner ∷ []) → is_gone Word owner events ≡ false
    gives_back honest = subst (GivesBackRight owner events) here (honest events [] (FreedOf p index owner) refl)

    -- in a well-formed and honest run the owner is not gone, and the index was settled for him
    -- as the release began
    began : IsCalm by (events ++ FreedOf p index owner ∷ [])
        → (is_gone by owner events ≡ false) × SinceBegin p (λ part since. settled_of index part ≡ Some owner) events
    began = grind (arith, lives_freed, gives_back)

    -- the release, as `HeldRelease` takes it
    abbrev releasing : Releasing T
    releasing =
        record {
          scene = scene;
          inv = inv;
          index = index;
          owner = owner;
          mode = mode;
          fits = fits;
          below = below;
          lives = lives;
          began = began;
          extra = 0;
        }

    -- what the state says with which the release ends
    abbrev EndShows : List ℕ → ReleaseMode → ReleaseState → Type 0
    EndShows words' m state = Ends releasing words' m state

    -- a step that ends the release with this state keeps the invariant (`Shows`), if the answer is right and as the release has done, and
    -- the step leaves all words but the counter, is paid for and is within the bound of steps
    ends_rightly : (m : ReleaseMode) → IsHere scene (Release index owner m)
        → (state : ReleaseState) (ask : Option Ask) (back : Bool) → Stays scene (words_after ws ask)
        → AnswersBy by (IsWorn by (words_after ws ask)) c events (Finished p (Robust (Release index owner m)) (State state))
        → HasDone {T = T} (Release index owner m) (State state) (all scene) → IsPaid (sees scene ask back)
        → steps + step_count ask ≤ 0 + most_steps c (Release index owner m) (backs_then scene back)
        → Lead m ask back [] (Done (Ok state))
    ends_rightly m is_here state ask back stays right done paid few =
        ends_quietly scene inv ask back is_here (record {
          stays = stays;
          settles = λ i o. refl;
          rights = λ i r. refl;
          right = right;
          done = done;
          few = omega arith;
          paid = paid;
        })

    -- a step that ends the release with this state keeps the invariant (`Shows`)
    ends_with : (m : ReleaseMode) → IsHere scene (Release index owner m)
        → (state : ReleaseState) (ask : Option Ask) (back : Bool) → Stays scene (words_after ws ask)
        → EndShows (words_after ws ask) m state → all scene ≡ Frees index owner ∷ []
        → IsPaid (sees scene ask back)
        → steps + step_count ask ≤ 0 + most_steps c (Release index owner m) (backs_then scene back)
        → Lead m ask back [] (Done (Ok state))
    ends_with Default is_here states.Locked ask back stays why done paid few = absurd why
    ends_with Default is_here states.Unlocked ask back stays why done paid few = ends_rightly Default is_here states.Unlocked ask back stays tt done paid few
    ends_with LockIfLastIndex is_here states.Locked ask back stays why done paid few =
        ends_rightly LockIfLastIndex is_here states.Locked ask back stays why (inl done) paid few
    ends_with LockIfLastIndex is_here states.Unlocked ask back stays why done paid few =
        ends_rightly LockIfLastIndex is_here states.Unlocked ask back stays why done paid few

    -- the acts of a release that locks are the free and the lock
    all_done : all scene ≡ Frees index owner ∷ [] → set_acts (wrote_of p events ++ Locked p ∷ []) ≡ Frees index owner ∷ Locks ∷ []
    all_done = grind (arith, flat_map-append)

    -- after `Locked` the set is locked
    now_locked : is_locked (events ++ Locked p ∷ []) ≡ true
    now_locked = fold-append locked_after false events (Locked p ∷ [])

    -- a step that locks the set and ends the release keeps the invariant (`Shows`)
    locks_with : (m : ReleaseMode) → IsHere scene (Release index owner m) → (ask : Option Ask) → m ≡ LockIfLastIndex
        → (IsCalm by events → (i : ℕ) → holder_of i events ≡ None) → counter_of ws < greatest
        → words_after ws ask ≡ set ws 0 locked
        → all scene ≡ Frees index owner ∷ [] → IsPaid (sees scene ask false)
        → steps + step_count ask ≤ 0 + most_steps c (Release index owner m) (backs_then scene false)
        → Lead m ask false (Locked p ∷ []) (Done (Ok states.Locked))
    locks_with Default is_here ask mode none less new done paid few = absurd (cc)
    locks_with LockIfLastIndex is_here ask mode none less new done paid few =
        ends scene (State states.Locked) ask false (Locked p ∷ []) is_here (record {
          longer = λ start w. refl;
          does =
              locks scene inv
              (quiet_end p (Robust (Release index owner LockIfLastIndex)) (State states.Locked) (λ j o. refl) (λ j r. refl))
              (refl, tt) (tt, tt) (now_locked, tt) none less new;
          follows = (done, ((refl, inr (all_done done)), tt));
          asks = (tt, (tt, tt));
          few = omega arith;
          paid = paid;
        })

    -- `HeldRelease` asks the caller of a release for this: what a step leads to that goes on, frees, or ends
    caller : Caller releasing (Lead mode)
    caller =
        record {
          quiet =
              λ next ask back stays at known few. goes_quietly scene inv ask back here stays (omega arith) (refl, refl, fits, below, at)
              known;
          freed = λ ask new does none known few.
              goes_on scene ask false (FreedOf p index owner ∷ []) here (record {
                longer = λ start w. refl;
                does = does;
                follows = ((refl, refl, none), tt);
                asks = (tt, tt);
                few = omega arith;
                stands = (refl, refl, fits, below, ap (λ d. d ++ Frees index owner ∷ []) none);
                known = known;
              });
          refused = λ ask same other none paid few.
              ends_quietly scene inv ask false here (record {
                stays = stays_same scene inv (words_after ws ask) same;
                settles = λ i o. refl;
                rights = λ i r. refl;
                right = not_owned_right by (IsWorn by (words_after ws ask)) c p index owner mode IndexIsNotOwnedByProvidedOwner events other;
                done = not_owned_done T index owner mode IndexIsNotOwnedByProvidedOwner (all scene) none;
                few = omega arith;
                paid = paid;
              });
          ended = ends_with mode here;
          locks = locks_with mode here;
        }

    abbrev held : (stage : ReleaseStage) → ReleaseAt c index owner mode (all scene) stage
        → Knows c (release_at c index owner mode stage) (now scene) → steps ≤ 0 + release_number c mode stage backs
        → StepAt releasing (Lead mode) caller stage
    held = held_step releasing (Lead mode) caller

    -- any step of a release keeps the invariant (`Shows`), where the release stands at its stage and knows
    -- what the stage says
    pub release_step : (stage : ReleaseStage) → ReleaseAt c index owner mode (all scene) stage
        → Knows c (release_at c index owner mode stage) (now scene) → steps ≤ release_number c mode stage backs
        → StepOf scene (Release index owner mode) (release_at c index owner mode stage)
    release_step releases.EmptiesCell at knows few_steps = held releases.EmptiesCell at knows (omega arith)
    release_step (releases.Raises raise) at knows few_steps = held (releases.Raises raise) at knows (omega arith)
    release_step (releases.Locks lock) at knows few_steps = held (releases.Locks lock) at knows (omega arith)
