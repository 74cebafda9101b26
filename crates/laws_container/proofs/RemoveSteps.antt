-- The first step of a remove, in which it loads the number of the element that it will hide; and any step of
-- a remove. What a step has to show is said by `StepOf` and `Leads` of `Stages`.
use Rattle.laws_container.proofs.Names.{◌≡◌, inl, ℕ, ◌+◌, ◌<◌, ◌≤◌, false, Option, Some, None, List, [], ◌∷◌, refl}
use Rattle.laws_container.proofs.Names.{sym, ap, subst, arith, Ask, ContainerHandleNotOwnedByContainer, RemoveStage}
use Rattle.laws_container.proofs.Names.{ReleaseMode, count_word, empty, Event, Finished, Container, ContainerStart}
use Rattle.laws_container.proofs.Names.{place_of, words_after, loads_same, release_at}
use Rattle.steps.specs.declared.ask.After.TheVariants.{Done}
use Rattle.steps.specs.declared.container.remove.RemoveStage.TheVariants as removes
use Rattle.steps.specs.declared.indices.robust.release.ReleaseStage.TheVariants as releases
use Rattle.model.specs.declared.event.Answer.TheVariants as answers
use Rattle.model.specs.declared.families.container.ContainerStart.TheVariants.{Remove}
use Rattle.laws_robust.proofs.Effects as set_effects
use Rattle.laws_robust.proofs.Invariant as set_invariant
use Rattle.laws_robust.proofs.Knows as set_knows
use Rattle.laws_robust.proofs.Stages as set_stages
use Rattle.lemmas_owners.proofs.Operations as operations
use Rattle.laws_container.proofs.Core.{count_at}
use Rattle.laws_container.proofs.HiddenRemoves.{Removing, refused_done, refused_right, total_is, hides_step, end_step}
use Rattle.laws_container.proofs.HiddenRemoves.{at_stage, IsAtStage}
use Rattle.laws_container.proofs.Invariant.{right_end, Scene, Inv, ActsFor, before, of_set, inv_of_set}
use Rattle.laws_container.proofs.Knows.{RemoveKnows}
use Rattle.laws_container.proofs.Silent.{silently}
use Rattle.laws_container.proofs.Stages.{Call, IsUnderWay, all, done, sees_now, StepOf, none_lengthens}
use Rattle.laws_container.proofs.Stages.{party_then, ends}
use Rattle.laws_container.proofs.Stages.{owes_none, was_well_formed}
use Rattle.laws_container.proofs.CallProgress.{remove_at, remove_number, RemoveAt, place_is}
use Rattle.laws_container.proofs.Turns.{count_in}
use Rattle.laws_container.proofs.Removes.{release_step, stays_on}

-- the steps of one remove
module _ {T : Type 0} (removing : Removing T) where
  open removing use {scene, inv, index, owner, mode, below}
  open removing.scene use {coding as code, capacity as c, steps}

  abbrev ws : List ℕ
  ws = scene.words

  abbrev start : ContainerStart T
  start = Remove index owner mode

  -- ---- the number is loaded

  -- the remove loads the number of the element at its index
  module _ (here : IsAtStage removing removes.LoadsCount) (none : all scene ≡ []) (nothing : done scene ≡ [])
      (knows : set_knows.Knows c (release_at c index owner mode releases.EmptiesCell) (set_stages.now (of_set scene)))
      (few_steps : steps ≤ 0) where
    abbrev load_it : Option Ask
    load_it = Some (operations.loads (count_word c index))

    abbrev number : ℕ
    number = count_in code c (before scene) index

    -- the step in which a remove loads the number of the element leads to the release of the set
    loads_step : StepOf scene start (at_stage removing removes.LoadsCount)
    loads_step =
        let next = removes.Releases number releases.EmptiesCell in
        let same = loads_same ws (count_word c index) in
        stays_on removing removes.LoadsCount here refl next load_it false (record {
          stays = set_effects.stays_same (of_set scene) (inv_of_set scene inv) (words_after ws load_it) same;
          few = omega arith;
          stands = (below, none, nothing);
          known = (
            record { paid = let paid = knows.paid in omega arith; scanned = tt; owns = knows.owns; says = tt; gone = tt },
            (below, λ kept. let eq : count_at c (words_after ws load_it) index ≡ number = ap (λ w. count_at c w index) same in omega arith),
            λ holds lives since. inl (ap (λ w. count_at c w index) same),
          );
        })

-- ---- any step of a remove

-- a remove of this handle, in mode `mode`, is under way in the turn of the scene
module _ {T : Type 0} {scene : Scene T} (inv : Inv scene) (index : ℕ) {owner : ℕ} (mode : ReleaseMode) (fits : owner < empty) (acts : ActsFor scene owner) where
  open scene use {coding as code, capacity as c, party as p, steps as steps, backs as backs, events as events}

  -- a step of the remove at this stage, of the place `at`, keeps the invariant
  abbrev StepShows : RemoveStage → ℕ → Type 0
  StepShows stage at =
      IsUnderWay scene (Remove index owner mode) (remove_at c at owner mode stage)
      → RemoveKnows code c at owner mode stage (sees_now scene) → steps ≤ remove_number c at owner mode stage backs
      → StepOf scene (Remove index owner mode) (remove_at c at owner mode stage)

  -- a remove whose index is not below the capacity ends with the answer that its handle is
  -- not the container's
  past : (at : ℕ) → c ≤ index → all scene ≡ [] → StepShows removes.Refuses at
  past at beyond none here paid s =
      let start : ContainerStart T = Remove index owner mode in
      let party_after = party_then scene start None false (Done (answers.NotRemoved ContainerHandleNotOwnedByContainer)) in
      let written : List (Event T) = Finished p (Container start) (answers.NotRemoved ContainerHandleNotOwnedByContainer) ∷ [] in
      let call : Call T = record { scene = scene; inv = inv; start = start; flight = remove_at c at owner mode removes.Refuses; no_look = tt; here = here } in
      ends scene (answers.NotRemoved ContainerHandleNotOwnedByContainer) None false here.span (record {
        longer = none_lengthens;
        does =
            silently call refl (tt, tt) (refl, tt)
            (was_well_formed scene start tt here.span scene.words party_after written (refl, tt))
            (owes_none scene party_after here refl)
            (right_end scene
            (refused_right scene.terms.by (set_invariant.IsWorn scene.terms.by scene.words) c p index owner mode events (inl beyond))
            (λ h. tt));
        follows = ((refl, refused_done T index owner mode (all scene) (done scene) none), tt);
        few = let most = total_is c code.size index owner mode (backs + 0) T in omega arith;
        paid = omega arith;
      })

  -- the record of a remove whose index is below the capacity
  abbrev now : index < c → Removing T
  now below = record { scene = scene; inv = inv; index = index; owner = owner; mode = mode; fits = fits; acts = acts; below = below }

  -- any step of a remove, at whatever stage, keeps the invariant
  pub remove_step : (stage : RemoveStage) → RemoveAt c code.size (all scene) (done scene) index owner mode stage → StepShows stage (place_of c index)
  remove_step removes.Refuses stands = past (place_of c index) stands.0 stands.1
  remove_step removes.LoadsCount stands =
      subst (StepShows removes.LoadsCount) (sym (place_is c index stands.0)) (λ here k s. loads_step (now stands.0) here stands.1 stands.2 k s)
  remove_step (removes.Releases count stage) stands =
      subst (StepShows (removes.Releases count stage)) (sym (place_is c index stands.0))
      (λ here k s. release_step (now stands.0) count stage here stands.1 stands.2 k.1 k.2 k.0 s)
  remove_step (removes.Hides count state) stands =
      subst (StepShows (removes.Hides count state)) (sym (place_is c index stands.0)) (λ here k s. hides_step (now stands.0) state here stands k s)
  remove_step (removes.AddsChange state) stands =
      subst (StepShows (removes.AddsChange state)) (sym (place_is c index stands.0)) (λ here k s. end_step (now stands.0) state here stands.1 k s)
