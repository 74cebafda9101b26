-- Any step of a replace: each stage has its step (`ReplaceSteps`, `ReplaceFound`), and a replace whose index is not below the capacity
-- ends in its first one.
use Rattle.laws_container.proofs.Names.{◌≡◌, inl, ℕ, ◌<◌, ◌≤◌, false, None, List, [], ◌∷◌, refl, sym, subst, arith}
use Rattle.laws_container.proofs.Names.{ContainerHandleNotOwnedByContainer, ReplaceStage, empty, Event, Finished}
use Rattle.laws_container.proofs.Names.{Container, ContainerStart, place_of, StandsWellFormed}
use Rattle.steps.specs.declared.ask.After.TheVariants.{Done}
use Rattle.steps.specs.declared.container.replace.ReplaceStage.TheVariants as replaces
use Rattle.model.specs.declared.event.Answer.TheVariants as answers
use Rattle.model.specs.declared.families.container.ContainerStart.TheVariants.{Replace}
use Rattle.laws_container.proofs.Invariant.{Scene, Inv, ActsFor, right_end}
use Rattle.laws_container.proofs.Knows.{ReplacesKnow}
use Rattle.laws_container.proofs.WellFormed.{well_formed_before}
use Rattle.laws_container.proofs.Stages.{Call, IsUnderWay, all, done, sees_now, StepOf}
use Rattle.laws_container.proofs.Stages.{none_lengthens, party_then}
use Rattle.laws_container.proofs.Stages.{ends, owes_none}
use Rattle.laws_container.proofs.CallProgress.{replace_at, replace_number, ReplaceAt, place_is}
use Rattle.laws_container.proofs.ReplaceSteps.{Replacing, cell_step}
use Rattle.laws_container.proofs.ReplaceFound.{count_step, hide_step, store_step, place_step, end_step}
use Rattle.laws_container.proofs.Silent.{silently}

-- a replace of this value at `index` for `owner` is under way in the turn of the scene
module _ {T : Type 0} {scene : Scene T} (inv : Inv scene) (index : ℕ) (value : T) {owner : ℕ} (fits : owner < empty) (acts : ActsFor scene owner) where
  open scene use {coding as code, capacity as c, party as p, steps as steps, backs as backs, events as events, latest as latest}

  -- a step of the replace at this stage, of the place `at`, keeps the invariant
  abbrev StepShows : ReplaceStage → ℕ → Type 0
  StepShows stage at =
      IsUnderWay scene (Replace index value owner) (replace_at c at value owner stage)
      → ReplacesKnow code c at value owner stage (sees_now scene) → steps ≤ replace_number code.size stage
      → StepOf scene (Replace index value owner) (replace_at c at value owner stage)

  -- a replace whose index is not below the capacity ends with the answer that its handle
  -- is not the container's
  refuses : (at : ℕ) → c ≤ index → all scene ≡ [] → done scene ≡ [] → StepShows replaces.Refuses at
  refuses at past none_done nothing here paid s =
      let start : ContainerStart T = Replace index value owner in
      let party_after = party_then scene start None false (Done (answers.NotRemoved ContainerHandleNotOwnedByContainer)) in
      let written : List (Event T) = Finished p (Container start) (answers.NotRemoved ContainerHandleNotOwnedByContainer) ∷ [] in
      let well_formed =
      well_formed_before scene.terms p party_after latest events written (refl, tt)
      (λ h. subst (λ o. StandsWellFormed p o events) (sym here.found)
      (λ index' owner' value' wrote' span few found. let taken = here.taken in absurd (omega arith))) in
      let call : Call T =
      record { scene = scene; inv = inv; start = start; flight = replace_at c at value owner replaces.Refuses; no_look = tt; here = here } in
      ends scene (answers.NotRemoved ContainerHandleNotOwnedByContainer) None false here.span (record {
        longer = none_lengthens;
        does = silently call refl (tt, tt) (refl, tt) well_formed (owes_none scene party_after here refl) (right_end scene (inl past) (λ holds. tt));
        follows = ((refl, (none_done, nothing)), tt);
        few = omega arith;
        paid = omega arith;
      })

  -- the record of a replace whose index is below the capacity, and which has done nothing to the set
  abbrev now : index < c → all scene ≡ [] → Replacing T
  now below none_done =
      record { scene = scene; inv = inv; index = index; value = value; owner = owner; fits = fits; acts = acts; below = below; none_done = none_done }

  -- any step of a replace, at whatever stage, keeps the invariant
  pub replace_step : (stage : ReplaceStage) → ReplaceAt c code.size (all scene) (done scene) index stage → StepShows stage (place_of c index)
  replace_step replaces.Refuses stands = refuses (place_of c index) stands.0 stands.1 stands.2
  replace_step replaces.LoadsCell stands =
      subst (StepShows replaces.LoadsCell) (sym (place_is c index stands.0)) (λ here k s. cell_step (now stands.0 stands.1) here stands.2 k.0 k.1 s)
  replace_step replaces.LoadsCount stands =
      subst (StepShows replaces.LoadsCount) (sym (place_is c index stands.0)) (λ here k s. count_step (now stands.0 stands.1) k here stands.2 s)
  replace_step (replaces.Hides count) stands =
      subst (StepShows (replaces.Hides count)) (sym (place_is c index stands.0))
      (λ here k s. hide_step (now stands.0 stands.1) k.0 here stands.2 stands.3 k.1 s)
  replace_step (replaces.Stores word) stands =
      subst (StepShows (replaces.Stores word)) (sym (place_is c index stands.0))
      (λ here k s. store_step (now stands.0 stands.1) k.0 here stands.2 stands.3 k.1 s)
  replace_step replaces.AddsCount stands =
      subst (StepShows replaces.AddsCount) (sym (place_is c index stands.0)) (λ here k s. place_step (now stands.0 stands.1) k.0 here stands.2 k.1 s)
  replace_step replaces.AddsChange stands =
      subst (StepShows replaces.AddsChange) (sym (place_is c index stands.0)) (λ here k s. end_step (now stands.0 stands.1) k.0 here k.1 k.2 s)
