-- The steps of an add while it acquires its index: what each step of the acquire of the set leads to,
-- in a call that goes on after the grant (`AddWrites`). What a step has to show is said by `StepOf`
-- and `Leads` of `Stages`.
use Rattle.laws_container.proofs.Names.{inl, inr, ◌∙◌, ⊎_elim, ◌≡◌, ℕ, ◌<◌, ◌≤◌, Bool, false, Option, List, [], ◌∷◌}
use Rattle.laws_container.proofs.Names.{◌++◌, refl, ap, arith, Err, Ask, After, GoOn, AddStage, first_add}
use Rattle.laws_container.proofs.Names.{add_acquired, cell_word, empty, went_on, NoPlace, Event, Filled, Granted}
use Rattle.laws_container.proofs.Names.{Finished, Container, ContainerStart, ContainerFlight, Party, added, Act}
use Rattle.laws_container.proofs.Names.{Fills, Grants, as_it_is, as_call, words_after, grants_alone, owns_then}
use Rattle.laws_container.proofs.Names.{acquire_at, acquire_number, AcquireAt, HasDone}
use Rattle.steps.specs.declared.ask.After.TheVariants.{Done}
use Rattle.steps.specs.declared.container.add.AddStage.TheVariants as adds
use Rattle.steps.specs.declared.container.enums.ContainerAddFailure.TheVariants as add_failures
use Rattle.steps.specs.declared.indices.enums.UniqueIndexSetAcquireFailure.{UniqueIndexSetAcquireFailure}
use Rattle.steps.specs.declared.indices.enums.UniqueIndexSetAcquireFailure.TheVariants as failures
use Rattle.steps.specs.declared.indices.robust.acquire.Acquire as set_calls
use Rattle.steps.specs.declared.indices.robust.acquire.AcquireStage.{AcquireStage}
use Rattle.steps.specs.declared.indices.robust.acquire.AcquireStage.TheVariants as acquires
use Rattle.steps.specs.declared.indices.robust.parts.Raise.TheVariants as raises
use Rattle.steps.specs.Indices.Robust.Acquire.{Acquired}
use Rattle.model.specs.declared.families.container.ContainerStart.TheVariants.{Add}
use Rattle.model.specs.declared.families.container.calls.ContainerFlight.TheVariants as calls
use Rattle.laws_robust.proofs.Core as set_core
use Rattle.laws_robust.proofs.Effects as set_effects
use Rattle.laws_robust.proofs.Held.{Acquiring, Caller, WhyNot, FewEnd, held_step}
use Rattle.laws_robust.proofs.Invariant as set_invariant
use Rattle.laws_robust.proofs.Knows as set_knows
use Rattle.laws_robust.proofs.Stages as set_stages
use Rattle.laws_container.proofs.Effects.{OwesStill}
use Rattle.laws_container.proofs.Invariant.{Scene, Inv, ActsFor, of_set, inv_of_set, right_end}
use Rattle.laws_container.proofs.SetSteps.{rest_set, wide_set, fills, grants}
use Rattle.laws_container.proofs.Stages.{Call, IsUnderWay, all, done, Leads, none_lengthens, StepOf, party_then, goes_on}
use Rattle.laws_container.proofs.Stages.{goes_calmly, ends, owes_none, was_well_formed}
use Rattle.laws_container.proofs.CallProgress.{add_at}
use Rattle.laws_container.proofs.Steps.{loads}
use Rattle.laws_container.specs.Gone.{AnswersBy}
use Rattle.steps.specs.declared.container.enums.ContainerAddFailure.{ContainerAddFailure}
use Rattle.laws_container.proofs.Silent.{silently}

-- an add by the party of the scene, for an owner that is not gone
pub record Adding (T : Type 0) : Type 0 where
  -- the turn, and what holds of the machine before it
  pub scene : Scene T
  pub inv : Inv scene
  -- the arguments of the call, whose owner can be in a cell and is not gone
  pub value : T
  pub owner : ℕ
  pub fits : owner < empty
  pub acts : ActsFor scene owner

-- the add is in the acquire of the set, at `stage`
module _ {T : Type 0} (adding : Adding T) (stage : AcquireStage)
    (here : IsUnderWay adding.scene (Add adding.value adding.owner) (add_at adding.scene.capacity adding.value adding.owner (adds.Acquires stage))) where
  open adding use {scene, inv, value, owner, fits, acts}
  open adding.scene use {capacity as c, party as p, steps, backs, events}

  abbrev ws : List ℕ
  ws = scene.words

  abbrev start : ContainerStart T
  start = Add value owner

  abbrev flight : ContainerFlight T
  flight = add_at c value owner (adds.Acquires stage)

  -- the add as a call at this stage
  abbrev goes_to : AddStage → ContainerFlight T
  goes_to next = add_at c value owner next

  -- the acquire of the add, as the set has it
  abbrev acquiring : Acquiring T
  acquiring = record { scene = of_set scene; inv = inv_of_set scene inv; owner = owner; fits = fits; alive = acts.alive; extra = 0 }

  -- what a step of the acquire leads to, as a step of the add
  abbrev LeadsInAdd : Option Ask → Bool → List (Event T) → After set_calls.Acquire Acquired → Type 0
  LeadsInAdd ask back did a =
      Leads scene (Add value owner) ask back scene.states (did ++ [])
      (as_call calls.Add added (went_on as_it_is (record { value = value; owner = owner }) tt (add_acquired (first_add c) a)))

  -- the add has done nothing to elements
  module _ (none : done scene ≡ []) where
    -- the add in its acquire, as a call of the container
    abbrev call : Call T
    call = record { scene = scene; inv = inv; start = start; flight = flight; no_look = tt; here = here }

    -- an add that acquires its index owes the changes no raise, and so none is missed
    still : (y : Party T) → OwesStill scene y
    still y = owes_none scene y here refl

    -- a step that leaves the words ends an add with this failure, if the answer is right and as the add has done, and the step is
    -- paid for and within the bound of steps
    fails_with : (failure : ContainerAddFailure) (ask : Option Ask) (back : Bool) → words_after ws ask ≡ ws
        → AnswersBy scene.terms.by (set_invariant.IsWorn scene.terms.by (words_after ws ask)) c events (Finished p (Container start) (NoPlace failure))
        → HasDone start (NoPlace failure) (all scene) (done scene) → set_knows.IsPaid (set_stages.sees (of_set scene) ask back)
        → FewEnd acquiring ask back → Leads scene start ask back scene.states [] (Done (NoPlace failure))
    fails_with failure ask back same answers has_done paid few =
        let party_after = party_then scene start ask back (Done (NoPlace failure)) in
        let written : List (Event T) = Finished p (Container start) (NoPlace failure) ∷ [] in
        let well_formed = was_well_formed scene start tt here.span (words_after ws ask) party_after written (refl, tt) in
        ends scene (NoPlace failure) ask back here.span (record {
          longer = none_lengthens;
          does = silently call same (tt, tt) (refl, tt) well_formed (still party_after) (right_end scene answers (λ holds. tt));
          follows = ((refl, has_done), tt);
          few = omega arith;
          paid = omega arith;
        })

    -- an add whose acquire fails ends with that failure: the container is locked, or no index was free
    refuses : (failure : UniqueIndexSetAcquireFailure) (ask : Option Ask) (back : Bool)
        → words_after ws ask ≡ ws → WhyNot acquiring failure
        → set_knows.IsPaid (set_stages.sees (of_set scene) ask back)
        → FewEnd acquiring ask back → LeadsInAdd ask back [] (Done (Err failure))
    refuses failures.IsLocked ask back same why paid few = fails_with add_failures.IsLocked ask back same why.0 why.1 paid few
    -- each index was filled, or the counter is at its end
    refuses failures.OutOfIndices ask back same why paid few =
        fails_with add_failures.OutOfSpace ask back same (
          why.0,
          ⊎_elim
              (λ worn. inl (set_invariant.worn_on scene.terms.by ws (words_after ws ask) (λ end. ap set_core.counter_of same ∙ end) worn))
              (λ all_filled. inr all_filled) why.1,
        )
        why.2 paid few

    -- what the acquire of the set leads to as part of an add: one field for each kind of step of the acquire,
    -- for its grant, and for its failures
    caller : Caller acquiring LeadsInAdd
    caller =
        record {
          -- the acquire goes on in a step that leaves the words
          quiet = λ next ask back same at known few.
              let y = party_then scene start ask back (GoOn (goes_to (adds.Acquires next))) in
              let well_formed = was_well_formed scene start tt here.span (words_after ws ask) y [] tt in
              goes_calmly scene (goes_to (adds.Acquires next)) ask back here.span (record {
                does = loads call y same well_formed (still y);
                few = omega arith;
                stands = (refl, refl, fits, (at, none));
                known = known;
              });
          -- the acquire fills a cell
          filled = λ i ask new does below empty_all known few.
              let y =
              party_then scene start ask false
              (GoOn (goes_to (adds.Acquires (acquires.Raises i raises.LoadsCounter)))) in
              let written = Filled p i owner ∷ [] in
              let well_formed = was_well_formed scene start tt here.span (words_after ws ask) y written (refl, tt) in
              goes_on scene (goes_to (adds.Acquires (acquires.Raises i raises.LoadsCounter))) ask false here.span (record {
                longer = λ start w. refl;
                does =
                    fills call y (rest_set scene (cell_word i) owner (omega arith) new) (wide_set scene (cell_word i) owner new) does
                    well_formed (still y);
                follows = ((refl, empty_all), tt);
                few = omega arith;
                stands = (refl, refl, fits, ((below, ap (λ d. d ++ Fills i owner ∷ []) empty_all), ap (λ (d : List (Act T)). d ++ []) none));
                known = known;
              });
          fails = refuses;
          -- the acquire is granted its index, and the add goes on to the number of the element
          grants = λ i ask back below filled mine raised paid few.
              let stays = set_effects.raised_stays (of_set scene) (inv_of_set scene inv) (words_after ws ask) raised in
              let y = party_then scene start ask back (GoOn (goes_to (adds.LoadsCount i))) in
              let written = Granted p i owner ∷ [] in
              let well_formed = was_well_formed scene start tt here.span (words_after ws ask) y written (refl, tt) in
              let alone = grants_alone (of_set scene) (inv_of_set scene inv) (words_after ws ask) i owner mine acts.alive raised in
              goes_on scene (goes_to (adds.LoadsCount i)) ask back here.span (record {
                longer = λ start w. refl;
                does = grants call y (λ n behind. stays.others n (omega arith)) stays.leaves.wide alone well_formed (still y);
                follows = ((refl, filled), tt);
                few = omega arith;
                stands = (refl, refl, fits, ((below, ap (λ d. d ++ Grants i owner ∷ []) filled), ap (λ (d : List (Act T)). d ++ []) none));
                known = record {
                  paid = omega arith;
                  within = below;
                  owns =
                      λ calm lives.
                      let k = owns_then (of_set scene) (inv_of_set scene inv) (words_after ws ask) i owner mine acts.alive raised calm in
                      record { by = k.0; held = k.1 };
                };
              });
        }

    -- the step of an add in the acquire of the set keeps the invariant
    pub acquire_step : AcquireAt c owner (all scene) stage
        → set_knows.Knows c (acquire_at c owner stage) (set_stages.now (of_set scene))
        → steps ≤ acquire_number c stage backs
        → StepOf scene (Add value owner) (add_at c value owner (adds.Acquires stage))
    acquire_step stands knows few_steps =
        held_step acquiring LeadsInAdd caller stage stands knows (omega arith)
