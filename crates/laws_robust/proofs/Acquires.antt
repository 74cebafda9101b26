-- Each step of an acquire of the robust index set keeps the invariant, in the form that the frame asks of a turn (`Shows`, Invariant).
use Rattle.laws_robust.proofs.Names.{sym, subst, inr, inl, ⊎_elim, ◌≡◌, ℕ, ◌<◌, ◌≤◌, Bool, false, Option, List, []}
use Rattle.laws_robust.proofs.Names.{◌∷◌, ◌++◌, refl, ap, ◌∙◌, arith, Err, flat_map-append, Ask, After, Done}
use Rattle.laws_robust.proofs.Names.{AcquireStage, Acquired, empty, went_on, Index, Event, Filled, Granted}
use Rattle.laws_robust.proofs.Names.{acquire_answer, Fills, Grants, set_act, set_acts, is_dead, as_it_is, as_call}
use Rattle.laws_robust.proofs.Names.{words_after}
use Rattle.steps.specs.declared.indices.enums.UniqueIndexSetAcquireFailure.{UniqueIndexSetAcquireFailure}
use Rattle.steps.specs.declared.indices.enums.UniqueIndexSetAcquireFailure.TheVariants as failures
use Rattle.steps.specs.declared.indices.robust.acquire.Acquire as calls
use Rattle.model.specs.declared.families.indices.robust.RobustStart.TheVariants.{Acquire}
use Rattle.model.specs.declared.families.indices.robust.calls.RobustFlight.TheVariants as flights
use Rattle.laws_robust.proofs.Effects.{stays_same}
use Rattle.laws_robust.proofs.Grants.{grants}
use Rattle.laws_robust.proofs.Held.{Acquiring, Caller, WhyNot, FewEnd, held_step}
use Rattle.laws_robust.proofs.Invariant.{IsWorn, Scene, Inv, wrote_of}
use Rattle.laws_robust.proofs.Knows.{Knows, IsPaid}
use Rattle.laws_robust.proofs.CallProgress.{acquire_at, acquire_number, AcquireAt}
use Rattle.laws_robust.proofs.Stages.{IsHere, all, now, sees, StepOf, Leads, goes_on, ends, goes_quietly, ends_quietly}

-- The party `p` has an acquire for the owner `owner` under way, who is alive. `c` is the capacity, `ws` the
-- words before the step.
module _ {T : Type 0} {scene : Scene T} (inv : Inv scene) (owner : ℕ) (fits : owner < empty)
    (alive : is_dead owner scene.events ≡ false) (here : IsHere scene (Acquire owner)) where
  open scene use {capacity as c, party as p, steps as steps, backs as backs, events as events}

  -- the words of the set before the step
  abbrev ws : List ℕ
  ws = scene.set.words

  -- a step that wrote `did`, after which the acquire is as `a` says, keeps the invariant (`Shows`)
  abbrev Lead : Option Ask → Bool → List (Event T) → After calls.Acquire Acquired → Type 0
  Lead ask back did a =
      Leads scene (Acquire owner) ask back did (as_call flights.Acquire acquire_answer (went_on as_it_is owner tt a))

  -- the acquire, as `Held` takes it
  abbrev acquiring : Acquiring T
  acquiring = record { scene = scene; inv = inv; owner = owner; fits = fits; alive = alive; extra = 0 }

  -- an acquire that fails ends with this failure
  refuses : (failure : UniqueIndexSetAcquireFailure) (ask : Option Ask) (back : Bool)
      → words_after ws ask ≡ ws → WhyNot acquiring failure → IsPaid (sees scene ask back)
      → FewEnd acquiring ask back → Lead ask back [] (Done (Err failure))
  refuses failures.IsLocked ask back same why paid few =
      ends_quietly scene inv ask back here (record {
        stays = stays_same scene inv (words_after ws ask) same;
        settles = λ i o. refl;
        rights = λ i r. refl;
        right = why.0;
        done = why.1;
        few = omega arith;
        paid = paid;
      })
  refuses failures.OutOfIndices ask back same why paid few =
      ends_quietly scene inv ask back here (record {
        stays = stays_same scene inv (words_after ws ask) same;
        settles = λ i o. refl;
        rights = λ i r. refl;
        right = (why.0, ⊎_elim (λ worn. inl (subst (IsWorn scene.by) (sym same) worn)) (λ all_filled. inr all_filled) why.1);
        done = why.2;
        few = omega arith;
        paid = paid;
      })

  -- `Held` asks the caller of an acquire for this: what a step leads to that goes on, fills, fails, or is
  -- granted an index
  caller : Caller acquiring Lead
  caller =
      record {
        quiet =
            λ next ask back same at known few. goes_quietly scene inv ask back
            here (stays_same scene inv (words_after ws ask) same) (omega arith) (refl, refl, fits, at) known;
        filled = λ i ask new does below none known few.
            goes_on scene ask false (Filled p i owner ∷ []) here (record {
              longer = λ start w. refl;
              does = does;
              follows = ((refl, none), tt);
              asks = (tt, tt);
              few = omega arith;
              stands = (refl, refl, fits, (below, ap (λ d. d ++ Fills i owner ∷ []) none));
              known = known;
            });
        fails = refuses;
        grants = λ i ask back below done mine raised paid few.
            let all_done : set_acts (wrote_of p events ++ Granted p i owner ∷ []) ≡ Fills i owner ∷ Grants i owner ∷ [] =
            flat_map-append set_act (wrote_of p events) (Granted p i owner ∷ []) ∙ ap (λ d. d ++ Grants i owner ∷ []) done in
            ends scene (Index i) ask back (Granted p i owner ∷ []) here (record {
              longer = λ start w. refl;
              does = grants scene inv (words_after ws ask) i owner mine alive raised;
              follows = ((refl, done), ((refl, all_done), tt));
              asks = (tt, (tt, tt));
              few = omega arith;
              paid = paid;
            });
      }

  -- any step of an acquire keeps the invariant (`Shows`), where the acquire stands at its stage and knows
  -- what the stage says
  pub acquire_step : (stage : AcquireStage) → AcquireAt c owner (all scene) stage
      → Knows c (acquire_at c owner stage) (now scene) → steps ≤ acquire_number c stage backs
      → StepOf scene (Acquire owner) (acquire_at c owner stage)
  acquire_step stage at knows few_steps = held_step acquiring Lead caller stage at knows (omega arith)
