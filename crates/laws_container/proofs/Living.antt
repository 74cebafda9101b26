-- No owner dies in an open run, so no step of a call of the container is refused for a dead owner.
use Rattle.laws_container.proofs.Names.{◌≡◌, ℕ, false, Some, None, List, ◌++◌, refl, sym, subst, ◌∙◌, arith}
use Rattle.laws_container.proofs.Names.{AllByRecursion, Event, Died, Start, Container, Flight, Registry}
use Rattle.laws_container.proofs.Names.{ContainerFlight, Next, Coding, beside_of, step_of, going_rows, after}
use Rattle.laws_container.proofs.Names.{state_of, effects, questions, has_died, IsEffectOf, first_row, answer_in}
use Rattle.laws_container.proofs.Names.{events_of_step, Trace, stands_there, AllLive, StepsLeave, end_leaves}
use Rattle.laws_container.proofs.Names.{all_both, all_so}
use Rattle.model.specs.declared.families.Flight.TheVariants as flights
use Rattle.model.specs.declared.families.Registry.TheVariants as registries
use Rattle.model.proofs.Frame as frame
use Rattle.lemmas_owners.proofs.Alive.{Leaves}
use Rattle.laws_container.proofs.Invariant.{family_by}
use Rattle.laws_container.proofs.Stages.{any_call}
use Rattle.laws_container.proofs.Terms.{Terms}
use Rattle.laws_container.proofs.Written.{all_effects}

module _ {T : Type 0} (p : ℕ) where
  -- no effect of a step is a death
  effect_leaves : (e : Event T) → IsEffectOf (Next p) e → Leaves e
  effect_leaves (Died o) its = absurd its
  effect_leaves e its = λ owner dead. refl

  -- effects of a step leave who is dead
  effects_leave : (es : List (Event T)) → AllByRecursion (IsEffectOf (Next p)) es → AllByRecursion Leaves es
  effects_leave es = all_so (IsEffectOf (Next p)) Leaves es effect_leaves

-- `c` is the capacity, and `t` the run up to this turn, which is sound
module _ {T : Type 0} (terms : Terms) (code : Coding T) (c : ℕ) (t : Trace T) (sound : frame.Sound (family_by terms code c) t) where
  -- ---- what a step writes

  module _ (p answer : ℕ) where
    -- what a step of the call writes
    abbrev writes : Registry T → Start T → Flight T → List (Event T)
    writes kept start flight =
        events_of_step p start (step_of t.world.coding t.world.words (beside_of t.world.words kept t.world.latest p) p start flight answer kept)

    -- what a step of a call at its stage writes leaves who is dead
    step_leaves : (start : Start T) (flight : Flight T) → (family_by terms code c).At sound.state p start flight
        → AllByRecursion Leaves (writes (registries.Container sound.state.dead sound.state.states) start flight)
    step_leaves (Container start) (flights.Container flight) stands =
        let state = state_of p sound.state.states in
        let did : List (Event T) = effects t.world.coding p state flight answer ++ questions p flight answer in
        all_both Leaves did _ (effects_leave p did (all_effects (Next p) p refl t.world.coding state flight answer))
        (end_leaves p (Container start) (answer_in (any_call (after t.world.coding state flight answer))))
    step_leaves start flight stands = absurd stands

  -- no step of the run makes an owner dead
  pub steps_leave : StepsLeave t
  steps_leave p x since flight answer found doing =
      let there = stands_there (family_by terms code c) t sound p x since flight found doing in
      subst (λ kept. AllByRecursion Leaves (writes p answer kept x.start flight)) (sym sound.fit.kept)
      (step_leaves p answer x.start flight there.at)

  -- ---- what is not refused

  module _ (all : AllLive t.events) where
    -- the machine of an open run keeps no dead owner
    pub has_not_died : (owner : ℕ) → has_died owner sound.state.dead ≡ false
    has_not_died owner = sound.holds.good.died owner ∙ all owner

    -- a step of any call is refused for no dead owner
    pub step_is_free : (flight : ContainerFlight T)
        → first_row (going_rows t.world.coding t.world.kept (Some (flights.Container flight)) None) ≡ None
    step_is_free flight = grind arith
