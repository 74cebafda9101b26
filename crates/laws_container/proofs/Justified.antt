-- What a turn of a container writes down: what its step did to the container, and then the end of its call if
-- it ends. With it all that the frame asks of the family, and so all that is promised of every run.
use Rattle.std.proofs.Common.{arith}
use Rattle.laws_container.proofs.Names.{◌≡◌, ℕ, Option, None, List, refl, sym, subst}
use Rattle.laws_container.proofs.Names.{Start, Container, Flight, Turn, Next}
use Rattle.laws_container.proofs.Names.{Decide, Coding, step_of, goes_of}
use Rattle.laws_container.proofs.Names.{IsWellFormedRun, promise, state_of}
use Rattle.laws_container.proofs.Names.{IsParty, refusal_of, number_of}
use Rattle.laws_container.proofs.Names.{after_turn, Trace, passes, Keeps}
use Rattle.model.specs.declared.families.Flight.TheVariants as flights
use Rattle.model.specs.declared.turn.Kind.TheVariants as kinds
use Rattle.model.specs.declared.families.Registry.TheVariants as registries
use Rattle.model.proofs.FamilyLaws as laws
use Rattle.model.proofs.FamilyLaws.{Writes, only_effects, Owed}
use Rattle.model.proofs.Frame as frame
use Rattle.model.proofs.Scenes.{answered_from}
use Rattle.laws_container.proofs.Allowed.{allowed_by}
use Rattle.laws_container.proofs.Bounds.{bounds}
use Rattle.laws_container.proofs.Invariant.{ContainerNow, outline, family}
use Rattle.laws_container.proofs.Kept.{container_kept}
use Rattle.laws_container.proofs.WellFormed.{well_formed_so_far}
use Rattle.laws_container.proofs.Sound.{Shown, May, all_turns, may_go_on}
use Rattle.laws_container.proofs.Terms.{dying}
use Rattle.laws_container.proofs.TurnPromises.{tells_if}
use Rattle.laws_container.proofs.Written.{all_effects}

module _ {T : Type 0} (shown : Shown T) (code : Coding T) (c : ℕ) where
  -- what a step of a call at its stage writes are effects of the step's party, and then the end of the call
  -- if it ends
  writes : (t : Trace T) (turn : Turn T) (p : ℕ) → IsParty turn p → (answer : ℕ) (s : ContainerNow T) (start : Start T) (flight : Flight T)
      → (family code c).At s p start flight
      → Writes (outline dying) t turn (answered_from t p t.world.coding answer s.words (registries.Container s.dead s.states) start flight)
  writes t turn p mine answer s (Container start) (flights.Container flight) stands =
      only_effects (outline dying) t turn _ (all_effects turn p mine t.world.coding (state_of p s.states) flight answer)
  writes t turn p mine answer s start flight stands = absurd stands

  -- what becomes of a call by a step is decided by its stage and by what is kept beside the words
  told : (s : ContainerNow T) (p : ℕ) (start : Start T) (flight : Flight T) → (family code c).At s p start flight
      → (z : Coding T) (words : List ℕ) (beside : Option (ℕ × ℕ)) (answer : ℕ)
      → (step_of z words beside p start flight answer (registries.Container s.dead s.states)).after
      ≡ goes_of z p flight answer (registries.Container s.dead s.states)
  told s p start flight stands z words beside answer = grind arith

  -- a turn that the rows do not refuse tells all that the promise says
  tells_all : (t : Trace T) (turn : Turn T) → refusal_of t.world turn ≡ None
      → frame.Sound (family code c) t → promise.tells t turn (after_turn t turn)
  tells_all t turn unrefused sound = here (subst (λ n. frame.Sound (family code n) t) (sym sound.capacity) sound)
    where
      -- the turn tells this by the machine's own capacity
      here : frame.Sound (family code t.world.capacity) t → promise.tells t turn (after_turn t turn)
      here sound =
          let passed = passes t.world turn unrefused in
          let new : Trace T = after_turn t turn in
          let tells =
          tells_if
          (record {
            shown = shown;
            terms = dying;
            code = code;
            trace = t;
            sound = sound;
            may = may_go_on dying code t.world.capacity t sound passed.turns;
          })
          (record {
            turn = turn;
            allowed = allowed_by t.world turn passed.on;
            well_formed = IsWellFormedRun new;
            so_far = λ well_formed. well_formed_so_far well_formed;
          }) in
          record {
            finds = tells.finds;
            finds_up_to = λ p owner is here.
                let k = tells.finds_up_to p owner is here in
                record { index = k.index; value = k.value; number = k.number; asked = k.asked; ends = k.ends; counts = k.counts };
            questions = tells.questions;
            looks = tells.looks;
            leaves = tells.leaves;
            states = tells.states;
            visits = tells.visits;
          }

  -- all that the frame asks of a family holds of the container's
  owed : Owed (outline dying) code c
  owed =
      record {
        promise = refl;
        bounds = bounds code c;
        promised = λ t s few. container_kept code (subst (λ n. frame.Sound (family code n) t) (sym s.capacity) s);
        writes = λ t s p x since small start flight here. writes t (Next p) p refl _ s.state start flight here.at;
        decides = λ t s p x since said start flight asks here. writes t (Decide p said) p refl (number_of said) s.state start flight here.at;
        goes = told;
        tells = tells_all;
      }

module _ {T : Type 0} (shown : Shown T) where
  -- all that is promised of every run of a container holds
  pub keeps : Keeps T kinds.Container
  keeps = laws.keeps (outline dying) (May shown) (all_turns shown) (λ code c coded admitted. owed shown code c)
