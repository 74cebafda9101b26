-- A turn of the robust index set writes first what the step did to the set, then the end. No
-- call of the set acts.
use Rattle.laws_robust.proofs.Names.{◌≡◌, ℕ, Option, List, refl, sym, subst, arith}
use Rattle.laws_robust.proofs.Names.{Start, Robust, Flight, Turn, Next, Decide}
use Rattle.laws_robust.proofs.Names.{Coding, step_of, goes_of}
use Rattle.laws_robust.proofs.Names.{IsParty}
use Rattle.laws_robust.proofs.Names.{number_of, Trace}
use Rattle.model.specs.declared.families.Flight.TheVariants as flights
use Rattle.model.specs.declared.families.Registry.TheVariants as registries
use Rattle.model.specs.declared.turn.Kind.TheVariants as kinds
use Rattle.model.proofs.Frame as frame
use Rattle.model.proofs.FamilyLaws.{Writes, only_effects, Owed, keeps}
use Rattle.model.proofs.Orders.{Keeps}
use Rattle.model.proofs.Scenes.{answered_from}
use Rattle.laws_robust.specs.Gone.{Death}
use Rattle.laws_robust.proofs.Invariant.{RobustSet, outline, family}
use Rattle.laws_robust.proofs.Kept.{bounds, set_kept}
use Rattle.laws_robust.proofs.Sound.{May, all_turns}
use Rattle.laws_robust.proofs.FindCoverage.{finds_all}
use Rattle.laws_robust.proofs.Decisions.{finds_up_to, tells_once, yes_tells}
use Rattle.laws_robust.proofs.Written.{all_effects}

module _ {T : Type 0} (code : Coding T) (c : ℕ) where
  -- a turn of a call under way writes what it did to the set, and then the call's end
  writes : (t : Trace T) (turn : Turn T) (p : ℕ) → IsParty turn p → (answer : ℕ) (s : RobustSet T) (start : Start T) (flight : Flight T)
      → (family code c).At s p start flight
      → Writes (outline Death) t turn (answered_from t p t.world.coding answer s.words (registries.Owners s.dead) start flight)
  writes t turn p mine answer s (Robust start) (flights.Robust flight) at =
      only_effects (outline Death) t turn _ (all_effects turn p mine flight answer)
  writes t turn p mine answer s start flight at = absurd at

  -- a call of the set goes on as its table says
  told : (s : RobustSet T) (p : ℕ) (start : Start T) (flight : Flight T) → (family code c).At s p start flight
      → (z : Coding T) (words : List ℕ) (beside : Option (ℕ × ℕ)) (answer : ℕ)
      → (step_of z words beside p start flight answer (registries.Owners s.dead)).after
      ≡ goes_of z p flight answer (registries.Owners s.dead)
  told s p start flight at z words beside answer = grind arith

  -- the family has what is owed beside the turns: its promise, its bounds, and that what a step writes is
  -- in order, among others
  owed : Owed (outline Death) code c
  owed =
      record {
        promise = refl;
        bounds = bounds code c;
        promised = λ t s few. set_kept code (subst (λ n. frame.Sound (family code n) t) (sym s.capacity) s);
        writes = λ t s p x since small start flight here. writes t (Next p) p refl _ s.state start flight here.at;
        decides = λ t s p x since said start flight asks here. writes t (Decide p said) p refl (number_of said) s.state start flight here.at;
        goes = told;
        tells = λ t turn e s. ((finds_all code c turn e s, finds_up_to code c s turn e), tells_once code c s e, yes_tells code c s turn e);
      }

-- what is proved of every run of the robust index set
pub robust_keeps : {T : Type 0} → Keeps T kinds.Robust
robust_keeps = keeps (outline Death) (May Death) (all_turns Death) (λ code c coded admitted. owed code c)
