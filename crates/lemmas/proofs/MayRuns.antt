-- Runs of turns that may be taken: what a family keeps in every such turn holds of each of them.
use Rattle.model.proofs.Names.{◌≡◌, Option, Some, None, List, [], ◌∷◌, refl, call_refusal, after_turn, Trace}
use Rattle.model.specs.declared.turn.Turn.{Turn}
use Rattle.model.proofs.Frame.{Family, Sound}
use Rattle.model.proofs.Names.{run_on, unless_refused}
use Rattle.model.specs.Turns.{attempt_on}
use Rattle.model.proofs.Frame.{LawsWhere, turn_sound}
use Rattle.model.specs.declared.turn.Refusal.{Refusal}
pub use Rattle.model.specs.Fresh.{AllMay}

module _ {T : Type 0} (F : Family T) (May : Trace T → Turn T → Type 0) (laws : LawsWhere F May) where
  -- a turn that is refused, or may be taken, leaves a sound machine sound
  pub attempt_sound : (t : Trace T) (turn : Turn T) (o : Option Refusal) → call_refusal t.world turn ≡ o
      → (call_refusal t.world turn ≡ None → May t turn) → Sound F t → Sound F (unless_refused t (after_turn t turn) o)
  attempt_sound t turn None refusal_is may sound = turn_sound F May laws t turn refusal_is (may refusal_is) sound
  attempt_sound t turn (Some refusal) refusal_is may sound = sound

  -- a run of turns, each refused or such as may be taken, leaves a sound machine sound
  pub run_sound : (turns : List (Turn T)) (t : Trace T) → AllMay May turns t → Sound F t → Sound F (run_on turns t)
  run_sound [] t may sound = sound
  run_sound (turn ∷ turns) t may sound = run_sound turns (attempt_on t turn) may.1 (attempt_sound t turn (call_refusal t.world turn) refl may.0 sound)
