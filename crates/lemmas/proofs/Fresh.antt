-- A run in which no push finds the last position, and no store the last version, goes on to such a run.
use Rattle.model.proofs.Names.{◌≡◌, ℕ, None, List, [], ◌∷◌, ◌++◌, refl, Coding, run_on}
use Rattle.model.specs.Turns.{attempt_on}
use Rattle.model.proofs.Names.{after_turn, call_refusal, Trace, opening}
use Rattle.model.specs.declared.turn.Kind.{Kind}
use Rattle.model.specs.declared.turn.Turn.{Turn}
use native.Mathlib.Omega.{arith}
use Rattle.model.proofs.Reached.{run_by_more, turn_making}
use Rattle.model.specs.Fresh.{AllMay, IsFreshTurn, IsFreshRun}

module _ {T : Type 0} where
  -- where all turns of a run may be taken, and one more may, all of the longer run may
  may_more : (turns : List (Turn T)) (turn : Turn T) (t : Trace T) → AllMay IsFreshTurn turns t
      → IsFreshTurn (run_on turns t) turn → AllMay IsFreshTurn (turns ++ turn ∷ []) t
  may_more [] turn t all one = (λ e. one, tt)
  may_more (x ∷ xs) turn t all one = (all.0, may_more xs turn (attempt_on t x) all.1 one)

  -- a fresh turn that is not refused leads from a fresh run to a fresh run
  pub fresh_more : (t : Trace T) (turn : Turn T) → call_refusal t.world turn ≡ None → IsFreshTurn t turn → IsFreshRun t → IsFreshRun (after_turn t turn)
  fresh_more = grind (arith, turn_making, opening, after_turn, run_by_more, may_more)

  -- a machine that has just opened is a fresh run, of no turns
  pub fresh_opening : (code : Coding T) (kind : Kind) (capacity parties : ℕ) → IsFreshRun (opening code kind capacity parties)
  fresh_opening code kind capacity parties = record { turns = []; is = refl; fresh = tt }
