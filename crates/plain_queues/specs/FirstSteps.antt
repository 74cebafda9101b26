-- Where a call that runs alone stands after its first steps.
use Rattle.std.specs.Prelude.{ℕ, ◌≤◌, List}
use Rattle.steps.specs.declared.ask.Want.{Want}
use Rattle.steps.specs.declared.ask.After.{After}
use Rattle.plain_queues.specs.declared.drive.Stop.{Stop}
use Rattle.plain_queues.specs.Alone.{StopsFrom, StopsIn}

module _ {C G M E : Type 0} (want_of : C → G → Want (Unit {0})) (after : C → G → ℕ → After C E)
    (kept : C → M → ℕ → M) (given : G) where
  -- The call has taken its first steps and stands at `next`: in whichever way it stops from the beginning, it
  -- has stopped in that way already, or stops in that way from there in no more steps.
  abbrev pub StopsOn : C → M → List ℕ → After C (Stop C E) → M → List ℕ → Type 0
  StopsOn call room words next next_room next_words =
      (n : ℕ) (s : Stop C E) (r : M) (ws : List ℕ) → StopsIn want_of after kept given n s r ws call room words
      → StopsFrom want_of after kept given (λ d x y. (k : ℕ) × (k ≤ n) × StopsIn want_of after kept given k s r ws d x y)
      next next_room next_words s r ws
