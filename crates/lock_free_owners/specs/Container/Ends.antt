-- What a pass of a container knew when a call ended.
use Rattle.std.specs.Prelude.{ℕ, ◌+◌, List, [], ◌∷◌, ◌++◌}
use Rattle.model.specs.declared.event.Event.{Event}
use Rattle.model.specs.declared.turn.Kind.TheVariants as kinds
use Rattle.model.specs.declared.turn.Turn.{Turn}
use Rattle.model.specs.Coding.{Coding}
use Rattle.history.specs.declared.view.View.{View}
use Rattle.history.specs.History.{AreFirst, IsBeginning, Knows, others_by, run_of, steps_of_run}

module _ {T : Type 0} (code : Coding T) (capacity : ℕ) where
  -- The first of the turns that a pass knows make a run whose events are `before` and then `last`,
  -- which is the end of a call.
  pub record RanTo (v : View T) (before : List (Event T)) (last : Event T) : Type 0 where
    pub turns : List (Turn T)
    pub first : AreFirst turns v.turns
    pub knows : Knows code kinds.Container capacity
        (record v {
          seen = before ++ last ∷ [];
          turns = turns;
          others = others_by (run_of code kinds.Container capacity turns).world v.party;
          asked = v.aside + steps_of_run code kinds.Container capacity turns;
        })
    -- this run goes on from each run that the pass knew before
    pub since : (old : View T) → Knows code kinds.Container capacity old → AreFirst old.turns v.turns
        → IsBeginning old.seen before → AreFirst old.turns turns
