-- What a structure promises, said by its family.
use Rattle.std.specs.Prelude.{ℕ, Option, List}
use Rattle.steps.specs.declared.ask.Ask.{Ask}
use Rattle.model.specs.declared.event.Answer.{Answer}
use Rattle.model.specs.declared.event.Event.{Event}
use Rattle.model.specs.declared.event.Start.{Start}
use Rattle.model.specs.declared.turn.Turn.{Turn}
use Rattle.model.specs.Reading.{Span}
use Rattle.model.specs.World.{Trace}

-- what a structure of one family promises of each run
pub record Promise (T : Type 0) : Type 1 where
  -- Where in its party's span (what its call has written so far) an event may stand that
  -- tells what a step did.
  pub may_stand : Event T → Span T → Type 0
  -- what a call that finished with this answer has written in its span, at this capacity
  pub wrote : ℕ → Start T → Answer T → List (Event T) → Type 0
  -- How many steps a call takes at most, by the capacity, the number of words of a value, the call, and
  -- how often it has turned back to the start of a loop.
  pub most_steps : ℕ → ℕ → Start T → ℕ → ℕ
  -- What an act tells of the machine before the turn in which it comes, of the operation that the turn
  -- asks for, and of whose turn it is.
  pub acts_right : Trace T → Option Ask → (ℕ → Type 0) → Event T → Type 0
  -- What a turn that was taken tells of the structure beside what every machine's turns do.
  pub tells : Trace T → Turn T → Trace T → Type 0
  -- what holds of the machine after any turns
  pub holds : Trace T → Type 0
