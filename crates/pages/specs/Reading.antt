-- How a page reads what the model says: operations, invocations and responses.
use Rattle.std.specs.Prelude.{◌≡◌, ℕ, List, [], ◌∷◌, ◌++◌}
use Rattle.std.specs.List.{flat_map}
use Rattle.steps.specs.declared.ask.Ask.{Ask}
use Rattle.steps.specs.declared.ask.Op.{Op}
use Rattle.steps.specs.declared.ask.Op.TheVariants.{Load, Store, Add, Exchange, Swap, Sub, And, Or}
use Rattle.model.specs.declared.event.Answer as answers
use Rattle.model.specs.declared.event.Event.{Event}
use Rattle.model.specs.declared.event.Event.TheVariants.{Begun, Finished}
use Rattle.model.specs.declared.event.Start.{Start}
use Rattle.model.specs.World.{Trace}
use Rattle.pages.specs.Machine as machine

-- an operation of the page as one of the model
abbrev pub operation : machine.Operation → Op
operation machine.Load = Load
operation (machine.Store new) = Store new
operation (machine.Add by) = Add by
operation (machine.Exchange from to) = Exchange from to
operation (machine.Swap new) = Swap new
operation (machine.Sub by) = Sub by
operation (machine.And bits) = And bits
operation (machine.Or bits) = Or bits

-- an operation of the page on a word, as the model's call asks for it
abbrev pub asked : ℕ → machine.Operation → Ask
asked word op = record { word = word; op = operation op }

-- a call and an answer of the model, as the page names them
pub record ReadingOf (T Call Answer : Type 0) : Type 0 where
  pub call : Start T → Call
  pub answer : answers.Answer T → Answer

-- how a page reads a machine whose values are numbers
abbrev pub Reading : Type 0 → Type 0 → Type 0
Reading Call Answer = ReadingOf ℕ Call Answer

module _ {T Call Answer : Type 0} (read : ReadingOf T Call Answer) where
  -- what an event says on the page: an invocation, a response, or nothing
  abbrev pub seen : Event T → List (machine.Event Call Answer)
  seen (Begun p start) = machine.Invoked p (read.call start) ∷ []
  seen (Finished p start answer) = machine.Responded p (read.answer answer) ∷ []
  seen e = []

  -- invocations and responses, without effects and acts
  abbrev pub all_seen : List (Event T) → List (machine.Event Call Answer)
  all_seen es = flat_map seen es

  -- The model's trace and the page's world have the same words. After the events `first` the trace's events
  -- tell the page's history.
  pub record IsSame {Stage : Type 0} (first : List (Event T)) (t : Trace T) (w : machine.World Call Stage Answer) : Type 0 where
    pub events : List (Event T)
    pub is : t.events ≡ first ++ events
    pub history : all_seen events ≡ w.history  -- the invocations and responses among them are the page's history
    pub words : t.world.words ≡ w.words
