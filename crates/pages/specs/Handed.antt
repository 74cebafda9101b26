-- How a page reads what a machine's calls hand out on their way: from the events of their steps.
use Rattle.std.specs.Prelude.{◌≡◌, ℕ, ◌==◌, Option, Some, None, List, [], ◌∷◌, ◌++◌, fold, if◌then◌else◌}
use Rattle.model.specs.declared.event.Answer as answers
use Rattle.model.specs.declared.event.Event.{Event}
use Rattle.model.specs.declared.event.Event.TheVariants.{Begun, Finished}
use Rattle.model.specs.declared.event.Start.{Start}
use Rattle.model.specs.World.{Trace}
use Rattle.pages.specs.Machine as machine

-- how a page reads the calls of a model, the items that they hand out on their way, and their answers
pub record HandedReading (Call Answer Item : Type 0) : Type 0 where
  pub call : Start ℕ → Call
  pub item : Event ℕ → Option (ℕ × Item)  -- what a party's call has handed out
  pub answer : List Item → answers.Answer ℕ → Answer  -- the answer of a call that handed out these items

module _ {Call Answer Item : Type 0} (read : HandedReading Call Answer Item) where
  -- what the party's call has handed out, with this, if it is the party's
  abbrev pub handed_with : ℕ → List Item → Option (ℕ × Item) → List Item
  handed_with p items None = items
  handed_with p items (Some x) = if x.0 == p then items ++ x.1 ∷ [] else items

  -- what the party's call has handed out after an event: a begin forgets what the call before has
  abbrev pub handed_after : ℕ → List Item → Event ℕ → List Item
  handed_after p items (Begun q start) = if q == p then [] else items
  handed_after p items e = handed_with p items (read.item e)

  -- what the party's latest call has handed out
  abbrev pub handed : ℕ → List (Event ℕ) → List Item
  handed p events = fold (handed_after p) [] events

  -- What an event says on the page, after these events:
  -- a call's invocation, or its response with all that it handed out.
  abbrev pub seen : List (Event ℕ) → Event ℕ → List (machine.Event Call Answer)
  seen before (Begun p start) = machine.Invoked p (read.call start) ∷ []
  seen before (Finished p start answer) = machine.Responded p (read.answer (handed p before) answer) ∷ []
  seen before e = []

  -- invocations and responses, of the events that come after these
  abbrev pub told : List (Event ℕ) → List (Event ℕ) → List (machine.Event Call Answer)
  told before [] = []
  told before (e ∷ es) = seen before e ++ told (before ++ e ∷ []) es

  -- the model's run and the page's machine have the same words, and the same history of invocations and responses
  pub record IsTold {Stage : Type 0} (t : Trace ℕ) (w : machine.World Call Stage Answer) : Type 0 where
    pub history : told [] t.events ≡ w.history
    pub words : t.world.words ≡ w.words
