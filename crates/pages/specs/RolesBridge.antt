-- What a page sees of a machine on which roles change hands: who makes a call has there the number of the call's role.
use Rattle.std.specs.Prelude.{◌≡◌, ℕ, Bool, Option, Some, None, List, [], ◌∷◌, ◌++◌, fold, if◌then◌else◌}
use Rattle.std.specs.List.{flat_map}
use Rattle.model.specs.declared.event.Event.{Event}
use Rattle.model.specs.declared.event.Event.TheVariants.{Begun, Finished}
use Rattle.model.specs.declared.event.Start.{Start}
use Rattle.model.specs.declared.party.Party.{Party}
use Rattle.model.specs.declared.turn.Turn.{Turn}
use Rattle.model.specs.declared.turn.Turn.TheVariants.{Begin, Next}
use Rattle.model.specs.Parties.{party_of}
use Rattle.model.specs.Turns.{AreAllowedOn, after_turn, after_turns}
use Rattle.model.specs.World.{Trace, World}
use Rattle.pages.specs.Machine as machine
use Rattle.pages.specs.Reading.{ReadingOf}

-- the calls that a page has, and as which party of the page a party makes one
pub record Naming (T Call Answer : Type 0) : Type 0 where
  pub reading : ReadingOf T Call Answer
  pub is_call : Start T → Bool
  pub number : ℕ → Call → ℕ

module _ {T Call Answer : Type 0} (by : Naming T Call Answer) where
  -- the number that the party of a call has on the page
  abbrev pub named : ℕ → Start T → ℕ
  named p start = by.number p (by.reading.call start)

  -- What an event says on the page, where its party goes by the number of its call's role:
  -- other calls than the page's say nothing.
  abbrev pub told : Event T → List (machine.Event Call Answer)
  told (Begun p start) =
      if by.is_call start then machine.Invoked (named p start) (by.reading.call start) ∷ [] else []
  told (Finished p start answer) =
      if by.is_call start then machine.Responded (named p start) (by.reading.answer answer) ∷ [] else []
  told e = []

  -- invocations and responses of the page's calls
  abbrev pub all_told : List (Event T) → List (machine.Event Call Answer)
  all_told events = flat_map told events

  -- the turn of the page that a `Next` of the party is, if its call is one of the page's
  abbrev pub next_taken : ℕ → Option (Party T) → List (machine.Turn Call)
  next_taken p None = []
  next_taken p (Some x) = if by.is_call x.start then machine.Next (named p x.start) ∷ [] else []

  -- the turn of the page, if it is one
  abbrev pub turn_taken : World T → Turn T → List (machine.Turn Call)
  turn_taken w (Begin p start) =
      if by.is_call start then machine.Begin (named p start) (by.reading.call start) ∷ [] else []
  turn_taken w (Next p) = next_taken p (party_of p w.latest)
  turn_taken w turn = []

  -- the turns of the page that these turns of the model are
  abbrev pub turns_taken : Trace T → List (Turn T) → List (machine.Turn Call)
  turns_taken t [] = []
  turns_taken t (turn ∷ turns) = turn_taken t.world turn ++ turns_taken (after_turn t turn) turns

  -- whatever turns are taken from here, what is told of them is the history of the page's machine over its turns
  abbrev pub RunsByRole : {Stage : Type 0} → machine.Structure Call Stage Answer → Trace T → Type 0
  RunsByRole of first =
      (turns : List (Turn T)) → AreAllowedOn first turns
      → all_told (after_turns first turns).events
      ≡ (fold (machine.turned of) (machine.opening of) (turns_taken first turns)).history
