-- What the program prints: what a machine has written down, and why turns were refused.
use Rattle.std.specs.Prelude.{◌≡◌, ℕ, List, []}
use Rattle.std.specs.List.{flat_map}
use Rattle.model.specs.declared.event.Event.{Event}
use Rattle.model.specs.declared.turn.Refusal.{Refusal}
use Rattle.model.specs.Turns.{IsReached}
use Rattle.model.specs.World.{Trace, kind_in, capacity_in}
use Rattle.texts.specs.declared.grammar.Setup.{Setup}
use Rattle.texts.specs.Print.{events_text, refusal_text}

-- what is printed for a turn: its events, or why it was refused
pub data Line : Type 0 where
  Wrote : (events : List (Event ℕ)) → Line
  Refused : (refusal : Refusal) → Line

-- what a line prints
abbrev pub text_of : Line → List ℕ
text_of (Wrote events) = events_text events
text_of (Refused refusal) = refusal_text refusal

-- the events that a line prints
abbrev pub events_in : Line → List (Event ℕ)
events_in (Wrote events) = events
events_in (Refused refusal) = []

-- The text is what turns have printed, one after another: there is a machine of this setup that turns have reached, and
-- its events are those that were printed, in order.
pub record IsOfMachine (setup : Setup) (printed : List ℕ) : Type 0 where
  pub trace : Trace ℕ
  -- the machine is one that turns lead to
  pub reached : IsReached trace
  pub kind : trace.world.kind ≡ kind_in setup.shape
  pub capacity : trace.world.capacity ≡ capacity_in setup.shape
  pub parties : trace.world.parties ≡ setup.parties
  -- what was printed, line by line
  pub lines : List Line
  pub events : trace.events ≡ flat_map events_in lines
  pub text : printed ≡ flat_map text_of lines
