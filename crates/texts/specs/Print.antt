-- What is printed of events, refusals and errors.
use Rattle.std.specs.Prelude.{ℕ, List, ◌++◌, codes, decimal}
use Rattle.std.specs.List.{flat_map}
use Rattle.model.specs.declared.event.Event.{Event}
use Rattle.model.specs.declared.turn.Refusal.{Refusal}
use Rattle.model.specs.declared.turn.Refusal.TheVariants as refusals
use Rattle.texts.specs.declared.error.Cause.{Cause}
use Rattle.texts.specs.declared.error.Cause.TheVariants as causes
use Rattle.texts.specs.declared.error.ScheduleError.{ScheduleError}
use Rattle.texts.specs.declared.error.ScheduleError.TheVariants as errors
use Rattle.texts.specs.Families.{text_of_event}

-- ---- events

-- the line of an event
unfoldable pub event_text : Event ℕ → List ℕ
event_text event = text_of_event event ++ codes "\n"

-- the lines of the events, in their order
abbrev pub events_text : List (Event ℕ) → List ℕ
events_text events = flat_map event_text events

-- ---- refusals

-- a refusal, as it is printed
abbrev pub refusal_name : Refusal → List ℕ
refusal_name refusals.NoParty = codes "NoParty"
refusal_name refusals.Busy = codes "Busy"
refusal_name refusals.Idle = codes "Idle"
refusal_name refusals.WrongCall = codes "WrongCall"
refusal_name refusals.NoRole = codes "NoRole"
refusal_name refusals.NotHeld = codes "NotHeld"
refusal_name refusals.BadIndex = codes "BadIndex"
refusal_name refusals.OwnerIsDead = codes "OwnerIsDead"
refusal_name refusals.OwnerLives = codes "OwnerLives"
refusal_name refusals.Undecided = codes "Undecided"
refusal_name refusals.NoMemory = codes "NoMemory"
refusal_name refusals.AtEnd = codes "AtEnd"

-- the line of a refused turn
unfoldable pub refusal_text : Refusal → List ℕ
refusal_text refusal = codes "refused " ++ refusal_name refusal ++ codes "\n"

-- ---- errors

-- why a line is malformed, as it is printed
abbrev pub cause_text : Cause → List ℕ
cause_text causes.MissingValue = codes "missing value"
cause_text causes.BadValue = codes "bad value"
cause_text causes.UnknownKind = codes "unknown kind"
cause_text causes.UnknownTurn = codes "unknown turn"
cause_text causes.UnknownCall = codes "unknown call"
cause_text causes.ExtraWords = codes "extra words"
cause_text causes.ProvidedCapacityGreaterThanMaxCapacity =
    codes "ProvidedCapacityGreaterThanMaxCapacity"
cause_text causes.ProvidedCapacityIsZero = codes "ProvidedCapacityIsZero"

-- an error, as it is printed: a line of its own
abbrev pub error_text : ScheduleError → List ℕ
error_text (errors.Malformed line cause) =
    codes "line " ++ decimal line ++ codes ": " ++ cause_text cause ++ codes "\n"
error_text errors.ReadFailed = codes "read failed\n"
error_text errors.WriteFailed = codes "write failed\n"
error_text errors.NoMemory = codes "no memory\n"
