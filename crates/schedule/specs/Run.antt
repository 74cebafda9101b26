-- What a run wrote, and how it ended.
use Rattle.std.specs.Prelude.{◌≡◌, ◌⊎◌, ℕ, Bool, Option, Some, Result, Ok, Err, List, ◌++◌, IfSome}
use Rattle.std.specs.Io.KnownBytes.{Appends, Keeps}
use Rattle.model.specs.World.{World}
use Rattle.texts.specs.declared.error.Cause.{Cause}
use Rattle.texts.specs.declared.error.ScheduleError.{ScheduleError}
use Rattle.texts.specs.declared.error.ScheduleError.TheVariants as errors
use Rattle.texts.specs.declared.grammar.Setup.{Setup}
use Rattle.schedule.specs.Output.{Outcome, State, Printed, Output, capacity_cause, setup_error, output_of}
use Rattle.schedule.specs.Written.{AppendsPart}

-- ---- a turn

-- the turn led to this world, and its text was written, or a beginning of it where a write failed
abbrev pub IsTurn : Outcome → World ℕ → Option (List ℕ) → Option (List ℕ)
    → Result (Unit {0}) ScheduleError → Type 0
IsTurn o new before after (Ok u) = (new ≡ o.world) × Appends before after o.text
IsTurn o new before after (Err e) = (e ≡ errors.WriteFailed) × AppendsPart before after o.text

-- ---- several turns

-- f leads from the one world to the other and prints this text, where memory was refused as the list says
abbrev pub Leads : (State → Printed) → World ℕ → World ℕ → List Bool → List ℕ → Type 0
Leads f old new refusals text =
    (more : List Bool)
    → f (record { world = old; refusals = refusals ++ more })
    ≡ record { text = text; state = record { world = new; refusals = more } }

-- f leads from the one world to the other, and its whole text was written, or a beginning of it where a write failed
abbrev pub Prints : (State → Printed) → World ℕ → World ℕ → Option (List ℕ) → Option (List ℕ)
    → Result (Unit {0}) ScheduleError → Type 0
Prints f old new before after (Ok u) =
    (refusals : List Bool) × (text : List ℕ) × Leads f old new refusals text
    × Appends before after text
Prints f old new before after (Err e) =
    (e ≡ errors.WriteFailed) × (refusals : List Bool)
    × AppendsPart before after (f (record { world = old; refusals = refusals })).text

-- ---- a run

-- why the machine of a first line is not made: its capacity, or memory
abbrev pub IsUnopened : Setup → ScheduleError → Type 0
IsUnopened setup e =
    (e ≡ errors.NoMemory)
    ⊎ (cause : Cause) × (capacity_cause (setup_error setup) ≡ Some cause) × (e ≡ errors.Malformed 1 cause)

-- The run ended as the output f of some list of refusals of memory says, and the writer's bytes `before` grew
-- by its text. After a failed write they grew by a beginning of the text; where there was no memory for the
-- machine they stayed. All input was read before.
abbrev pub IsOutput : (List Bool → Output) → Option (List ℕ) → Option (List ℕ)
    → Result (Unit {0}) ScheduleError → Type 0
IsOutput f before after (Ok u) =
    (refusals : List Bool) × ((f refusals).end ≡ Ok u) × Appends before after (f refusals).text
IsOutput f before after (Err (errors.Malformed line cause)) =
    (refusals : List Bool) × ((f refusals).end ≡ Err (line, cause))
    × Appends before after (f refusals).text
IsOutput f before after (Err errors.WriteFailed) =
    (refusals : List Bool) × AppendsPart before after (f refusals).text
IsOutput f before after (Err errors.ReadFailed) = ⊥
IsOutput f before after (Err errors.NoMemory) = Keeps before after

-- A run on a reader whose input is `known`, if it is known: after a failed read, or without memory, nothing
-- was written; else all input was read, and `IsOutput` holds of its output.
abbrev pub IsRun : Option (List ℕ) → Option (List ℕ) → Option (List ℕ)
    → Result (Unit {0}) ScheduleError → Type 0
IsRun known before after (Err errors.ReadFailed) = Keeps before after
IsRun known before after (Err errors.NoMemory) = Keeps before after
IsRun known before after r =
    (input : List ℕ) × IfSome known (λ bytes. bytes ≡ input)
    × IsOutput (output_of input) before after r
