-- Where a line ceases to make sense.
use Rattle.std.specs.Prelude.{◌≡◌, ℕ, ◌≤◌, Option, Some, None, Result, Ok, Err, List, length, take}
use Rattle.texts.specs.declared.error.Cause.{Cause}
use Rattle.texts.specs.Text.{words}
use Rattle.texts.specs.Grammar.{setup_of, command_of}
use Rattle.schedule.specs.declared.wrong.Grammar.{Grammar}
use Rattle.schedule.specs.declared.wrong.Grammar.TheVariants.{First, Turn}

-- the cause of a failure, if it is one
abbrev pub cause_in : {A : Type 0} → Result A Cause → Option Cause
cause_in (Ok x) = None
cause_in (Err cause) = Some cause

-- why a line is malformed, if it is
abbrev pub cause_of : Grammar → List ℕ → Option Cause
cause_of First line = cause_in (setup_of (words line))
cause_of (Turn kind) line = cause_in (command_of kind (words line))

-- a beginning of the line that reaches at least as far as this place has this cause
abbrev pub IsWrong : Grammar → List ℕ → ℕ → Cause → Type 0
IsWrong grammar line place cause =
    (stop : ℕ) × (place ≤ stop) × (stop ≤ length line)
    × (cause_of grammar (take stop line) ≡ Some cause)
