-- What a writer holds after all of a text was written, or a beginning of it.
use Rattle.std.specs.Prelude.{◌≡◌, ℕ, List, ◌++◌, Option, Result, Ok, Err}
use Rattle.std.specs.Io.KnownBytes.{Appends}
use Rattle.texts.specs.declared.error.ScheduleError.{ScheduleError}
use Rattle.texts.specs.declared.error.ScheduleError.TheVariants as errors

-- known bytes grow by a beginning of the text, which can be all of it
abbrev pub AppendsPart : Option (List ℕ) → Option (List ℕ) → List ℕ → Type 0
AppendsPart old new text =
    (part : List ℕ) × (rest : List ℕ) × (part ++ rest ≡ text) × Appends old new part

-- some bytes were written, if any
abbrev pub GrowsBySome : Option (List ℕ) → Option (List ℕ) → Type 0
GrowsBySome old new = (more : List ℕ) × Appends old new more

-- all of the text was written, or a write failed after a beginning of it
abbrev pub Writes : Option (List ℕ) → Option (List ℕ) → Result (Unit {0}) ScheduleError
    → List ℕ → Type 0
Writes old new (Ok u) text = Appends old new text
Writes old new (Err e) text = (e ≡ errors.WriteFailed) × AppendsPart old new text

-- the input was not read: a read failed, or memory was refused
abbrev pub IsUnread : ScheduleError → Type 0
IsUnread errors.ReadFailed = Unit {0}
IsUnread errors.NoMemory = Unit {0}
IsUnread errors.WriteFailed = ⊥
IsUnread (errors.Malformed line cause) = ⊥
