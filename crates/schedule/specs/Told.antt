-- What is told of a run's end, and its exit status.
use Rattle.std.specs.Prelude.{ℕ, Option, List, [], Result, Ok, Err}
use Rattle.std.specs.Io.KnownBytes.{Appends}
use Rattle.texts.specs.declared.error.ScheduleError.{ScheduleError}
use Rattle.texts.specs.declared.error.ScheduleError.TheVariants as errors
use Rattle.texts.specs.Print.{error_text}
use Rattle.schedule.specs.Written.{AppendsPart}

-- what is told of a run that ended so
unfoldable pub message_text : Result (Unit {0}) ScheduleError → List ℕ
message_text (Ok u) = []
message_text (Err e) = error_text e

-- the exit status of an error: 2 for a malformed line, 1 for all others
abbrev pub error_exit : ScheduleError → ℕ
error_exit (errors.Malformed line cause) = 2
error_exit errors.ReadFailed = 1
error_exit errors.WriteFailed = 1
error_exit errors.NoMemory = 1

-- the exit status of a run that ended so
abbrev pub exit_of : Result (Unit {0}) ScheduleError → ℕ
exit_of (Ok u) = 0
exit_of (Err e) = error_exit e

-- what was told before, `old`, grew by this line or a beginning of it, and perhaps by more after that
abbrev pub TellsMore : Option (List ℕ) → Option (List ℕ) → List ℕ → Type 0
TellsMore old new line =
    (between : Option (List ℕ)) × AppendsPart old between line
    × (more : List ℕ) × Appends between new more
