-- The calls of the unique index set, as a schedule names them and as they print.
-- The robust index set has files of its own within.
use Rattle.std.specs.Prelude.{ℕ, ◌-◌, ◌^◌, List, ◌++◌, Result, Ok, Err, if◌then◌else◌, bytes_eq, codes, decimal}
use Rattle.steps.specs.declared.indices.enums.ReleaseMode.{ReleaseMode}
use Rattle.steps.specs.declared.indices.enums.ReleaseMode.TheVariants.{LockIfLastIndex, Default}
use Rattle.steps.specs.declared.indices.enums.ReleaseState.{ReleaseState}
use Rattle.steps.specs.declared.indices.enums.ReleaseState.TheVariants as states
use Rattle.steps.specs.declared.indices.enums.UniqueIndexSetAcquireFailure.{UniqueIndexSetAcquireFailure}
use Rattle.steps.specs.declared.indices.enums.UniqueIndexSetAcquireFailure.TheVariants as failures
use Rattle.model.specs.declared.event.Start.{Start}
use Rattle.model.specs.declared.event.Start.TheVariants.{Indices}
use Rattle.model.specs.declared.families.indices.IndexStart.{IndexStart}
use Rattle.model.specs.declared.families.indices.IndexStart.TheVariants.{Acquire, Release, BorrowedIndices, IsLocked}
use Rattle.texts.specs.declared.error.Cause.{Cause}
use Rattle.texts.specs.declared.error.Cause.TheVariants.{BadValue, UnknownCall}
use Rattle.texts.specs.Reading.{◌>>=◌, next_word, number_at}
pub mod Robust

-- ---- how they are read

-- the mode that a word names
abbrev pub mode_of : List ℕ → Result ReleaseMode Cause
mode_of word =
    if bytes_eq word (codes "default") then Ok Default
    else if bytes_eq word (codes "lock") then Ok LockIfLastIndex
    else Err BadValue

-- the mode that the first word names, and the words after it
unfoldable pub mode_at : List (List ℕ) → Result (ReleaseMode × List (List ℕ)) Cause
mode_at ws = do
  word ← next_word ws
  mode ← mode_of word.0
  Ok (mode, word.1)

-- a release, by its index and mode, and the words that are left
unfoldable pub release : List (List ℕ) → Result (IndexStart × List (List ℕ)) Cause
release ws = do
  index ← number_at (2 ^ 64 - 1) ws
  mode ← mode_at index.1
  Ok (Release index.0 mode.0, mode.1)

-- The call of the unique index set with this name, as a call of its family, and the words that are left. Any
-- other name is unknown.
unfoldable pub any_index_call : List ℕ → List (List ℕ) → Result (IndexStart × List (List ℕ)) Cause
any_index_call name ws =
    if bytes_eq name (codes "acquire") then Ok (Acquire, ws)
    else if bytes_eq name (codes "release") then release ws
    else if bytes_eq name (codes "borrowed_indices") then Ok (BorrowedIndices, ws)
    else if bytes_eq name (codes "is_locked") then Ok (IsLocked, ws)
    else Err UnknownCall

-- the call of the unique index set with this name, as a call of any structure, and the words that are left
unfoldable pub index_call : List ℕ → List (List ℕ) → Result (Start ℕ × List (List ℕ)) Cause
index_call name ws = do
  call ← any_index_call name ws
  Ok (Indices call.0, call.1)

-- ---- how they print

-- a mode, as a schedule names it
abbrev pub mode_text : ReleaseMode → List ℕ
mode_text Default = codes "default"
mode_text LockIfLastIndex = codes "lock"

-- a call, as a schedule names it
abbrev pub call_text : IndexStart → List ℕ
call_text Acquire = codes "acquire"
call_text (Release index mode) = codes "release " ++ decimal index ++ codes " " ++ mode_text mode
call_text BorrowedIndices = codes "borrowed_indices"
call_text IsLocked = codes "is_locked"

-- why an acquire failed, as it is printed
abbrev pub failure_text : UniqueIndexSetAcquireFailure → List ℕ
failure_text failures.OutOfIndices = codes "OutOfIndices"
failure_text failures.IsLocked = codes "IsLocked"

-- a state of the set, as it is printed
abbrev pub state_text : ReleaseState → List ℕ
state_text states.Locked = codes "Locked"
state_text states.Unlocked = codes "Unlocked"
