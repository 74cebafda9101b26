-- The calls of the robust index set, as a schedule names them and as they print.
use Rattle.std.specs.Prelude.{ℕ, ◌-◌, ◌^◌, List, ◌++◌, Result, Ok, Err, if◌then◌else◌, bytes_eq, codes, decimal}
use Rattle.steps.specs.declared.indices.enums.RobustUniqueIndexSetReleaseError.{RobustUniqueIndexSetReleaseError}
use Rattle.steps.specs.declared.indices.enums.RobustUniqueIndexSetReleaseError.TheVariants.{IndexIsNotOwnedByProvidedOwner}
use Rattle.model.specs.declared.event.Start.{Start}
use Rattle.model.specs.declared.event.Start.TheVariants.{Robust}
use Rattle.model.specs.declared.families.indices.robust.RobustStart.{RobustStart}
use Rattle.model.specs.declared.families.indices.robust.RobustStart.TheVariants.{Acquire, Release, Find, Recover, BorrowedIndices, IsLocked}
use Rattle.texts.specs.declared.error.Cause.{Cause}
use Rattle.texts.specs.declared.error.Cause.TheVariants.{UnknownCall}
use Rattle.texts.specs.Indices.{mode_at, mode_text}
use Rattle.texts.specs.Reading.{◌>>=◌, number_at, owner_at}

-- ---- how they are read

-- an acquire, by its owner, and the words that are left
unfoldable pub acquire : List (List ℕ) → Result (RobustStart × List (List ℕ)) Cause
acquire ws = do
  owner ← owner_at ws
  Ok (Acquire owner.0, owner.1)

-- a release, by its index, owner and mode, and the words that are left
unfoldable pub release : List (List ℕ) → Result (RobustStart × List (List ℕ)) Cause
release ws = do
  index ← number_at (2 ^ 64 - 1) ws
  owner ← owner_at index.1
  mode ← mode_at owner.1
  Ok (Release index.0 owner.0 mode.0, mode.1)

-- a find, by its owner, and the words that are left
unfoldable pub find : List (List ℕ) → Result (RobustStart × List (List ℕ)) Cause
find ws = do
  owner ← owner_at ws
  Ok (Find owner.0, owner.1)

-- a recovery, by its mode, and the words that are left
unfoldable pub recover : List (List ℕ) → Result (RobustStart × List (List ℕ)) Cause
recover ws = do
  mode ← mode_at ws
  Ok (Recover mode.0, mode.1)

-- The call of the robust index set with this name, as a call of its family, and the words that are left. Any
-- other name is unknown.
unfoldable pub any_robust_call : List ℕ → List (List ℕ)
    → Result (RobustStart × List (List ℕ)) Cause
any_robust_call name ws =
    if bytes_eq name (codes "acquire") then acquire ws
    else if bytes_eq name (codes "release") then release ws
    else if bytes_eq name (codes "find") then find ws
    else if bytes_eq name (codes "recover") then recover ws
    else if bytes_eq name (codes "borrowed_indices") then Ok (BorrowedIndices, ws)
    else if bytes_eq name (codes "is_locked") then Ok (IsLocked, ws)
    else Err UnknownCall

-- the call of the robust index set with this name, as a call of any structure, and the words that are left
unfoldable pub robust_call : List ℕ → List (List ℕ) → Result (Start ℕ × List (List ℕ)) Cause
robust_call name ws = do
  call ← any_robust_call name ws
  Ok (Robust call.0, call.1)

-- ---- how they print

-- an index and its owner
abbrev pub owned_text : (index owner : ℕ) → List ℕ
owned_text index owner = decimal index ++ codes " " ++ decimal owner

-- a call, as a schedule names it
abbrev pub call_text : RobustStart → List ℕ
call_text (Acquire owner) = codes "acquire " ++ decimal owner
call_text (Release index owner mode) =
    codes "release " ++ owned_text index owner ++ codes " " ++ mode_text mode
call_text (Find owner) = codes "find " ++ decimal owner
call_text (Recover mode) = codes "recover " ++ mode_text mode
call_text BorrowedIndices = codes "borrowed_indices"
call_text IsLocked = codes "is_locked"

-- why a release failed, as it is printed
abbrev pub failure_text : RobustUniqueIndexSetReleaseError → List ℕ
failure_text IndexIsNotOwnedByProvidedOwner = codes "IndexIsNotOwnedByProvidedOwner"
