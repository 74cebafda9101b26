-- The calls of the container, as a schedule names them and as they print.
use Rattle.std.specs.Prelude.{ℕ, ◌-◌, ◌^◌, List, ◌++◌, Option, Some, None, Result, Ok, Err, if◌then◌else◌, bytes_eq, codes, decimal}
use Rattle.steps.specs.declared.container.enums.ContainerAddFailure.{ContainerAddFailure}
use Rattle.steps.specs.declared.container.enums.ContainerAddFailure.TheVariants as add_failures
use Rattle.steps.specs.declared.container.enums.ContainerRemoveError.{ContainerRemoveError}
use Rattle.steps.specs.declared.container.enums.ContainerRemoveError.TheVariants as remove_errors
use Rattle.model.specs.declared.event.Start.{Start}
use Rattle.model.specs.declared.event.Start.TheVariants as starts
use Rattle.model.specs.declared.families.container.ContainerStart.{ContainerStart}
use Rattle.model.specs.declared.families.container.ContainerStart.TheVariants.{Add, Remove, Replace, Find, Recover}
use Rattle.model.specs.declared.families.container.ContainerStart.TheVariants.{GetState, UpdateState, Len, IsEmpty}
use Rattle.model.specs.declared.families.container.ContainerStart.TheVariants.{IsLocked}
use Rattle.texts.specs.declared.error.Cause.{Cause}
use Rattle.texts.specs.declared.error.Cause.TheVariants.{UnknownCall}
use Rattle.texts.specs.Indices.{mode_at, mode_text}
use Rattle.texts.specs.Indices.Robust.{owned_text}
use Rattle.texts.specs.Reading.{◌>>=◌, number_at, owner_at}

-- ---- how they are read

-- an add, by its value and owner, and the words that are left
unfoldable pub add : List (List ℕ) → Result (ContainerStart ℕ × List (List ℕ)) Cause
add ws = do
  value ← number_at (2 ^ 128 - 1) ws
  owner ← owner_at value.1
  Ok (Add value.0 owner.0, owner.1)

-- a remove, by its index, owner and mode, and the words that are left
unfoldable pub remove : List (List ℕ) → Result (ContainerStart ℕ × List (List ℕ)) Cause
remove ws = do
  index ← number_at (2 ^ 64 - 1) ws
  owner ← owner_at index.1
  mode ← mode_at owner.1
  Ok (Remove index.0 owner.0 mode.0, mode.1)

-- a replace, by its index, value and owner, and the words that are left
unfoldable pub replace : List (List ℕ) → Result (ContainerStart ℕ × List (List ℕ)) Cause
replace ws = do
  index ← number_at (2 ^ 64 - 1) ws
  value ← number_at (2 ^ 128 - 1) index.1
  owner ← owner_at value.1
  Ok (Replace index.0 value.0 owner.0, owner.1)

-- a find, by its owner, and the words that are left
unfoldable pub find : List (List ℕ) → Result (ContainerStart ℕ × List (List ℕ)) Cause
find ws = do
  owner ← owner_at ws
  Ok (Find owner.0, owner.1)

-- a recovery, by its owner and mode, and the words that are left
unfoldable pub recover : List (List ℕ) → Result (ContainerStart ℕ × List (List ℕ)) Cause
recover ws = do
  owner ← owner_at ws
  mode ← mode_at owner.1
  Ok (Recover owner.0 mode.0, mode.1)

-- the call with this name that looks at the whole container and has no arguments, if there is one
abbrev pub look_call : List ℕ → Option (ContainerStart ℕ)
look_call name =
    if bytes_eq name (codes "get_state") then Some GetState
    else if bytes_eq name (codes "update_state") then Some UpdateState
    else if bytes_eq name (codes "len") then Some Len
    else if bytes_eq name (codes "is_empty") then Some IsEmpty
    else if bytes_eq name (codes "is_locked") then Some IsLocked
    else None

-- The call of the container with this name, as a call of its family, and the words that are left. Any other
-- name is unknown.
unfoldable pub any_container_call : List ℕ → List (List ℕ)
    → Result (ContainerStart ℕ × List (List ℕ)) Cause
any_container_call name ws =
    if bytes_eq name (codes "add") then add ws
    else if bytes_eq name (codes "remove") then remove ws
    else if bytes_eq name (codes "replace") then replace ws
    else if bytes_eq name (codes "find") then find ws
    else if bytes_eq name (codes "recover") then recover ws
    else elim (look_call name) [ Some start ↦ Ok (start, ws) | None ↦ Err UnknownCall ]

-- the call of the container with this name, as a call of any structure, and the words that are left
unfoldable pub container_call : List ℕ → List (List ℕ) → Result (Start ℕ × List (List ℕ)) Cause
container_call name ws = do
  call ← any_container_call name ws
  Ok (starts.Container call.0, call.1)

-- ---- how they print

-- an index and the value there, as they are printed
abbrev pub placed_text : (index value : ℕ) → List ℕ
placed_text index value = decimal index ++ codes " " ++ decimal value

-- a call, as a schedule names it
abbrev pub call_text : ContainerStart ℕ → List ℕ
call_text (Add value owner) = codes "add " ++ decimal value ++ codes " " ++ decimal owner
call_text (Remove index owner mode) =
    codes "remove " ++ owned_text index owner ++ codes " " ++ mode_text mode
call_text (Replace index value owner) =
    codes "replace " ++ placed_text index value ++ codes " " ++ decimal owner
call_text (Find owner) = codes "find " ++ decimal owner
call_text (Recover owner mode) = codes "recover " ++ decimal owner ++ codes " " ++ mode_text mode
call_text GetState = codes "get_state"
call_text UpdateState = codes "update_state"
call_text Len = codes "len"
call_text IsEmpty = codes "is_empty"
call_text IsLocked = codes "is_locked"

-- why an add failed, as it is printed
abbrev pub add_failure_text : ContainerAddFailure → List ℕ
add_failure_text add_failures.OutOfSpace = codes "OutOfSpace"
add_failure_text add_failures.IsLocked = codes "IsLocked"

-- why a remove or a replace failed, as it is printed
abbrev pub remove_error_text : ContainerRemoveError → List ℕ
remove_error_text remove_errors.ContainerHandleNotOwnedByContainer =
    codes "ContainerHandleNotOwnedByContainer"
