-- The calls of the single value, as a schedule names them and as they print.
use Rattle.std.specs.Prelude.{ℕ, ◌-◌, ◌^◌, List, ◌++◌, Result, Ok, Err, if◌then◌else◌, bytes_eq, codes, decimal}
use Rattle.model.specs.declared.event.Start.{Start}
use Rattle.model.specs.declared.event.Start.TheVariants as starts
use Rattle.model.specs.declared.families.atomic.AtomicStart.{AtomicStart}
use Rattle.model.specs.declared.families.atomic.AtomicStart.TheVariants.{AcquireProducer, ReleaseProducer, Store, Load, HasProducer, Version}
use Rattle.texts.specs.declared.error.Cause.{Cause}
use Rattle.texts.specs.declared.error.Cause.TheVariants.{UnknownCall}
use Rattle.texts.specs.Reading.{◌>>=◌, number_at}

-- ---- how they are read

-- a store, by the value that these words begin with, and the words that are left
unfoldable pub store : List (List ℕ) → Result (AtomicStart ℕ × List (List ℕ)) Cause
store ws = do
  value ← number_at (2 ^ 128 - 1) ws
  Ok (Store value.0, value.1)

-- The call of the single value with this name, as a call of its family, and the words that are left. Any
-- other name is unknown.
unfoldable pub any_value_call : List ℕ → List (List ℕ) → Result (AtomicStart ℕ × List (List ℕ)) Cause
any_value_call name ws =
    if bytes_eq name (codes "acquire_producer") then Ok (AcquireProducer, ws)
    else if bytes_eq name (codes "release_producer") then Ok (ReleaseProducer, ws)
    else if bytes_eq name (codes "store") then store ws
    else if bytes_eq name (codes "load") then Ok (Load, ws)
    else if bytes_eq name (codes "has_producer") then Ok (HasProducer, ws)
    else if bytes_eq name (codes "version") then Ok (Version, ws)
    else Err UnknownCall

-- the call of the single value with this name, as a call of any structure, and the words that are left
unfoldable pub value_call : List ℕ → List (List ℕ) → Result (Start ℕ × List (List ℕ)) Cause
value_call name ws = do
  call ← any_value_call name ws
  Ok (starts.Atomic call.0, call.1)

-- ---- how they print

-- a call, as a schedule names it
abbrev pub call_text : AtomicStart ℕ → List ℕ
call_text AcquireProducer = codes "acquire_producer"
call_text ReleaseProducer = codes "release_producer"
call_text (Store value) = codes "store " ++ decimal value
call_text Load = codes "load"
call_text HasProducer = codes "has_producer"
call_text Version = codes "version"
