-- The calls of the bit sets and of the counting bit sets, as a schedule names them and as they print.
use Rattle.std.specs.Prelude.{ℕ, ◌-◌, ◌^◌, List, ◌++◌, Result, Ok, Err, if◌then◌else◌, bytes_eq, codes, decimal}
use Rattle.model.specs.declared.event.Start.{Start}
use Rattle.model.specs.declared.event.Start.TheVariants as starts
use Rattle.model.specs.declared.families.bits.BitsStart.{BitsStart}
use Rattle.model.specs.declared.families.bits.BitsStart.TheVariants.{Set, ResetNext, ResetAll, IsSet, Count}
use Rattle.texts.specs.declared.error.Cause.{Cause}
use Rattle.texts.specs.declared.error.Cause.TheVariants.{UnknownCall}
use Rattle.texts.specs.Reading.{◌>>=◌, number_at}

-- ---- how they are read

-- a set, by the place that these words begin with, and the words that are left
unfoldable pub set : List (List ℕ) → Result (BitsStart × List (List ℕ)) Cause
set ws = do
  place ← number_at (2 ^ 64 - 1) ws
  Ok (Set place.0, place.1)

-- a look at a place, by the place that these words begin with, and the words that are left
unfoldable pub is_set : List (List ℕ) → Result (BitsStart × List (List ℕ)) Cause
is_set ws = do
  place ← number_at (2 ^ 64 - 1) ws
  Ok (IsSet place.0, place.1)

-- a look at a count, by the place that these words begin with, and the words that are left
unfoldable pub count : List (List ℕ) → Result (BitsStart × List (List ℕ)) Cause
count ws = do
  place ← number_at (2 ^ 64 - 1) ws
  Ok (Count place.0, place.1)

-- The call with this name that bit sets and counting bit sets have, and the words that are left. Any other
-- name is unknown.
unfoldable pub any_set_call : List ℕ → List (List ℕ) → Result (BitsStart × List (List ℕ)) Cause
any_set_call name ws =
    if bytes_eq name (codes "set") then set ws
    else if bytes_eq name (codes "reset_all") then Ok (ResetAll, ws)
    else Err UnknownCall

-- the call of a bit set with this name, as a call of its family, and the words that are left
abbrev pub any_bit_set_call : List ℕ → List (List ℕ) → Result (BitsStart × List (List ℕ)) Cause
any_bit_set_call name ws =
    if bytes_eq name (codes "reset_next") then Ok (ResetNext, ws)
    else if bytes_eq name (codes "is_set") then is_set ws
    else any_set_call name ws

-- the call of a counting bit set with this name, as a call of its family, and the words that are left
abbrev pub any_counting_call : List ℕ → List (List ℕ) → Result (BitsStart × List (List ℕ)) Cause
any_counting_call name ws =
    if bytes_eq name (codes "count") then count ws else any_set_call name ws

-- the call of a bit set with this name, as a call of any structure, and the words that are left
unfoldable pub bit_set_call : List ℕ → List (List ℕ) → Result (Start ℕ × List (List ℕ)) Cause
bit_set_call name ws = do
  call ← any_bit_set_call name ws
  Ok (starts.Bits call.0, call.1)

-- the call of a counting bit set with this name, as a call of any structure, and the words that are left
unfoldable pub counting_bit_set_call : List ℕ → List (List ℕ)
    → Result (Start ℕ × List (List ℕ)) Cause
counting_bit_set_call name ws = do
  call ← any_counting_call name ws
  Ok (starts.Bits call.0, call.1)

-- ---- how they print

-- a call, as a schedule names it
abbrev pub call_text : BitsStart → List ℕ
call_text (Set place) = codes "set " ++ decimal place
call_text ResetNext = codes "reset_next"
call_text ResetAll = codes "reset_all"
call_text (IsSet bit) = codes "is_set " ++ decimal bit
call_text (Count place) = codes "count " ++ decimal place

-- a place and the count that was taken out of it, as they are printed
abbrev pub taken_text : (place count : ℕ) → List ℕ
taken_text place count = decimal place ++ codes " " ++ decimal count
