-- The bit set: its words, its calls stage by stage, and what they do at one place.
use Rattle.std.specs.Prelude.{ℕ, ◌+◌, ◌-◌, ◌*◌, ◌/◌, ◌%◌, ◌^◌, ◌==◌, Bool, true, false, not, Option, Some, None, List}
use Rattle.std.specs.Prelude.{[], ◌++◌, bit_and, bit_or, replicate, slice_index, if◌then◌else◌, nat_lt}
use Rattle.std.specs.List.{count_by, filter, range_with_len}
use Rattle.pages.specs.Machine.{Operation, Load, Store, Exchange, Swap, After, GoOn, Done, Structure}
use Rattle.pages.specs.Places.{Act}

pub data Call : Type 0 where  -- the calls of the bit set
  Set : (place : ℕ) → Call
  ResetNext : Call
  ResetAll : Call

-- answers: of Set whether the bit was clear, of ResetNext the place that it reset, if any, of ResetAll all places that it reset
pub data Answer : Type 0 where
  WasSet : (new : Bool) → Answer
  WasReset : (place : Option ℕ) → Answer
  WereReset : (places : List ℕ) → Answer

pub data Stage : Type 0 where  -- what a call does next, with all that it knows
  SetLoadsElement : (place : ℕ) → Stage
  SetExchangesElement : (place element : ℕ) → Stage
  NextLoadsPosition : Stage
  NextLoadsElement : (start passed : ℕ) → Stage
  NextExchangesElement : (start passed element : ℕ) → Stage
  NextStoresPosition : (place : ℕ) → Stage
  AllSwapsElement : (word : ℕ) (places : List ℕ) → Stage

abbrev pub first : Call → Stage  -- the stage with which a call begins
first (Set place) = SetLoadsElement place
first ResetNext = NextLoadsPosition
first ResetAll = AllSwapsElement 1 []

abbrev pub stands : (element place : ℕ) → Bool  -- each element has the bits of 64 places
stands element place = not (bit_and element (2 ^ (place % 64)) == 0)

-- A set that has read this element is done if the bit stands, and else tries to set it.
abbrev pub set_tests : (place element : ℕ) → After Stage Answer
set_tests place element =
    if stands element place then Done (WasSet false) else GoOn (SetExchangesElement place element)

abbrev pub place_after : (capacity start passed : ℕ) → ℕ  -- after the last place comes 0
place_after capacity start passed =
    if nat_lt (start + passed) capacity then start + passed else start + passed - capacity

-- A reset of the next place, past this many places from its start, goes on to the next or has found none.
abbrev pub next_comes_to : (capacity start passed : ℕ) → After Stage Answer
next_comes_to capacity start passed =
    if nat_lt passed capacity then GoOn (NextLoadsElement start passed) else Done (WasReset None)

-- A reset of the next place that has read this element tries to clear the bit, if it stands, and
-- else goes on.
abbrev pub next_tests : (capacity start passed element : ℕ) → After Stage Answer
next_tests capacity start passed element =
    if stands element (place_after capacity start passed)
    then GoOn (NextExchangesElement start passed element)
    else next_comes_to capacity start (passed + 1)

-- A reset of all goes on to the next element, or answers the places that it has cleared.
abbrev pub all_goes_on : (capacity word : ℕ) → List ℕ → After Stage Answer
all_goes_on capacity word places =
    if nat_lt (word + 1) (1 + (capacity + 63) / 64)
    then GoOn (AllSwapsElement (word + 1) places)
    else Done (WereReset places)

-- at each stage the word, the operation, and how the call goes on with the word's old value
abbrev pub does : ℕ → Stage → ℕ × Operation × (ℕ → After Stage Answer)
does c (SetLoadsElement place) = (1 + place / 64, Load, λ old. set_tests place old)
does c (SetExchangesElement place element) = (
  1 + place / 64,
  Exchange element (bit_or element (2 ^ (place % 64))),
  λ old. if old == element then Done (WasSet true) else set_tests place old,
)
does c NextLoadsPosition = (0, Load, λ old. next_comes_to c (if nat_lt c old then c else old) 0)
does c (NextLoadsElement start passed) =
    (1 + place_after c start passed / 64, Load, λ old. next_tests c start passed old)
does c (NextExchangesElement start passed element) =
    let place = place_after c start passed in (
      1 + place / 64,
      Exchange element (bit_and element (2 ^ 64 - 1 - 2 ^ (place % 64))),
      λ old. if old == element then GoOn (NextStoresPosition place) else next_tests c start passed old,
    )
does c (NextStoresPosition place) = (0, Store ((place + 1) % 2 ^ 64), λ old. Done (WasReset (Some place)))
does c (AllSwapsElement word places) = (
  word,
  Swap 0,
  λ old. all_goes_on c word (places ++ filter (λ place. stands old place) (range_with_len ((word - 1) * 64) 64)),
)

-- any party may begin any call, but a set only of a place that the bit set has
abbrev pub may : (capacity p : ℕ) → Call → Bool
may capacity p (Set place) = nat_lt place capacity
may capacity p call = true

abbrev pub bit_set : ℕ → Structure Call Stage Answer  -- the place where a search begins, and the elements
bit_set c = record { words = replicate (1 + (c + 63) / 64) 0; may = may c; first = first; does = does c }

-- ---- at one place: 1 where its bit stands

abbrev pub bit : Bool → ℕ
bit b = if b then 1 else 0

abbrev pub now : List ℕ → ℕ → ℕ
now words place = bit (stands (slice_index words (1 + place / 64)) place)

-- A set acts at its place. A reset of all acts at each place: it found 1 if it hands the place out, else 0. A reset of the next place acts at the place
-- that it hands out, or at every place, if it hands out none.
abbrev pub at : ℕ → Call → Answer → Option Act
at b (Set place) (WasSet new) = if place == b then Some (record { found = bit (not new); left = 1 }) else None
at b ResetNext (WasReset None) = Some (record { found = 0; left = 0 })
at b ResetNext (WasReset (Some place)) = if place == b then Some (record { found = 1; left = 0 }) else None
at b ResetAll (WereReset places) = Some (record { found = count_by (λ place. place == b) places; left = 0 })
at b call answer = None
