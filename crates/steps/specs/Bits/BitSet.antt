-- The calls of the bit set on one place, one step after another. `.._asks` says what a call asks for at each
-- stage, and `.._takes` where the answer leads: to a next stage (`GoOn`) or to its end (`Done`).
use Rattle.std.specs.Prelude.{ℕ, ◌+◌, ◌-◌, ◌==◌, Bool, true, false, not, Option, Some, None, if◌then◌else◌, nat_lt}
use Rattle.steps.specs.Queues.Ring.{after_position, load, store}
use Rattle.steps.specs.Bits.Words.{element_of, has_flag, with_flag, without_flag}
use Rattle.steps.specs.declared.ask.Op.TheVariants.{Exchange}
use Rattle.steps.specs.declared.ask.Want.{Want}
use Rattle.steps.specs.declared.ask.Want.TheVariants as wants
use Rattle.steps.specs.declared.ask.After.{After}
use Rattle.steps.specs.declared.ask.After.TheVariants.{GoOn, Done}
use Rattle.steps.specs.declared.bits.bit_set.Set.{Set}
use Rattle.steps.specs.declared.bits.bit_set.SetStage.{SetStage}
use Rattle.steps.specs.declared.bits.bit_set.SetStage.TheVariants as sets
use Rattle.steps.specs.declared.bits.bit_set.ResetNext.{ResetNext}
use Rattle.steps.specs.declared.bits.bit_set.ResetNextStage.{ResetNextStage}
use Rattle.steps.specs.declared.bits.bit_set.ResetNextStage.TheVariants as resets

-- writes the word where it is still as it was found
abbrev pub exchange : (word found new : ℕ) → Want (Unit {0})
exchange word found new =
    wants.Ask (record { word = word; op = Exchange found new })

-- ---- set

-- a set before its first step
abbrev pub first_set : Set
first_set = record { stage = sets.LoadsElement }

-- the set at this stage
abbrev pub at_set : SetStage → Set
at_set stage = record { stage = stage }

-- what the set asks for, step by step: load the element; exchange it for the element with the flag
abbrev pub set_asks : SetStage → ℕ → Want (Unit {0})
set_asks sets.LoadsElement place = load (element_of place)
set_asks (sets.ExchangesElement found) place =
    exchange (element_of place) found (with_flag found place)

-- what the set asks for next, at the stage where it stands
abbrev pub set_want : Set → ℕ → Want (Unit {0})
set_want call place = set_asks call.stage place

-- the set after an element that it has loaded or found: its end with false where the flag
-- stands, else the exchange
abbrev pub set_tests : (place found : ℕ) → After Set Bool
set_tests place found =
    if has_flag found place
    then Done false
    else GoOn (at_set (sets.ExchangesElement found))

-- where the set goes on to from the old value of its word: where the element has changed, it is tested again
abbrev pub set_takes : SetStage → (place old : ℕ) → After Set Bool
set_takes sets.LoadsElement place old = set_tests place old
set_takes (sets.ExchangesElement found) place old =
    if old == found then Done true else set_tests place old

-- how the set goes on from the stage at which it is, by the old value of its word
abbrev pub set_after : Set → (place old : ℕ) → After Set Bool
set_after call place old = set_takes call.stage place old

-- whether the set begins its loop again once it is handed this old value: the word has changed since it was loaded
abbrev pub set_turns_back : SetStage → ℕ → Bool
set_turns_back sets.LoadsElement old = false
set_turns_back (sets.ExchangesElement found) old = not (old == found)

-- ---- reset_next

-- a reset of the next place before its first step
abbrev pub first_reset : ℕ → ResetNext
first_reset capacity =
    record { capacity = capacity; stage = resets.LoadsPosition }

-- the reset, moved to this stage
abbrev pub at_reset : ResetNext → ResetNextStage → ResetNext
at_reset call stage = record { capacity = call.capacity; stage = stage }

-- the place that is `passed` places after the start; after the last place comes 0
abbrev pub place_after : (capacity start passed : ℕ) → ℕ
place_after capacity start passed =
    if nat_lt (start + passed) capacity then start + passed else start + passed - capacity

-- What the reset asks for, step by step: load the reset position; load the element of each place in turn, and exchange
-- it for the element without the flag; store the position after the place.
abbrev pub reset_asks : ℕ → ResetNextStage → Want (Unit {0})
reset_asks capacity resets.LoadsPosition = load 0
reset_asks capacity (resets.LoadsElement start passed) =
    load (element_of (place_after capacity start passed))
reset_asks capacity (resets.ExchangesElement start passed found) =
    exchange (element_of (place_after capacity start passed)) found
    (without_flag found (place_after capacity start passed))
reset_asks capacity (resets.StoresPosition place) = store 0 (after_position place)

-- what the reset of the next place asks for next, at the stage where it stands
abbrev pub reset_want : ResetNext → Want (Unit {0})
reset_want call = reset_asks call.capacity call.stage

-- the reset goes on to the next place, if there is one that it has not passed
abbrev pub reset_comes_to : ResetNext → (start passed : ℕ) → After ResetNext (Option ℕ)
reset_comes_to call start passed =
    if nat_lt passed call.capacity
    then GoOn (at_reset call (resets.LoadsElement start passed))
    else Done None

-- the reset once it has found this element: where the flag of the place is clear, it goes on to the next place
abbrev pub reset_tests : ResetNext → (start passed found : ℕ) → After ResetNext (Option ℕ)
reset_tests call start passed found =
    if has_flag found (place_after call.capacity start passed)
    then GoOn (at_reset call (resets.ExchangesElement start passed found))
    else reset_comes_to call start (passed + 1)

-- where a search begins: at this position, or behind all places where it is past them
abbrev pub at_most : (capacity position : ℕ) → ℕ
at_most capacity position = if nat_lt capacity position then capacity else position

-- where the reset goes on to from the old value of its word: where the element has changed, the flag is tested again
abbrev pub reset_takes : ResetNext → ResetNextStage → ℕ → After ResetNext (Option ℕ)
reset_takes call resets.LoadsPosition old =
    reset_comes_to call (at_most call.capacity old) 0
reset_takes call (resets.LoadsElement start passed) old =
    reset_tests call start passed old
reset_takes call (resets.ExchangesElement start passed found) old =
    if old == found
    then GoOn
    (at_reset call (resets.StoresPosition (place_after call.capacity start passed)))
    else reset_tests call start passed old
reset_takes call (resets.StoresPosition place) old = Done (Some place)

-- how the reset of the next place goes on from the stage at which it is, by the old value of its word
abbrev pub reset_after : ResetNext → ℕ → After ResetNext (Option ℕ)
reset_after call old = reset_takes call call.stage old

-- whether the reset begins its loop again once it is handed this old value: the word has changed since it was loaded
abbrev pub reset_turns_back : ResetNextStage → ℕ → Bool
reset_turns_back resets.LoadsPosition old = false
reset_turns_back (resets.LoadsElement start passed) old = false
reset_turns_back (resets.ExchangesElement start passed found) old =
    not (old == found)
reset_turns_back (resets.StoresPosition place) old = false
