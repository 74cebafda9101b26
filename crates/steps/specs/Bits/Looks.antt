-- The calls of the bit sets that look at one place and change nothing. `.._want` says what a call asks for,
-- and `.._after` that the answer ends it (`Done`).
use Rattle.std.specs.Prelude.{ℕ, Bool}
use Rattle.steps.specs.Queues.Ring.{load}
use Rattle.steps.specs.Bits.Words.{element_of, has_flag}
use Rattle.steps.specs.declared.ask.Want.{Want}
use Rattle.steps.specs.declared.ask.After.{After}
use Rattle.steps.specs.declared.ask.After.TheVariants.{Done}
use Rattle.steps.specs.declared.bits.looks.IsSet.{IsSet}
use Rattle.steps.specs.declared.bits.looks.Count.{Count}

-- a look at a place loads its element
abbrev pub is_set_want : IsSet → ℕ → Want (Unit {0})
is_set_want call place = load (element_of place)

-- a look at a place ends with whether its flag stood
abbrev pub is_set_after : IsSet → (place old : ℕ) → After IsSet Bool
is_set_after call place old = Done (has_flag old place)

-- a look at a count loads the word of the place
abbrev pub count_want : Count → ℕ → Want (Unit {0})
count_want call place = load place

-- a look at a count ends with the number that it found
abbrev pub count_after : Count → ℕ → After Count ℕ
count_after call old = Done old
