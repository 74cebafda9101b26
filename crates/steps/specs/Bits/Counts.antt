-- The call of the counting bit set on one place. `set_want` says what a call asks for, and `set_after` that
-- the answer ends it (`Done`).
use Rattle.std.specs.Prelude.{ℕ}
use Rattle.steps.specs.declared.ask.Op.TheVariants.{Add}
use Rattle.steps.specs.declared.ask.Want.{Want}
use Rattle.steps.specs.declared.ask.Want.TheVariants as wants
use Rattle.steps.specs.declared.ask.After.{After}
use Rattle.steps.specs.declared.ask.After.TheVariants.{Done}
use Rattle.steps.specs.declared.bits.counting_bit_set.Set.{Set}

-- a count adds 1 to the word of the place
abbrev pub set_want : Set → ℕ → Want (Unit {0})
set_want call place = wants.Ask (record { word = place; op = Add 1 })

-- a count ends with its one step, with the number that it found
abbrev pub set_after : Set → ℕ → After Set ℕ
set_after call old = Done old
