-- What a reset takes out of a count.
use Rattle.std.specs.Prelude.{◌≡◌, ◌≤◌, ◌%◌, ◌^◌, List}
use Rattle.model.specs.declared.event.Event.{Event}
use Rattle.model.specs.declared.event.Event.TheVariants.{TakenOut}
use Rattle.model.specs.Families.Bits.Reading.{count_at}

module _ {T : Type 0} where
  -- an event that takes a number out of a place takes all that stands there then, modulo 2^64, and not 0
  abbrev pub TakesAll : List (Event T) → Event T → Type 0
  TakesAll before (TakenOut p place number) = (number ≡ count_at place before % 2 ^ 64) × (1 ≤ number)
  TakesAll before e = Unit {0}
