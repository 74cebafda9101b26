-- How a bit changes.
use Rattle.std.specs.Prelude.{◌≡◌, List}
use Rattle.model.specs.declared.event.Event.{Event}
use Rattle.model.specs.declared.event.Event.TheVariants.{Set, Cleared}
use Rattle.model.specs.Families.Bits.Reading.{standing}

module _ {T : Type 0} where
  -- a bit is set only where it is clear, and cleared only where it stands
  abbrev pub ChangesBit : List (Event T) → Event T → Type 0
  ChangesBit before (Set p bit) = standing bit before ≡ 0
  ChangesBit before (Cleared p bit) = standing bit before ≡ 1
  ChangesBit before e = Unit {0}
