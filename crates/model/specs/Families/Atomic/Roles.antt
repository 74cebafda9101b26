-- Who gets the producer's role of the single value, and who holds it.
use Rattle.std.specs.Prelude.{◌≡◌, Some, is_none, not, List}
use Rattle.model.specs.declared.event.Start.TheVariants.{Atomic}
use Rattle.model.specs.declared.event.Answer.TheVariants.{Done, Truth}
use Rattle.model.specs.declared.event.Event.{Event}
use Rattle.model.specs.declared.event.Event.TheVariants.{Finished}
use Rattle.model.specs.declared.families.Registry.{Registry}
use Rattle.model.specs.declared.families.Registry.TheVariants as registries
use Rattle.model.specs.declared.families.atomic.AtomicStart.TheVariants.{AcquireProducer, ReleaseProducer, HasProducer}
use Rattle.model.specs.Families.Atomic.Reading.{holder_of}

module _ {T : Type 0} where
  -- An acquire answers whether nobody holds the role. Its holder gives it back. A look answers whether somebody holds
  -- it as the look ends.
  abbrev pub GrantsRight : List (Event T) → Event T → Type 0
  GrantsRight before (Finished p (Atomic AcquireProducer) answer) =
      answer ≡ Truth (is_none (holder_of before))
  GrantsRight before (Finished p (Atomic ReleaseProducer) answer) =
      (answer ≡ Done) × (holder_of before ≡ Some p)
  GrantsRight before (Finished p (Atomic HasProducer) answer) =
      answer ≡ Truth (not (is_none (holder_of before)))
  GrantsRight before e = Unit {0}

  -- the machine grants a store and a giving back to the party that holds the role by the events
  abbrev pub KeepsHolder : Registry T → List (Event T) → Type 0
  KeepsHolder (registries.Atomic producer) events = producer ≡ holder_of events
  KeepsHolder kept events = ⊥
