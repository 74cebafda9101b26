-- Who gets a role, and who holds it.
use Rattle.std.specs.Prelude.{◌≡◌, Some, is_none, not, List}
use Rattle.model.specs.declared.event.Start.TheVariants.{Queues}
use Rattle.model.specs.declared.event.Answer.TheVariants.{Done, Truth}
use Rattle.model.specs.declared.event.Event.{Event}
use Rattle.model.specs.declared.event.Event.TheVariants.{Finished}
use Rattle.model.specs.declared.families.Registry.{Registry}
use Rattle.model.specs.declared.families.Registry.TheVariants as registries
use Rattle.model.specs.declared.families.queues.QueueStart.TheVariants.{AcquireProducer, ReleaseProducer}
use Rattle.model.specs.declared.families.queues.QueueStart.TheVariants.{AcquireConsumer, ReleaseConsumer, HasProducer}
use Rattle.model.specs.declared.families.queues.QueueStart.TheVariants.{HasConsumer}
use Rattle.model.specs.Families.Queues.Reading.{producer_of, consumer_of}

module _ {T : Type 0} where
  -- An acquire answers whether nobody holds the role. Its holder gives it back. A look answers whether somebody holds
  -- it as the look ends.
  abbrev pub GrantsRight : List (Event T) → Event T → Type 0
  GrantsRight before (Finished p (Queues AcquireProducer) answer) =
      answer ≡ Truth (is_none (producer_of before))
  GrantsRight before (Finished p (Queues ReleaseProducer) answer) =
      (answer ≡ Done) × (producer_of before ≡ Some p)
  GrantsRight before (Finished p (Queues AcquireConsumer) answer) =
      answer ≡ Truth (is_none (consumer_of before))
  GrantsRight before (Finished p (Queues ReleaseConsumer) answer) =
      (answer ≡ Done) × (consumer_of before ≡ Some p)
  GrantsRight before (Finished p (Queues HasProducer) answer) =
      answer ≡ Truth (not (is_none (producer_of before)))
  GrantsRight before (Finished p (Queues HasConsumer) answer) =
      answer ≡ Truth (not (is_none (consumer_of before)))
  GrantsRight before e = Unit {0}

  -- the machine grants a push, a pop and a giving back to those that hold the role by the events
  abbrev pub KeepsHolders : Registry T → List (Event T) → Type 0
  KeepsHolders (registries.Queues roles) events =
      (roles.producer ≡ producer_of events) × (roles.consumer ≡ consumer_of events)
  KeepsHolders kept events = ⊥
