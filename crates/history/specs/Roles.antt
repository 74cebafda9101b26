-- Which role of a queue a pass holds, by what it made.
use Rattle.std.specs.Prelude.{◌≡◌, ℕ, ◌+◌, true, Option, Some, List, sum_by}
use Rattle.steps.specs.declared.queues.roles.Role.{Role}
use Rattle.steps.specs.declared.queues.roles.Role.TheVariants.{Producer, Consumer}
use Rattle.model.specs.declared.event.Answer.TheVariants.{Truth}
use Rattle.model.specs.declared.event.Event.{Event}
use Rattle.model.specs.declared.event.Event.TheVariants.{Published, HandedOut, Acted, Finished}
use Rattle.model.specs.declared.event.Item.{Item}
use Rattle.model.specs.declared.event.Start.TheVariants.{Queues}
use Rattle.model.specs.declared.families.queues.QueueStart.{QueueStart}
use Rattle.model.specs.declared.families.queues.QueueStart.TheVariants.{AcquireProducer, ReleaseProducer}
use Rattle.model.specs.declared.families.queues.QueueStart.TheVariants.{AcquireConsumer, ReleaseConsumer, PushIndex}
use Rattle.model.specs.declared.families.queues.QueueStart.TheVariants.{Push, Pop, HasProducer, HasConsumer}
use Rattle.model.specs.declared.families.queues.Roles.{Roles}
use Rattle.model.specs.Families.Queues.Reading.{publishes, hands_out, producer_after, consumer_after, producer_of, consumer_of}

-- the place of the role's word among the words of a queue; the word is 1 while the role is free
abbrev pub role_word : Role → ℕ
role_word Producer = 2
role_word Consumer = 3

-- which party holds the role, if one does, by the record of roles that a machine keeps
abbrev pub holder : Role → Roles → Option ℕ
holder Producer roles = roles.producer
holder Consumer roles = roles.consumer

module _ {T : Type 0} where
  -- the model's call that acquires the role
  abbrev pub acquire_start : Role → QueueStart T
  acquire_start Producer = AcquireProducer
  acquire_start Consumer = AcquireConsumer

  -- the model's call that gives the role back
  abbrev pub release_start : Role → QueueStart T
  release_start Producer = ReleaseProducer
  release_start Consumer = ReleaseConsumer

  -- the model's call that asks whether somebody has the role
  abbrev pub look_start : Role → QueueStart T
  look_start Producer = HasProducer
  look_start Consumer = HasConsumer

  -- 1 for an event that ends an acquire of the role with true, and 0 for each other
  abbrev pub takes : Role → Event T → ℕ
  takes Producer (Finished p (Queues AcquireProducer) (Truth true)) = 1
  takes Consumer (Finished p (Queues AcquireConsumer) (Truth true)) = 1
  takes role e = 0

  -- 1 for an event that ends a release of the role, and 0 for each other
  abbrev pub gives : Role → Event T → ℕ
  gives Producer (Finished p (Queues ReleaseProducer) answer) = 1
  gives Consumer (Finished p (Queues ReleaseConsumer) answer) = 1
  gives role e = 0

  -- who has the role after an event, where this party, or nobody, had it before
  abbrev pub role_after : Role → Option ℕ → Event T → Option ℕ
  role_after Producer = producer_after
  role_after Consumer = consumer_after

  -- who holds the role after these events
  abbrev pub holder_by : Role → List (Event T) → Option ℕ
  holder_by Producer events = producer_of events
  holder_by Consumer events = consumer_of events

  -- the item that the event publishes (producer) or hands out (consumer); only the holder of the role writes
  -- such an event
  abbrev pub marks : Role → Event T → List (Item T)
  marks Producer = publishes
  marks Consumer = hands_out

  -- these events acquired the role once more than they gave it back
  abbrev pub HasRole : Role → List (Event T) → Type 0
  HasRole role made = sum_by (takes role) made ≡ sum_by (gives role) made + 1

  -- an event that publishes (producer) or hands out (consumer) an item is of the party
  -- that holds the role then
  abbrev pub ByHolderOf : Role → List (Event T) → Event T → Type 0
  ByHolderOf Producer before (Published p item) = producer_of before ≡ Some p
  ByHolderOf Consumer before (HandedOut p item) = consumer_of before ≡ Some p
  ByHolderOf role before e = Unit {0}

  -- who publishes, or acts by a push, holds the producer's role, and who takes out, or acts by a pop, the consumer's
  abbrev pub ByHolder : List (Event T) → Event T → Type 0
  ByHolder before (Published p item) = producer_of before ≡ Some p
  ByHolder before (HandedOut p item) = consumer_of before ≡ Some p
  ByHolder before (Acted p (Queues (PushIndex value)) answer) = producer_of before ≡ Some p
  ByHolder before (Acted p (Queues (Push value)) answer) = producer_of before ≡ Some p
  ByHolder before (Acted p (Queues Pop) answer) = consumer_of before ≡ Some p
  ByHolder before e = Unit {0}
