-- How the events of a queue are read.
use Rattle.std.specs.Prelude.{ℕ, true, Option, Some, None, List, [], ◌∷◌, length, drop, fold}
use Rattle.std.specs.List.{flat_map}
use Rattle.model.specs.declared.event.Item.{Item}
use Rattle.model.specs.declared.event.Start.TheVariants.{Queues}
use Rattle.model.specs.declared.event.Answer.TheVariants.{Truth}
use Rattle.model.specs.declared.event.Event.{Event}
use Rattle.model.specs.declared.event.Event.TheVariants.{Published, HandedOut, Finished}
use Rattle.model.specs.declared.families.queues.QueueStart.TheVariants.{AcquireProducer, ReleaseProducer, AcquireConsumer, ReleaseConsumer}

module _ {T : Type 0} where
  -- ---- values

  -- the item that the event publishes, if it publishes one
  abbrev pub publishes : Event T → List (Item T)
  publishes (Published p item) = item ∷ []
  publishes e = []

  -- the item that the event hands out, if it hands one out
  abbrev pub hands_out : Event T → List (Item T)
  hands_out (HandedOut p item) = item ∷ []
  hands_out e = []

  -- the values of the Published events, in order
  abbrev pub published : List (Event T) → List (Item T)
  published events = flat_map publishes events

  -- all items that were handed out, in order
  abbrev pub handed_out : List (Event T) → List (Item T)
  handed_out events = flat_map hands_out events

  -- what was published and not yet handed out
  abbrev pub waiting : List (Event T) → List (Item T)
  waiting events = drop (length (handed_out events)) (published events)

  -- ---- roles: held from an acquire that finished true to a giving back that finished

  -- who has the producer's role after an event, where this party, or nobody, had it before
  abbrev pub producer_after : Option ℕ → Event T → Option ℕ
  producer_after holder (Finished p (Queues AcquireProducer) (Truth true)) = Some p
  producer_after holder (Finished p (Queues ReleaseProducer) answer) = None
  producer_after holder e = holder

  -- who has the consumer's role after an event, where this party, or nobody, had it before
  abbrev pub consumer_after : Option ℕ → Event T → Option ℕ
  consumer_after holder (Finished p (Queues AcquireConsumer) (Truth true)) = Some p
  consumer_after holder (Finished p (Queues ReleaseConsumer) answer) = None
  consumer_after holder e = holder

  -- who holds the producer's role after these events
  abbrev pub producer_of : List (Event T) → Option ℕ
  producer_of events = fold producer_after None events

  -- who holds the consumer's role after these events
  abbrev pub consumer_of : List (Event T) → Option ℕ
  consumer_of events = fold consumer_after None events
