-- Which overflowing queue a pass is for, and what it knows of the queue's history; what its pushes and pops say.
use Rattle.std.specs.Prelude.{◌≡◌, ◌⊎◌, ℕ, Option, Some, None, List, [], ◌∷◌}
use Rattle.model.specs.declared.event.Answer.TheVariants.{PoppedNone, PoppedIndex}
use Rattle.model.specs.declared.event.Event.{Event}
use Rattle.model.specs.declared.event.Event.TheVariants.{Published, HandedOut, Acted}
use Rattle.model.specs.declared.event.Item.TheVariants.{Index}
use Rattle.model.specs.declared.event.Start.TheVariants.{Queues}
use Rattle.model.specs.declared.families.queues.QueueStart.TheVariants.{PushIndex}
use Rattle.model.specs.declared.turn.Kind.TheVariants as kinds
use Rattle.model.specs.Coding.{one_word}
use Rattle.model.specs.Families.Queues.Calls.{popped}
use Rattle.history.specs.declared.view.View.{View}
use Rattle.history.specs.History.{Called, IsHistory}
use Rattle.lock_free_queues.specs.Queues.Contracts.{HasPublished, HasTakenFirst, WasAtEnd}
pub use Rattle.lock_free_queues.specs.Queues.Rings.{Goes, MissesNothing, QueueId, queue_id, capacity_of, inner}
pub use Rattle.lock_free_queues.specs.Queues.Rings.{token_queue, token_view, queue_of, producer_queue, consumer_queue}
pub use Rattle.lock_free_queues.specs.Queues.Rings.{view, producer_view, consumer_view, IsPassOf, IsSameQueue}
pub use Rattle.lock_free_queues.specs.Queues.Rings.{SamePass, SameProducer, SameConsumer, ToProducer, ToConsumer, FromProducer, FromConsumer}
pub use Rattle.lock_free_queues.specs.Queues.Rings.{IsSameByCapacity, SameProducerByCapacity, SameConsumerByCapacity}

-- what was seen is a history of an overflowing queue of this capacity
abbrev pub HasHistory : ℕ → View ℕ → Type 0
HasHistory capacity v = IsHistory one_word kinds.Overflow capacity v.seen

module _ {T : Type 0} where
  -- what a push of an overflowing queue writes: it publishes its number, and if the queue is full it
  -- takes the oldest out
  abbrev pub over_push_events : (p value : ℕ) → Option ℕ → List (Event T)
  over_push_events p value None =
      Published p (Index value) ∷ Acted p (Queues (PushIndex value)) PoppedNone ∷ []
  over_push_events p value (Some oldest) =
      Published p (Index value) ∷ HandedOut p (Index oldest)
      ∷ Acted p (Queues (PushIndex value)) (PoppedIndex oldest) ∷ []

  -- the push is a call of the history, which handed `back` back
  pub record HasOverflowed (value : ℕ) (back : Option ℕ) (old new : View T) : Type 0 where
    pub by : ℕ
    pub mine : new.party ≡ Some by
    pub called : Called by (Queues (PushIndex value)) (popped back) (over_push_events by value back) old new

-- The push is no call of the history, and the queue took nothing. Without capacity the view stays;
-- where the last position is reached the push was a look.
abbrev pub TookNone : {T : Type 0} → ℕ → View T → View T → Type 0
TookNone capacity old new = (capacity ≡ 0) × (new ≡ old) ⊎ WasAtEnd old new

module _ {T : Type 0} where
  -- a push that handed nothing back
  abbrev pub PushAdded : ℕ → (old new : View T) → Type 0
  PushAdded value old new = HasOverflowed value None old new × HasPublished (Index value) old new

  -- a push that took the oldest number out, to hand it back
  abbrev pub PushReplaced : (value oldest : ℕ) → (old new : View T) → Type 0
  PushReplaced value oldest old new =
      HasOverflowed value (Some oldest) old new
      × HasPublished (Index value) old new
      × HasTakenFirst (Index oldest) old new

  -- a push that handed a number back: the oldest one, or its own where the queue takes none
  abbrev pub PushHandedBack : (capacity value back : ℕ) → (old new : View T) → Type 0
  PushHandedBack capacity value back old new = PushReplaced value back old new ⊎ (back ≡ value) × TookNone capacity old new
