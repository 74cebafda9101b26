-- Which queue of numbers a pass is for, and what it knows of the queue's history.
use Rattle.std.specs.Prelude.{ℕ}
use Rattle.model.specs.declared.turn.Kind.TheVariants as kinds
use Rattle.model.specs.Coding.{one_word}
use Rattle.history.specs.declared.view.View.{View}
use Rattle.history.specs.History.{IsHistory}
pub use Rattle.lock_free_queues.specs.Queues.Rings.{Goes, MissesNothing, QueueId, queue_id, capacity_of, inner}
pub use Rattle.lock_free_queues.specs.Queues.Rings.{token_queue, token_view, queue_of, producer_queue, consumer_queue}
pub use Rattle.lock_free_queues.specs.Queues.Rings.{view, producer_view, consumer_view, IsPassOf, IsSameQueue}
pub use Rattle.lock_free_queues.specs.Queues.Rings.{SamePass, SameProducer, SameConsumer, ToProducer, ToConsumer, FromProducer, FromConsumer}

-- what was seen is a history of a queue of this capacity
abbrev pub HasHistory : ℕ → View ℕ → Type 0
HasHistory capacity v = IsHistory one_word kinds.IndexQueue capacity v.seen
