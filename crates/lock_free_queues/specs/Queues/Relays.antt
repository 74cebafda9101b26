-- For clients that pass values from one thread to another: what a guard has pushed or popped since it was acquired,
-- what the pass comes back with, and what is known in the end.
use Rattle.std.specs.Prelude.{◌≡◌, ◌↔◌, ℕ, ◌+◌, ◌≤◌, Bool, true, List, ◌++◌, length, map, take, sum_by}
use Rattle.steps.specs.declared.words.Words.{Ghosts}
use Rattle.model.specs.declared.event.Item.{Item}
use Rattle.model.specs.Families.Queues.Reading.{published, handed_out}
use Rattle.lock_free_queues.specs.declared.spsc.ring.rule.Kind as kinds
use Rattle.lock_free_queues.specs.declared.spsc.ring.Pass.{Pass}
use Rattle.lock_free_queues.specs.declared.spsc.ring.Producer.{Producer}
use Rattle.lock_free_queues.specs.declared.spsc.ring.Consumer.{Consumer}
use Rattle.lock_free_queues.specs.Queues.Rings.{queue_of, view, producer_queue, producer_view, consumer_queue, consumer_view}
use Rattle.lock_free_queues.specs.Queues.Sent.{HasSent, HasReceived}
use Rattle.lock_free_queues.specs.Queues.Sums.{puts, gets}

module _ {E T V : Type 0} {kind : kinds.Ghosts E} {words : Ghosts T} (named : V → Item T) where
  -- Since it was `first`, the producer has pushed these values, and popped none. Nobody else pushed
  -- meanwhile, so in what was published nothing stands between them.
  pub record Sending (first : Producer E T kind words) (values : List V) (now : Producer E T kind words) : Type 0 where
    pub queue : producer_queue now ≡ producer_queue first
    -- the published values end with these
    pub list : published (producer_view now).seen ≡ published (producer_view first).seen ++ map named values
    -- it has published as many values itself
    pub puts_more : sum_by puts (producer_view now).made ≡ sum_by puts (producer_view first).made + length values
    -- it has taken out none itself
    pub gets_more : sum_by gets (producer_view now).made ≡ sum_by gets (producer_view first).made
    pub share : (producer_view now).share ≡ (producer_view first).share

  -- since it was `first`, the consumer has popped these values, and pushed none
  pub record Receiving (first : Consumer E T kind words) (values : List V) (now : Consumer E T kind words) : Type 0 where
    pub queue : consumer_queue now ≡ consumer_queue first
    -- what was taken out ends with these values
    pub list : handed_out (consumer_view now).seen ≡ handed_out (consumer_view first).seen ++ map named values
    -- it has published none itself
    pub puts_more : sum_by puts (consumer_view now).made ≡ sum_by puts (consumer_view first).made
    -- it has taken out as many values itself
    pub gets_more : sum_by gets (consumer_view now).made ≡ sum_by gets (consumer_view first).made + length values
    pub share : (consumer_view now).share ≡ (consumer_view first).share

  -- a pass of the same queue, which has sent these values since it was the first one
  pub record Sent (first : Pass E T kind words) (values : List V) (now : Pass E T kind words) : Type 0 where
    pub queue : queue_of now ≡ queue_of first
    pub sent : HasSent named values (view first) (view now)

  -- a pass of the same queue, which has received these values since it was the first one
  pub record Received (first : Pass E T kind words) (values : List V) (now : Pass E T kind words) : Type 0 where
    pub queue : queue_of now ≡ queue_of first
    pub received : HasReceived named values (view first) (view now)

-- What came is a beginning of what was sent, in order. All of it came just where the last pop found
-- nothing, and at most `room`, the capacity of the queue, is left.
pub record IsRelayed {V : Type 0} (room : ℕ) (sent received : List V) (emptied : Bool) : Type 0 where
  pub beginning : received ≡ take (length received) sent
  pub all : (emptied ≡ true) ↔ (received ≡ sent)
  pub few : length sent ≤ length received + room
