-- Which queue a pass is for, and what it knows of the queue's history: of queues of any kind.
use Rattle.std.specs.Prelude.{◌≡◌, ℕ, ◌+◌, ◌<◌, ◌≤◌}
use Rattle.atomic_table.specs.Seated.{TableId}
use Rattle.steps.specs.declared.words.Words.{Ghosts}
use Rattle.model.specs.declared.families.queues.QueueKind.{QueueKind}
use Rattle.model.specs.Coding.{Coding, coding_by}
use Rattle.history.specs.declared.view.View.{View}
use Rattle.history.specs.History.{IsHistory, Knows}
use Rattle.threaded.specs.Seats.{home_id}
use Rattle.lock_free_queues.specs.Queues.Bounded.{machine_kind}
pub use Rattle.history.specs.Passes.{Goes, MissesNothing}
use Rattle.history.specs.Passes.{HasJoined}
use Rattle.lock_free_queues.specs.declared.spsc.ring.rule.Kind as kinds
use Rattle.lock_free_queues.specs.declared.spsc.ring.rule.RingRule.{RingRule}
use Rattle.lock_free_queues.specs.declared.spsc.ring.Ring.{Ring}
use Rattle.lock_free_queues.specs.declared.spsc.ring.FixedSize.{FixedSize}
use Rattle.lock_free_queues.specs.declared.spsc.ring.Held.{Held}
use Rattle.lock_free_queues.specs.declared.spsc.ring.Pass.{Pass}
use Rattle.lock_free_queues.specs.declared.spsc.ring.Producer.{Producer}
use Rattle.lock_free_queues.specs.declared.spsc.ring.Consumer.{Consumer}

-- what names a queue
pub record QueueId : Type 0 where
  pub table : TableId
  pub capacity : ℕ

module _ {T : Type 0} where
  -- what was seen is a history of a queue of this kind and capacity
  abbrev pub HasHistory : Coding T → QueueKind → ℕ → View T → Type 0
  HasHistory code kind capacity v = IsHistory code (machine_kind kind) capacity v.seen

module _ {E T : Type 0} where
  -- which queue it is
  abbrev pub queue_id : Ring E T → QueueId
  queue_id q = record { table = home_id q.home; capacity = q.capacity }

  -- the capacity of the queue
  abbrev pub capacity_of : Ring E T → ℕ
  capacity_of q = q.capacity

  -- the queue of one whose capacity is part of its type
  module _ {CAPACITY : ℕ} where
    -- the queue that a queue of fixed size is made of
    abbrev pub inner : FixedSize E T CAPACITY → Ring E T
    inner q = q.ring

module _ {E T : Type 0} {kind : kinds.Ghosts E} {words : Ghosts T} where
  -- which queue a seat is for
  abbrev pub token_queue : Held E T (RingRule E T) kind words → QueueId
  token_queue t = record { table = t.seated.seat.table_id; capacity = t.capacity }

  -- what a seat knows of the queue
  abbrev pub token_view : Held E T (RingRule E T) kind words → View T
  token_view t = t.seated.seat.me.0

  -- the queue of the pass
  abbrev pub queue_of : Pass E T kind words → QueueId
  queue_of p = token_queue p.token

  -- the queue of the producer
  abbrev pub producer_queue : Producer E T kind words → QueueId
  producer_queue p = token_queue p.token

  -- the queue of the consumer
  abbrev pub consumer_queue : Consumer E T kind words → QueueId
  consumer_queue c = token_queue c.token

  -- what the pass knows of the queue
  abbrev pub view : Pass E T kind words → View T
  view p = token_view p.token

  -- what the producer knows of the queue
  abbrev pub producer_view : Producer E T kind words → View T
  producer_view p = token_view p.token

  -- what the consumer knows of the queue
  abbrev pub consumer_view : Consumer E T kind words → View T
  consumer_view c = token_view c.token

  -- the pass is one of this queue
  abbrev pub IsPassOf : Ring E T → Pass E T kind words → Type 0
  IsPassOf q p = queue_of p ≡ queue_id q

  -- how its values are written in words
  abbrev pub code_of : Held E T (RingRule E T) kind words → Coding T
  code_of t = coding_by words

  -- what each call leaves of a seat: it is of the same queue, and its view goes on
  pub record IsSameQueue (old new : Held E T (RingRule E T) kind words) : Type 0 where
    pub queue : token_queue new ≡ token_queue old
    pub goes : Goes (token_view old) (token_view new)
    -- at most one operation was no step of a call
    pub aside : (token_view new).aside ≤ (token_view old).aside + 1

  -- the pass is still of the same queue, and its view goes on
  abbrev pub SamePass : Pass E T kind words → Pass E T kind words → Type 0
  SamePass old new = IsSameQueue old.token new.token

  -- the producer is still of the same queue, and its view goes on
  abbrev pub SameProducer : Producer E T kind words → Producer E T kind words → Type 0
  SameProducer old new = IsSameQueue old.token new.token

  -- the consumer is still of the same queue, and its view goes on
  abbrev pub SameConsumer : Consumer E T kind words → Consumer E T kind words → Type 0
  SameConsumer old new = IsSameQueue old.token new.token

  -- What a push or a pop of an overflowing queue leaves of a seat: the same queue, and a view that goes
  -- on; where the queue has no capacity the view stays, since the call takes no step.
  pub record IsSameByCapacity (old new : Held E T (RingRule E T) kind words) : Type 0 where
    pub queue : token_queue new ≡ token_queue old
    pub goes : 0 < (token_queue old).capacity → Goes (token_view old) (token_view new)
    pub none : (token_queue old).capacity ≡ 0 → token_view new ≡ token_view old

  -- the producer is still of the same queue, and its view goes on, or stays where the queue has no capacity
  abbrev pub SameProducerByCapacity : Producer E T kind words → Producer E T kind words → Type 0
  SameProducerByCapacity old new = IsSameByCapacity old.token new.token

  -- the consumer is still of the same queue, and its view goes on, or stays where the queue has no capacity
  abbrev pub SameConsumerByCapacity : Consumer E T kind words → Consumer E T kind words → Type 0
  SameConsumerByCapacity old new = IsSameByCapacity old.token new.token

  -- the producer is of the pass's queue, and its view goes on from the pass's
  abbrev pub ToProducer : Pass E T kind words → Producer E T kind words → Type 0
  ToProducer pass end = IsSameQueue pass.token end.token

  -- the consumer is of the pass's queue, and its view goes on from the pass's
  abbrev pub ToConsumer : Pass E T kind words → Consumer E T kind words → Type 0
  ToConsumer pass end = IsSameQueue pass.token end.token

  -- the pass is of the producer's queue, and its view goes on from the producer's
  abbrev pub FromProducer : Producer E T kind words → Pass E T kind words → Type 0
  FromProducer end pass = IsSameQueue end.token pass.token

  -- the pass is of the consumer's queue, and its view goes on from the consumer's
  abbrev pub FromConsumer : Consumer E T kind words → Pass E T kind words → Type 0
  FromConsumer end pass = IsSameQueue end.token pass.token

  -- what each pass of such a queue has seen is the history of a run, whose turns it knows
  abbrev pub EachKnows : Pass E T kind words → Type 0
  EachKnows pass =
      (p : Pass E T kind words) → Knows (code_of p.token) (machine_kind kind.KIND) (queue_of p).capacity (view p)

  -- what a join leaves of a seat: the same queue, and a view that has what both views had
  pub record Joins (old other new : Held E T (RingRule E T) kind words) : Type 0 where
    pub queue : token_queue new ≡ token_queue old
    pub joined : HasJoined (token_view old) (token_view other) (token_view new)
    pub all : MissesNothing (token_view new)

  -- the pass is of the same queue, and has what both had
  abbrev pub PassJoins : Pass E T kind words → Pass E T kind words → Pass E T kind words → Type 0
  PassJoins old other new = Joins old.token other.token new.token

  -- the producer is of the same queue, and has what both had
  abbrev pub ProducerJoins : Producer E T kind words → Pass E T kind words → Producer E T kind words → Type 0
  ProducerJoins old other new = Joins old.token other.token new.token

  -- the consumer is of the same queue, and has what both had
  abbrev pub ConsumerJoins : Consumer E T kind words → Pass E T kind words → Consumer E T kind words → Type 0
  ConsumerJoins old other new = Joins old.token other.token new.token
