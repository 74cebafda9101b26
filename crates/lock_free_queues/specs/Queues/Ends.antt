-- What `ends` of a queue returns: the producer and the consumer that one pass, which is
-- split for them, becomes.
use Rattle.std.specs.Prelude.{◌≡◌, true}
use Rattle.steps.specs.declared.queues.roles.Role.TheVariants as roles
use Rattle.steps.specs.declared.words.Words.{Ghosts}
use Rattle.history.specs.Passes.{HasSplit}
use Rattle.history.specs.Steps.{TakesAtMost}
use Rattle.lock_free_queues.specs.declared.spsc.ring.rule.Kind as kinds
use Rattle.lock_free_queues.specs.declared.spsc.ring.Pass.{Pass}
use Rattle.lock_free_queues.specs.declared.spsc.ring.Producer.{Producer}
use Rattle.lock_free_queues.specs.declared.spsc.ring.Consumer.{Consumer}
use Rattle.lock_free_queues.specs.Queues.Rings.{queue_of, view, producer_view, consumer_view, ToProducer, ToConsumer}
use Rattle.lock_free_queues.specs.Queues.Contracts.{HasAcquired}

-- These are the producer and the consumer that `ends` makes of the pass: it was split, and with each
-- part a role was taken.
pub record AreEnds {E T : Type 0} {kind : kinds.Ghosts E} {words : Ghosts T} (pass : Pass E T kind words)
    (producer : Producer E T kind words) (consumer : Consumer E T kind words) : Type 0 where
  -- the two parts of the pass, which are of its queue
  pub left : Pass E T kind words
  pub right : Pass E T kind words
  pub queue : queue_of left ≡ queue_of pass
  pub right_queue : queue_of right ≡ queue_of pass
  -- the pass was split
  pub cut : HasSplit (view pass) (view left) (view right)
  pub cut_steps : TakesAtMost 1 (view pass) (view left)
  -- with one part the producer's role was taken
  pub produces : ToProducer left producer
  pub producer_acquired : HasAcquired roles.Producer true (view left) (producer_view producer)
  pub producer_steps : TakesAtMost 1 (view left) (producer_view producer)
  -- with the other part the consumer's role was taken
  pub consumes : ToConsumer right consumer
  pub consumer_acquired : HasAcquired roles.Consumer true (view right) (consumer_view consumer)
  pub consumer_steps : TakesAtMost 1 (view right) (consumer_view consumer)
