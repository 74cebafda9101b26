-- How many steps a call of a queue takes.
use Rattle.std.specs.Prelude.{ℕ, ◌+◌, ◌*◌}
use Rattle.model.specs.declared.families.queues.QueueStart.{QueueStart}
use Rattle.model.specs.declared.families.queues.QueueStart.TheVariants.{AcquireProducer, ReleaseProducer}
use Rattle.model.specs.declared.families.queues.QueueStart.TheVariants.{AcquireConsumer, ReleaseConsumer, PushIndex}
use Rattle.model.specs.declared.families.queues.QueueStart.TheVariants.{Push, Pop, Peek, HasProducer, HasConsumer, Len, IsEmpty, IsFull}
use Rattle.model.specs.declared.families.queues.QueueKind.{QueueKind}
use Rattle.model.specs.declared.families.queues.QueueKind.TheVariants.{IndexQueue, Overflow, Queue}

-- The most steps of a push, by the number of words of a value.
abbrev pub most_push_steps : ℕ → QueueKind → ℕ
most_push_steps size IndexQueue = 4
most_push_steps size Overflow = 6
most_push_steps size Queue = 3 + size

-- The most steps of a pop, by how often it has turned back to the start of its loop.
abbrev pub most_pop_steps : ℕ → QueueKind → ℕ → ℕ
most_pop_steps size IndexQueue backs = 4
most_pop_steps size Overflow backs = 4 + 2 * backs
most_pop_steps size Queue backs = 3 + size

-- the most steps of a peek, which an overflowing queue has not
abbrev pub most_peek_steps : ℕ → QueueKind → ℕ
most_peek_steps size IndexQueue = 3
most_peek_steps size Overflow = 0
most_peek_steps size Queue = 2 + size

-- How many steps a call of a queue takes at most, by how often it has turned back to the
-- start of a loop (`backs`).
abbrev pub most_steps : {T : Type 0} → ℕ → QueueKind → QueueStart T → ℕ → ℕ
most_steps size kind AcquireProducer backs = 1
most_steps size kind ReleaseProducer backs = 1
most_steps size kind AcquireConsumer backs = 1
most_steps size kind ReleaseConsumer backs = 1
most_steps size kind (PushIndex index) backs = most_push_steps size kind
most_steps size kind (Push value) backs = most_push_steps size kind
most_steps size kind Pop backs = most_pop_steps size kind backs
most_steps size kind Peek backs = most_peek_steps size kind
most_steps size kind HasProducer backs = 1
most_steps size kind HasConsumer backs = 1
most_steps size kind Len backs = 4 * (backs + 1)
most_steps size kind IsEmpty backs = 4 * (backs + 1)
most_steps size kind IsFull backs = 4 * (backs + 1)
