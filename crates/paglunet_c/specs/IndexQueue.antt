-- What a call of an index queue does to what lies behind a handle, by its answer. A handle of another kind is told, and
-- stays as it is.
use Rattle.std.specs.Prelude.{◌≡◌, ◌⊎◌, ℕ, ◌≤◌, ◌^◌, ◌-◌, true, false, None, Some}
use Rattle.std.specs.Option.{option_map}
use Rattle.std.specs.declared.option.Option.{Option}
use Rattle.steps.specs.Enums.{capacity_refusal}
use Rattle.steps.specs.declared.queues.roles.Role.TheVariants as roles
use Rattle.model.specs.declared.event.Item.TheVariants.{Index}
use Rattle.history.specs.Steps.{TakesAtMost}
use Rattle.history.specs.Views.{first_view}
use Rattle.lock_free_queues.specs.Queues.Calls.{view, queue_of, producer_queue, producer_view, consumer_view}
use Rattle.lock_free_queues.specs.Queues.Calls.{SamePass, SameProducer, SameConsumer, ToProducer, ToConsumer, FromProducer, FromConsumer}
use Rattle.lock_free_queues.specs.Queues.Contracts.{PushDone, PushRefused, PopDone, PopEmpty, HasPeeked}
use Rattle.lock_free_queues.specs.Queues.Contracts.{HasAcquired, HasReleased, HasSplit}
use Rattle.paglunet_c.specs.declared.held.Held.{Held}
use Rattle.paglunet_c.specs.declared.held.Held.TheVariants.{IndexPass, IndexProducer, IndexConsumer}
use Rattle.paglunet_c.specs.Status.{ok, full, empty, taken, no_memory, wrong_handle, number_of}

-- a handle that was empty has a pass of a new queue of this capacity, which has seen nothing, or is still empty
abbrev pub Makes : ℕ → ℕ → Option Held → Type 0
Makes capacity status (Some (IndexPass p)) =
    (status ≡ ok) × ((queue_of p).capacity ≡ capacity) × (view p ≡ first_view capacity) × (capacity_refusal 0 (2 ^ 32 - 1) capacity ≡ None)
Makes capacity status (Some other) = ⊥
Makes capacity status None = status ≡ number_of (capacity_refusal 0 (2 ^ 32 - 1) capacity)

-- a further pass of the queue, in a handle that was empty, which has seen the same and made nothing
abbrev pub Splits : ℕ → Option Held → Option Held → Option Held → Type 0
Splits status (Some (IndexPass p)) (Some (IndexPass q)) (Some (IndexPass r)) =
    (status ≡ ok) × (queue_of q ≡ queue_of p) × (queue_of r ≡ queue_of p) × HasSplit (view p) (view q) (view r)
Splits status (Some (IndexPass p)) (Some (IndexPass q)) None = (status ≡ no_memory) × (queue_of q ≡ queue_of p)
Splits status old new other = (status ≡ wrong_handle) × (new ≡ old) × (other ≡ None)

-- the pass has the producer's role, or another has it
abbrev pub AcquiresProducer : ℕ → Option Held → Option Held → Type 0
AcquiresProducer status (Some (IndexPass p)) (Some (IndexProducer q)) =
    (status ≡ ok) × ToProducer p q × HasAcquired roles.Producer true (view p) (producer_view q) × TakesAtMost 1 (view p) (producer_view q)
AcquiresProducer status (Some (IndexPass p)) (Some (IndexPass q)) =
    (status ≡ taken) × SamePass p q × HasAcquired roles.Producer false (view p) (view q) × TakesAtMost 1 (view p) (view q)
AcquiresProducer status old new = (status ≡ wrong_handle) × (new ≡ old)

-- the pass has the consumer's role, or another has it
abbrev pub AcquiresConsumer : ℕ → Option Held → Option Held → Type 0
AcquiresConsumer status (Some (IndexPass p)) (Some (IndexConsumer q)) =
    (status ≡ ok) × ToConsumer p q × HasAcquired roles.Consumer true (view p) (consumer_view q) × TakesAtMost 1 (view p) (consumer_view q)
AcquiresConsumer status (Some (IndexPass p)) (Some (IndexPass q)) =
    (status ≡ taken) × SamePass p q × HasAcquired roles.Consumer false (view p) (view q) × TakesAtMost 1 (view p) (view q)
AcquiresConsumer status old new = (status ≡ wrong_handle) × (new ≡ old)

-- the role is given back, and the pass stays
abbrev pub Releases : ℕ → Option Held → Option Held → Type 0
Releases status (Some (IndexProducer p)) (Some (IndexPass q)) =
    (status ≡ ok) × FromProducer p q × HasReleased roles.Producer (producer_view p) (view q) × TakesAtMost 1 (producer_view p) (view q)
Releases status (Some (IndexConsumer p)) (Some (IndexPass q)) =
    (status ≡ ok) × FromConsumer p q × HasReleased roles.Consumer (consumer_view p) (view q) × TakesAtMost 1 (consumer_view p) (view q)
Releases status old new = (status ≡ wrong_handle) × (new ≡ old)

-- a push of this number
abbrev pub Pushes : ℕ → ℕ → Option Held → Option Held → Type 0
Pushes value status (Some (IndexProducer p)) (Some (IndexProducer q)) =
    SameProducer p q
    × (status ≡ ok → PushDone (Index value) (producer_view p) (producer_view q))
    × (status ≡ full → PushRefused (producer_queue p).capacity (Index value) (producer_view p) (producer_view q))
    × (status ≤ full) × TakesAtMost 4 (producer_view p) (producer_view q)
Pushes value status old new = (status ≡ wrong_handle) × (new ≡ old)

-- a pop that wrote this number where its answer is `ok`
abbrev pub Pops : ℕ → ℕ → Option Held → Option Held → Type 0
Pops value status (Some (IndexConsumer p)) (Some (IndexConsumer q)) =
    SameConsumer p q
    × (status ≡ ok → PopDone (Index value) (consumer_view p) (consumer_view q))
    × (status ≡ empty → PopEmpty (consumer_view p) (consumer_view q))
    × ((status ≡ ok) ⊎ (status ≡ empty)) × TakesAtMost 4 (consumer_view p) (consumer_view q)
Pops value status old new = (status ≡ wrong_handle) × (new ≡ old)

-- a peek that wrote this number where its answer is `ok`
abbrev pub Peeks : ℕ → ℕ → Option Held → Option Held → Type 0
Peeks value status (Some (IndexConsumer p)) (Some (IndexConsumer q)) =
    SameConsumer p q
    × (status ≡ ok → HasPeeked (Some (Index value)) (consumer_view p) (consumer_view q))
    × (status ≡ empty → HasPeeked None (consumer_view p) (consumer_view q))
    × ((status ≡ ok) ⊎ (status ≡ empty)) × TakesAtMost 3 (consumer_view p) (consumer_view q)
Peeks value status old new = (status ≡ wrong_handle) × (new ≡ old)

-- the capacity of the pass's queue
abbrev pub TellsCapacity : ℕ → ℕ → Option Held → Option Held → Type 0
TellsCapacity capacity status (Some (IndexPass p)) new = (status ≡ ok) × (capacity ≡ (queue_of p).capacity) × (new ≡ Some (IndexPass p))
TellsCapacity capacity status old new = (status ≡ wrong_handle) × (new ≡ old)
