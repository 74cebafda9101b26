-- For each field of what a queue promises a run that this field alone refuses here.
use Rattle.std.proofs.Common.{ℕ, true, false, Some, None, List, [], ◌∷◌, ◌++◌, refl, arith}
use Rattle.model.specs.declared.event.Answer.{Answer}
use Rattle.model.specs.declared.event.Answer.TheVariants.{Truth, Number, PoppedNone, PoppedIndex}
use Rattle.model.specs.declared.event.Event.{Event}
use Rattle.model.specs.declared.event.Event.TheVariants.{Begun, Published, Acted, Finished}
use Rattle.model.specs.declared.event.Item.TheVariants.{Index}
use Rattle.model.specs.declared.event.Start.{Start}
use Rattle.model.specs.declared.event.Start.TheVariants as starts
use Rattle.model.specs.declared.families.Registry.TheVariants as registries
use Rattle.model.specs.declared.families.queues.QueueKind.TheVariants as queues
use Rattle.model.specs.declared.families.queues.QueueStart.TheVariants.{AcquireProducer, AcquireConsumer, PushIndex, Pop, Peek, HasProducer, HasConsumer, Len}
use Rattle.model.specs.declared.turn.Kind.TheVariants as kinds
use Rattle.model.specs.Families.Queues.Promises.{IsQueue}
use Rattle.model.specs.World.{Trace}
use Rattle.wrong_runs.proofs.Machines.{machine, at_no_moment}

-- A machine of an index queue with these words (the write position, the read position, the two roles and two
-- cells) and events, in which nobody holds a role.
abbrev pub queue : List ℕ → List (Event ℕ) → Trace ℕ
queue words events =
    machine kinds.IndexQueue words (registries.Queues (record { producer = None; consumer = None })) events

abbrev pub push : ℕ → Start ℕ
push index = starts.Queues (PushIndex index)

abbrev pub pop : Start ℕ
pop = starts.Queues Pop

-- a value is published, and no push has acted
unacted : IsQueue queues.IndexQueue (queue (1 ∷ 0 ∷ 1 ∷ 1 ∷ 7 ∷ 0 ∷ []) (Published 0 (Index 7) ∷ [])) → ⊥
unacted queue = cc (queue.list)

-- a push says that an empty queue is full
full_at_once : IsQueue queues.IndexQueue (queue (0 ∷ 0 ∷ 1 ∷ 1 ∷ 0 ∷ 0 ∷ []) (Acted 0 (push 7) (Truth false) ∷ [])) → ⊥
full_at_once queue = cc (queue.moments)

-- The read position has gone on, and nothing was handed out.
read_goes_on : IsQueue queues.IndexQueue (queue (0 ∷ 1 ∷ 1 ∷ 1 ∷ 0 ∷ 0 ∷ []) []) → ⊥
read_goes_on queue = cc (queue.book.read)

-- The write position has gone on, and nothing was published.
write_goes_on : IsQueue queues.IndexQueue (queue (1 ∷ 0 ∷ 1 ∷ 1 ∷ 0 ∷ 0 ∷ []) []) → ⊥
write_goes_on queue = cc (queue.book.write)

-- another value stands in the cell than was published
other_cell : IsQueue queues.IndexQueue (queue (1 ∷ 0 ∷ 1 ∷ 1 ∷ 8 ∷ 0 ∷ []) (Published 0 (Index 7) ∷ [])) → ⊥
other_cell queue = cc (queue.book.rest)

-- three values wait in two cells
over_full : IsQueue queues.IndexQueue (queue (3 ∷ 0 ∷ 1 ∷ 1 ∷ 7 ∷ 7 ∷ []) (Published 0 (Index 7) ∷ Published 0 (Index 7) ∷ Published 0 (Index 7) ∷ [])) → ⊥
over_full queue = absurd (omega (arith, queue.book.few))

-- a pop finds nothing, while a value waits
missed : IsQueue queues.IndexQueue (queue (1 ∷ 0 ∷ 1 ∷ 1 ∷ 7 ∷ 0 ∷ []) (Published 0 (Index 7) ∷ Acted 1 pop PoppedNone ∷ [])) → ⊥
missed queue = cc (queue.answers (Published 0 (Index 7) ∷ []) [] (Acted 1 pop PoppedNone) refl)

-- a length of 1, though nothing has waited
abbrev length_of_none : List (Event ℕ)
length_of_none = Begun 0 (starts.Queues Len) ∷ Finished 0 (starts.Queues Len) (Number 1) ∷ []

-- An index queue refuses a length of 1 where no value has waited at any moment of the call.
no_length : IsQueue queues.IndexQueue (queue (0 ∷ 0 ∷ 1 ∷ 1 ∷ 0 ∷ 0 ∷ []) length_of_none) → ⊥
no_length queue =
    at_no_moment 0 _ (Begun 0 (starts.Queues Len) ∷ []) ((λ e. cc), (λ e. cc))
    (queue.lengths (Begun 0 (starts.Queues Len) ∷ []) [] (Finished 0 (starts.Queues Len) (Number 1)) refl)

-- The events of a push that is taken.
abbrev pushed : ℕ → List (Event ℕ)
pushed index = Published 0 (Index index) ∷ Acted 0 (push index) (Truth true) ∷ []

abbrev peeks : Answer ℕ → Event ℕ
peeks answer = Finished 1 (starts.Queues Peek) answer

-- a peek finds nothing, while a value waits
peeked_none : IsQueue queues.IndexQueue (queue (1 ∷ 0 ∷ 1 ∷ 1 ∷ 7 ∷ 0 ∷ []) (pushed 7 ++ peeks PoppedNone ∷ [])) → ⊥
peeked_none queue = cc (queue.lengths (pushed 7) [] (peeks PoppedNone) refl)

-- a peek answers the newest of two
peeked_newest : IsQueue queues.IndexQueue (queue (2 ∷ 0 ∷ 1 ∷ 1 ∷ 7 ∷ 8 ∷ []) ((pushed 7 ++ pushed 8) ++ peeks (PoppedIndex 8) ∷ [])) → ⊥
peeked_newest queue = cc (queue.lengths (pushed 7 ++ pushed 8) [] (peeks (PoppedIndex 8)) refl)

-- a role is refused that nobody holds
abbrev pub refused : List (Event ℕ)
refused = Finished 0 (starts.Queues AcquireProducer) (Truth false) ∷ []

-- An index queue refuses an acquire of the producer's role that answers false while nobody holds the role.
pub refused_role : IsQueue queues.IndexQueue (queue (0 ∷ 0 ∷ 1 ∷ 1 ∷ 0 ∷ 0 ∷ []) refused) → ⊥
refused_role queue = cc (queue.roles [] [] (Finished 0 (starts.Queues AcquireProducer) (Truth false)) refl)

-- a look says that nobody produces, while party 0 does
abbrev granted : List (Event ℕ)
granted = Finished 0 (starts.Queues AcquireProducer) (Truth true) ∷ []

abbrev unseen : Event ℕ
unseen = Finished 1 (starts.Queues HasProducer) (Truth false)

-- An index queue refuses a look that says that nobody has the producer's role, while party 0 has it.
unseen_producer : IsQueue queues.IndexQueue (machine kinds.IndexQueue (0 ∷ 0 ∷ 0 ∷ 1 ∷ 0 ∷ 0 ∷ [])
    (registries.Queues (record { producer = Some 0; consumer = None })) (granted ++ unseen ∷ []))
    → ⊥
unseen_producer queue = cc (queue.roles granted [] unseen refl)

-- a look says that nobody consumes, while party 0 does
abbrev consumed : List (Event ℕ)
consumed = Finished 0 (starts.Queues AcquireConsumer) (Truth true) ∷ []

abbrev overlooked : Event ℕ
overlooked = Finished 1 (starts.Queues HasConsumer) (Truth false)

-- An index queue refuses a look that says that nobody has the consumer's role, while party 0 has it.
unseen_consumer : IsQueue queues.IndexQueue (machine kinds.IndexQueue (0 ∷ 0 ∷ 1 ∷ 0 ∷ 0 ∷ 0 ∷ [])
    (registries.Queues (record { producer = None; consumer = Some 0 })) (consumed ++ overlooked ∷ []))
    → ⊥
unseen_consumer queue = cc (queue.roles consumed [] overlooked refl)

-- the machine lets a party push that was not granted the role
unnamed_producer : IsQueue queues.IndexQueue (machine kinds.IndexQueue (0 ∷ 0 ∷ 0 ∷ 1 ∷ 0 ∷ 0 ∷ [])
    (registries.Queues (record { producer = Some 0; consumer = None })) [])
    → ⊥
unnamed_producer queue = cc (queue.holders.0)
