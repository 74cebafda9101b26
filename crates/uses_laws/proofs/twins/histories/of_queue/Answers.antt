-- `of_queue` (src/twins/histories.rt): its return meets the clauses `book`, `few`, `refused`, `none`, `measured`, `producer`,
-- `consumer`, `peeked`, `looked`, `pushed` and `popped`.
use Rattle.std.proofs.Common.{false}
use Rattle.model.specs.declared.event.Answer.TheVariants.{Truth, PoppedNone}
use Rattle.model.specs.declared.event.Event.TheVariants.{Published, HandedOut, Acted, Finished}
use Rattle.model.specs.declared.event.Start.TheVariants.{Queues}
use Rattle.model.specs.declared.families.queues.QueueKind.TheVariants.{IndexQueue}
use Rattle.model.specs.declared.families.queues.QueueStart.TheVariants.{AcquireProducer, AcquireConsumer, PushIndex, Pop, Peek, HasConsumer, Len}
use Rattle.lock_free.specs.Coding.{one_word}
use Rattle.lock_free.specs.Queues.Calls.{queue_of, view}
use Rattle.uses_laws.proofs.twins.histories.of_queue.Goals as goal

-- at each moment what was pushed is what was popped and what waits
pub returns-clause-book : goal.returns-clause-book
returns-clause-book c before after is =
    let pass = c.args.pass.now in
    (c.histories_are_sound.ensures one_word IndexQueue (queue_of pass).capacity (view pass) tt c.history.ensures.history).book before after is

-- at each moment at most the capacity waits
pub returns-clause-few : goal.returns-clause-few
returns-clause-few c before after is =
    let pass = c.args.pass.now in
    (c.histories_are_sound.ensures one_word IndexQueue (queue_of pass).capacity (view pass) tt c.history.ensures.history).few before after is

-- a push is refused only where the queue is full
pub returns-clause-refused : goal.returns-clause-refused
returns-clause-refused c p index before after is =
    let pass = c.args.pass.now in
    let sound = c.histories_are_sound.ensures one_word IndexQueue (queue_of pass).capacity (view pass) tt c.history.ensures.history in
    sound.answers before after (Acted p (Queues (PushIndex index)) (Truth false)) is

-- a pop finds nothing only where nothing waits
pub returns-clause-none : goal.returns-clause-none
returns-clause-none c p before after is =
    let pass = c.args.pass.now in
    let sound = c.histories_are_sound.ensures one_word IndexQueue (queue_of pass).capacity (view pass) tt c.history.ensures.history in
    sound.answers before after (Acted p (Queues Pop) PoppedNone) is

-- a length that is answered was that of a moment of the call
pub returns-clause-measured : goal.returns-clause-measured
returns-clause-measured c p answer before after is =
    let pass = c.args.pass.now in
    let sound = c.histories_are_sound.ensures one_word IndexQueue (queue_of pass).capacity (view pass) tt c.history.ensures.history in
    sound.lengths before after (Finished p (Queues Len) answer) is

-- an acquire of the producer's role answers whether nobody had it
pub returns-clause-producer : goal.returns-clause-producer
returns-clause-producer c p answer before after is =
    let pass = c.args.pass.now in
    let sound = c.histories_are_sound.ensures one_word IndexQueue (queue_of pass).capacity (view pass) tt c.history.ensures.history in
    sound.roles before after (Finished p (Queues AcquireProducer) answer) is

-- an acquire of the consumer's role answers whether nobody had it
pub returns-clause-consumer : goal.returns-clause-consumer
returns-clause-consumer c p answer before after is =
    let pass = c.args.pass.now in
    let sound = c.histories_are_sound.ensures one_word IndexQueue (queue_of pass).capacity (view pass) tt c.history.ensures.history in
    sound.roles before after (Finished p (Queues AcquireConsumer) answer) is

-- a peek answers the oldest that waits, if any
pub returns-clause-peeked : goal.returns-clause-peeked
returns-clause-peeked c p answer before after is =
    let pass = c.args.pass.now in
    let sound = c.histories_are_sound.ensures one_word IndexQueue (queue_of pass).capacity (view pass) tt c.history.ensures.history in
    sound.lengths before after (Finished p (Queues Peek) answer) is

-- `has_consumer` answers whether somebody had the consumer's role
pub returns-clause-looked : goal.returns-clause-looked
returns-clause-looked c p answer before after is =
    let pass = c.args.pass.now in
    let sound = c.histories_are_sound.ensures one_word IndexQueue (queue_of pass).capacity (view pass) tt c.history.ensures.history in
    sound.roles before after (Finished p (Queues HasConsumer) answer) is

-- who pushes has the producer's role
pub returns-clause-pushed : goal.returns-clause-pushed
returns-clause-pushed c p item before after is =
    let pass = c.args.pass.now in
    let sound = c.histories_are_sound.ensures one_word IndexQueue (queue_of pass).capacity (view pass) tt c.history.ensures.history in
    sound.holders before after (Published p item) is

-- who pops has the consumer's role
pub returns-clause-popped : goal.returns-clause-popped
returns-clause-popped c p item before after is =
    let pass = c.args.pass.now in
    let sound = c.histories_are_sound.ensures one_word IndexQueue (queue_of pass).capacity (view pass) tt c.history.ensures.history in
    sound.holders before after (HandedOut p item) is
