-- `of_overflowing_queue` (src/twins/histories.rt): its return meets the clauses `book`, `few`, `oldest`, `none`, `measured`, `producer`,
-- `pushed` and `taken`.
use Rattle.model.specs.declared.event.Answer.TheVariants.{PoppedNone}
use Rattle.model.specs.declared.event.Event.TheVariants.{Published, HandedOut, Acted, Finished}
use Rattle.model.specs.declared.event.Start.TheVariants.{Queues}
use Rattle.model.specs.declared.families.queues.QueueStart.TheVariants.{AcquireProducer, Pop, Len}
use Rattle.lock_free.specs.Coding.{one_word}
use Rattle.lock_free.specs.Queues.Overflowing.{queue_of, view}
use Rattle.uses_laws.proofs.twins.histories.of_overflowing_queue.Goals as goal

-- at each moment what was pushed is what was taken out and what waits
pub returns-clause-book : goal.returns-clause-book
returns-clause-book c before after is =
    let pass = c.args.pass.now in
    (c.overflowing_histories_are_sound.ensures one_word (queue_of pass).capacity (view pass) c.history.ensures.history).book before after is

-- at each moment at most one more than the capacity waits
pub returns-clause-few : goal.returns-clause-few
returns-clause-few c before after is =
    let pass = c.args.pass.now in
    (c.overflowing_histories_are_sound.ensures one_word (queue_of pass).capacity (view pass) c.history.ensures.history).few before after is

-- what is taken out is the oldest that waits
pub returns-clause-oldest : goal.returns-clause-oldest
returns-clause-oldest c p item before after is =
    let pass = c.args.pass.now in
    (c.overflowing_histories_are_sound.ensures one_word (queue_of pass).capacity (view pass) c.history.ensures.history).oldest before after p item is

-- a pop finds nothing only where nothing waits
pub returns-clause-none : goal.returns-clause-none
returns-clause-none c p before after is =
    let pass = c.args.pass.now in
    let sound = c.overflowing_histories_are_sound.ensures one_word (queue_of pass).capacity (view pass) c.history.ensures.history in
    sound.answers before after (Acted p (Queues Pop) PoppedNone) is

-- a length that is answered was that of a moment of the call
pub returns-clause-measured : goal.returns-clause-measured
returns-clause-measured c p answer before after is =
    let pass = c.args.pass.now in
    let sound = c.overflowing_histories_are_sound.ensures one_word (queue_of pass).capacity (view pass) c.history.ensures.history in
    sound.lengths before after (Finished p (Queues Len) answer) is

-- an acquire of the producer's role answers whether nobody had it
pub returns-clause-producer : goal.returns-clause-producer
returns-clause-producer c p answer before after is =
    let pass = c.args.pass.now in
    let sound = c.overflowing_histories_are_sound.ensures one_word (queue_of pass).capacity (view pass) c.history.ensures.history in
    sound.roles before after (Finished p (Queues AcquireProducer) answer) is

-- who pushes has the producer's role
pub returns-clause-pushed : goal.returns-clause-pushed
returns-clause-pushed c p item before after is =
    let pass = c.args.pass.now in
    let sound = c.overflowing_histories_are_sound.ensures one_word (queue_of pass).capacity (view pass) c.history.ensures.history in
    sound.holders before after (Published p item) is

-- who takes out has the producer's role or the consumer's
pub returns-clause-taken : goal.returns-clause-taken
returns-clause-taken c p item before after is =
    let pass = c.args.pass.now in
    let sound = c.overflowing_histories_are_sound.ensures one_word (queue_of pass).capacity (view pass) c.history.ensures.history in
    sound.holders before after (HandedOut p item) is
