-- `pop_of_all` (src/twins/queues.rt): its return meets the clauses `emptied` and `seen`.
use Rattle.std.proofs.Common.{IfNone, subst}
use Rattle.model.specs.declared.families.queues.QueueKind.TheVariants.{IndexQueue}
use Rattle.lock_free.specs.Coding.{one_word}
use Rattle.lock_free.specs.Queues.Calls.{consumer_queue, consumer_view}
use Rattle.lock_free.specs.Queues.Contracts.{PopEmpty}
use Rattle.uses_laws.proofs.twins.queues.pop_of_all.Goals as goal

-- where the pop found nothing, all that was published was taken out
pub returns-clause-emptied : goal.returns-clause-emptied
returns-clause-emptied c none =
    let old = consumer_view c.args.consumer.now in
    let new = consumer_view c.pop-popped.new.self in
    let empty : PopEmpty old new = subst (λ r. IfNone r (PopEmpty old new)) none c.pop-popped.ensures.empty in
    (c.emptied_is_all.ensures one_word IndexQueue (consumer_queue c.pop-popped.new.self).capacity old new c.requires.whole c.requires.all
    c.pop-popped.ensures.same.goes c.history.ensures.history empty.0).1

-- where the pop found nothing, each position that was seen to be published lay below the number of
-- those that were seen to be taken out
pub returns-clause-seen : goal.returns-clause-seen
returns-clause-seen c none p position item known =
    let old = consumer_view c.args.consumer.now in
    let new = consumer_view c.pop-popped.new.self in
    let empty : PopEmpty old new = subst (λ r. IfNone r (PopEmpty old new)) none c.pop-popped.ensures.empty in
    c.refusals_are_right.ensures.empty old new empty.1 p position item known
