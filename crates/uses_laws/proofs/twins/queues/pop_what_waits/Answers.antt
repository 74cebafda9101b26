-- `pop_what_waits` (src/twins/queues.rt): its return meets the clauses `found`, `next`, `below` and `counted`.
use Rattle.std.proofs.Common.{IfSome, subst}
use Rattle.lock_free.specs.Queues.Calls.{consumer_view}
use Rattle.lock_free.specs.Queues.Contracts.{PopDone}
use Rattle.lock_free.specs.Queues.Item.TheVariants.{Index}
use Rattle.uses_laws.proofs.twins.queues.pop_what_waits.Goals as goal

pub returns-clause-found : goal.returns-clause-found
returns-clause-found c =
    c.pops_succeed.ensures c.pop.result (consumer_view c.args.consumer.now) (consumer_view c.pop.new.self) c.requires c.pop.ensures.empty

-- the number was taken from the position right after all that were seen to be taken
pub returns-clause-next : goal.returns-clause-next
returns-clause-next c number is =
    let old = consumer_view c.args.consumer.now in
    let new = consumer_view c.pop.new.self in
    let done : PopDone (Index number) old new = subst (λ r. IfSome r (λ x. PopDone (Index x) old new)) is c.pop.ensures.popped in
    c.positions_rise.ensures.taken (Index number) old new done.1

pub returns-clause-below : goal.returns-clause-below
returns-clause-below c p position item known =
    c.positions_rise.ensures.below (consumer_view c.args.consumer.now) p position item known

-- the pass counts one more as taken out by itself
pub returns-clause-counted : goal.returns-clause-counted
returns-clause-counted c number is =
    let old = consumer_view c.args.consumer.now in
    let new = consumer_view c.pop.new.self in
    let done : PopDone (Index number) old new = subst (λ r. IfSome r (λ x. PopDone (Index x) old new)) is c.pop.ensures.popped in
    (c.calls_are_counted.ensures.popped (Index number) old new done.0).gets_more
