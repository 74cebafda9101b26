-- `push_with_room` (src/twins/queues.rt): its return meets the clauses `taken`, `next`, `above` and `counted`.
use Rattle.lock_free.specs.Queues.Calls.{producer_queue, producer_view}
use Rattle.lock_free.specs.Queues.Item.TheVariants.{Index}
use Rattle.uses_laws.proofs.twins.queues.push_with_room.Goals as goal

pub returns-clause-taken : goal.returns-clause-taken
returns-clause-taken c =
    let start = c.args.producer.now in
    c.pushes_succeed.ensures.seen (producer_queue start).capacity (Index c.args.number) c.push.result (producer_view start)
    (producer_view c.push.new.self) c.requires.room c.requires.few c.push.ensures.full

pub returns-clause-next : goal.returns-clause-next
returns-clause-next c is =
    c.positions_rise.ensures.published (Index c.args.number) (producer_view c.args.producer.now) (producer_view c.push.new.self)
    (c.push.ensures.pushed is).1

pub returns-clause-above : goal.returns-clause-above
returns-clause-above c p position item known =
    c.positions_rise.ensures.above (producer_view c.args.producer.now) p position item known

pub returns-clause-counted : goal.returns-clause-counted
returns-clause-counted c is =
    (c.calls_are_counted.ensures.pushed (Index c.args.number) (producer_view c.args.producer.now) (producer_view c.push.new.self)
    (c.push.ensures.pushed is).0).puts_more
