-- `count_all` (src/spsc/ring/lengths.rt): its call of `count_on` meets the requirement `at`, and its return meets the clause `ends`.
use Rattle.lock_free_queues.proofs.Names.{Coding, coding_by}
use Rattle.threaded.specs.Seats.{seen}
use Rattle.lock_free_queues.proofs.Queues.Measuring.{gone_on, has_ended}
use Rattle.lock_free_queues.proofs.spsc.ring.lengths.count_all.Goals as goal

-- its call of `count_on` meets the requirement `at`
pub count_on-requires-clause-at : goal.count_on-requires-clause-at
count_on-requires-clause-at g c =
    let base = seen c.args.seat.now in
    let once = c.count_once-once in
    let code : Coding g.row.T.Denot = coding_by g.T.Words in
    (base, gone_on code g.E.Kind.KIND g.W.Measure.WHICH base (seen once.new.seat) c.in-GoOn.is once.ensures.goes)

-- where the answer is `GoOn`, its return meets the clause `ends`
pub returns-in-GoOn-clause-ends : goal.returns-in-GoOn-clause-ends
returns-in-GoOn-clause-ends g c =
    let base = seen c.args.seat.now in
    let once = c.count_once-once in
    let code : Coding g.row.T.Denot = coding_by g.T.Words in
    c.count_on.ensures.ends base
    (gone_on code g.E.Kind.KIND g.W.Measure.WHICH base (seen once.new.seat) c.in-GoOn.is once.ensures.goes)

-- where the answer is `Done`, its return meets the clause `ends`
pub returns-in-Done-clause-ends : goal.returns-in-Done-clause-ends
returns-in-Done-clause-ends g c =
    let once = c.count_once-once in
    let code : Coding g.row.T.Denot = coding_by g.T.Words in
    has_ended code g.E.Kind.KIND g.W.Measure.WHICH (seen c.args.seat.now) (seen once.new.seat) c.in-Done.is once.ensures.goes
