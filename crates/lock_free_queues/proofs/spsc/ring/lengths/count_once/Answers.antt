-- `count_once` (src/spsc/ring/lengths.rt): its calls of `step_count` meet the requirement `at`, and its return meets the clause `goes`.
use Rattle.lock_free_queues.proofs.Names.{Coding, coding_by}
use Rattle.threaded.specs.Seats.{seen}
use Rattle.lock_free_queues.proofs.Queues.Measuring.{gone_on, has_ended}
use Rattle.lock_free_queues.proofs.spsc.ring.lengths.count_once.Goals as goal

-- the count is about to begin, or under way (requirement `at`)
pub step_count-one-requires-clause-at : goal.step_count-one-requires-clause-at
step_count-one-requires-clause-at g c = (seen c.args.seat.now, c.requires.at)

-- where the answer is `Done`, its return meets the clause `goes`
pub returns-in-Done-clause-goes : goal.returns-in-Done-clause-goes
returns-in-Done-clause-goes g c =
    let base = seen c.args.seat.now in
    let a = c.step_count-one in
    let code : Coding g.row.T.Denot = coding_by g.T.Words in
    has_ended code g.E.Kind.KIND g.W.Measure.WHICH base (seen a.new.seat) c.in-Done.is (a.ensures.goes base c.requires.at)

-- its second call of `step_count` meets the requirement `at`
pub step_count-two-requires-clause-at : goal.step_count-two-requires-clause-at
step_count-two-requires-clause-at g c =
    let base = seen c.args.seat.now in
    let a = c.step_count-one in
    let code : Coding g.row.T.Denot = coding_by g.T.Words in
    (base, gone_on code g.E.Kind.KIND g.W.Measure.WHICH base (seen a.new.seat) c.in-GoOn.is (a.ensures.goes base c.requires.at))

-- where the second answer is `Done`, its return meets the clause `goes`
pub returns-in-Done-two-clause-goes : goal.returns-in-Done-two-clause-goes
returns-in-Done-two-clause-goes g c =
    let base = seen c.args.seat.now in
    let a = c.step_count-one in
    let b = c.step_count-two in
    let code : Coding g.row.T.Denot = coding_by g.T.Words in
    let at = gone_on code g.E.Kind.KIND g.W.Measure.WHICH base (seen a.new.seat) c.in-GoOn.is (a.ensures.goes base c.requires.at) in
    has_ended code g.E.Kind.KIND g.W.Measure.WHICH base (seen b.new.seat) c.in-Done-two.is (b.ensures.goes base at)

-- its third call of `step_count` meets the requirement `at`
pub step_count-three-requires-clause-at : goal.step_count-three-requires-clause-at
step_count-three-requires-clause-at g c =
    let base = seen c.args.seat.now in
    let a = c.step_count-one in
    let b = c.step_count-two in
    let code : Coding g.row.T.Denot = coding_by g.T.Words in
    let at = gone_on code g.E.Kind.KIND g.W.Measure.WHICH base (seen a.new.seat) c.in-GoOn.is (a.ensures.goes base c.requires.at) in
    (base, gone_on code g.E.Kind.KIND g.W.Measure.WHICH base (seen b.new.seat) c.in-GoOn-two.is (b.ensures.goes base at))

-- where the third answer is `Done`, its return meets the clause `goes`
pub returns-in-Done-three-clause-goes : goal.returns-in-Done-three-clause-goes
returns-in-Done-three-clause-goes g c =
    let base = seen c.args.seat.now in
    let a = c.step_count-one in
    let b = c.step_count-two in
    let d = c.step_count-three in
    let code : Coding g.row.T.Denot = coding_by g.T.Words in
    let at = gone_on code g.E.Kind.KIND g.W.Measure.WHICH base (seen a.new.seat) c.in-GoOn.is (a.ensures.goes base c.requires.at) in
    let then = gone_on code g.E.Kind.KIND g.W.Measure.WHICH base (seen b.new.seat) c.in-GoOn-two.is (b.ensures.goes base at) in
    has_ended code g.E.Kind.KIND g.W.Measure.WHICH base (seen d.new.seat) c.in-Done-three.is (d.ensures.goes base then)

-- its call of `step_count` meets the requirement `at`
pub step_count-requires-clause-at : goal.step_count-requires-clause-at
step_count-requires-clause-at g c =
    let base = seen c.args.seat.now in
    let a = c.step_count-one in
    let b = c.step_count-two in
    let d = c.step_count-three in
    let code : Coding g.row.T.Denot = coding_by g.T.Words in
    let at = gone_on code g.E.Kind.KIND g.W.Measure.WHICH base (seen a.new.seat) c.in-GoOn.is (a.ensures.goes base c.requires.at) in
    let then = gone_on code g.E.Kind.KIND g.W.Measure.WHICH base (seen b.new.seat) c.in-GoOn-two.is (b.ensures.goes base at) in
    (base, gone_on code g.E.Kind.KIND g.W.Measure.WHICH base (seen d.new.seat) c.in-GoOn-three.is (d.ensures.goes base then))

-- its return meets the clause `goes`
pub returns-clause-goes : goal.returns-clause-goes
returns-clause-goes g c =
    let base = seen c.args.seat.now in
    let a = c.step_count-one in
    let b = c.step_count-two in
    let d = c.step_count-three in
    let code : Coding g.row.T.Denot = coding_by g.T.Words in
    let at = gone_on code g.E.Kind.KIND g.W.Measure.WHICH base (seen a.new.seat) c.in-GoOn.is (a.ensures.goes base c.requires.at) in
    let then = gone_on code g.E.Kind.KIND g.W.Measure.WHICH base (seen b.new.seat) c.in-GoOn-two.is (b.ensures.goes base at) in
    c.step_count.ensures.goes base
    (gone_on code g.E.Kind.KIND g.W.Measure.WHICH base (seen d.new.seat) c.in-GoOn-three.is (d.ensures.goes base then))
