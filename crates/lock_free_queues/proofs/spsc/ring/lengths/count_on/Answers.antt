-- `count_on` (src/spsc/ring/lengths.rt): its call of `step_count` meets the requirement `at`, each iteration keeps the invariant of its
-- loop, and its return meets the clause `ends`.
use Rattle.lock_free_queues.proofs.Names.{◌∙◌, Coding, coding_by}
use Rattle.threaded.specs.Seats.{seen}
use Rattle.lock_free_queues.proofs.Queues.Measuring.{gone_on, has_ended}
use Rattle.lock_free_queues.proofs.spsc.ring.lengths.count_on.Goals as goal

-- by the invariant of the loop the count is under way (requirement `at`)
pub step_count-requires-clause-at : goal.step_count-requires-clause-at
step_count-requires-clause-at g c = (c.requires.at.0, c.loop.invariant.2 c.requires.at.0 c.requires.at.1)

-- each iteration keeps the invariant of the loop
pub loop-preserved : goal.loop-preserved
loop-preserved g c =
    let so_far = c.loop.invariant in
    let called = c.step_count in
    let code : Coding g.row.T.Denot = coding_by g.T.Words in (
      (called.ensures.same.0 ∙ so_far.0.0, called.ensures.same.1 ∙ so_far.0.1, called.ensures.same.2 ∙ so_far.0.2),
      called.ensures.board,
      λ base at. gone_on code g.E.Kind.KIND g.W.Measure.WHICH base (seen called.new.seat) c.in-GoOn.is
          (called.ensures.goes base (so_far.2 base at)),
    )

-- where the answer is `Done`, its return meets the clause `ends`
pub returns-in-Done-clause-ends : goal.returns-in-Done-clause-ends
returns-in-Done-clause-ends g c base at =
    let called = c.step_count in
    let code : Coding g.row.T.Denot = coding_by g.T.Words in
    has_ended code g.E.Kind.KIND g.W.Measure.WHICH base (seen called.new.seat) c.in-Done.is
    (called.ensures.goes base (c.loop.invariant.2 base at))
