-- `count_all` (src/mpmc/container/counts.rt): its call of `step_count` meets the requirement `at`, that of `count_next` the requirement
-- `at`, the invariant of its loop holds at the start and after each iteration, and its return meets the clause `ends`.
use Rattle.lock_free_owners.proofs.Names.{coding_by, seen}
use Rattle.lock_free_owners.proofs.ContainerSet.Stays.{stays_then, count_as, count_on, count_over}
use Rattle.lock_free_owners.proofs.mpmc.container.counts.count_all.Goals as goal

-- the count is about to begin (requirement `at`)
pub step_count-first-requires-clause-at : goal.step_count-first-requires-clause-at
step_count-first-requires-clause-at g c = (seen c.args.seat.now, count_as (coding_by g.T.Words) g.W.Counting.which c.new.ensures c.requires.at)

-- where the first step has ended the count, clause `ends` holds of its end
pub returns-in-Done-clause-ends : goal.returns-in-Done-clause-ends
returns-in-Done-clause-ends g c =
    let code = coding_by g.T.Words in
    let which = g.W.Counting.which in
    count_over code which c.step_count-first.ensures.goes c.in-Done.is (count_as code which c.new.ensures c.requires.at)

-- where `count_next` is called the count is under way
pub count_next-cells-requires-clause-at : goal.count_next-cells-requires-clause-at
count_next-cells-requires-clause-at g c =
    let code = coding_by g.T.Words in
    let which = g.W.Counting.which in
    (seen c.args.seat.now, count_on code which c.step_count-first.ensures.goes c.in-GoOn.is (count_as code which c.new.ensures c.requires.at))

-- where the steps over the first cells have ended the count, clause `ends` holds of its end
pub returns-in-Done-cells-clause-ends : goal.returns-in-Done-cells-clause-ends
returns-in-Done-cells-clause-ends g c =
    let code = coding_by g.T.Words in
    let which = g.W.Counting.which in
    count_over code which c.count_next-cells.ensures.goes c.in-Done-cells.is
    (count_on code which c.step_count-first.ensures.goes c.in-GoOn.is (count_as code which c.new.ensures c.requires.at))

-- the invariant of the loop holds before its first iteration
pub loop-init : goal.loop-init
loop-init g c =
    let code = coding_by g.T.Words in
    let which = g.W.Counting.which in (
      stays_then c.step_count-first.ensures.stays c.count_next-cells.ensures.stays,
      count_on code which c.count_next-cells.ensures.goes c.in-GoOn-cells.is
          (count_on code which c.step_count-first.ensures.goes c.in-GoOn.is (count_as code which c.new.ensures c.requires.at)),
    )

-- an iteration after which the loop goes on keeps its invariant
pub loop-preserved : goal.loop-preserved
loop-preserved g c =
    let so_far = c.loop.invariant in
    let called = c.count_next-after.ensures in (
      stays_then so_far.0 called.stays,
      count_on (coding_by g.T.Words) g.W.Counting.which called.goes c.in-GoOn-after.is so_far.1,
    )

-- where the steps of an iteration have ended the count, clause `ends` holds of its end
pub returns-in-Done-after-clause-ends : goal.returns-in-Done-after-clause-ends
returns-in-Done-after-clause-ends g c =
    count_over (coding_by g.T.Words) g.W.Counting.which c.count_next-after.ensures.goes c.in-Done-after.is c.loop.invariant.1
