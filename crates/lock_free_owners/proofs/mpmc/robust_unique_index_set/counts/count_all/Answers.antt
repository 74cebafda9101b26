-- `count_all` (src/mpmc/robust_unique_index_set/counts.rt): its call of `count_next` meets the requirement `at`, the invariant of its
-- loop holds at the start and after each iteration, and its return meets the clause `ends`.
use Rattle.lock_free_owners.proofs.Names.{sym, subst, seen}
use Rattle.lock_free_owners.specs.Robust.Turns.{CountAt, CountEnds}
use Rattle.lock_free_owners.proofs.RobustSet.Turns.{stays_then, gone_on, has_ended}
use Rattle.lock_free_owners.proofs.mpmc.robust_unique_index_set.counts.count_all.Goals as goal

-- where the first step has ended the count, clause `ends` holds of its end
pub returns-in-Done-clause-ends : goal.returns-in-Done-clause-ends
returns-in-Done-clause-ends g c =
    let base = seen c.args.seat.now in
    has_ended CountAt CountEnds c.step_count-first.ensures.goes c.in-Done.is
    (subst (λ d. CountAt base base d tt) (sym c.new.ensures) c.requires.at)

-- where `count_next` is called the count is under way
pub count_next-cells-requires-clause-at : goal.count_next-cells-requires-clause-at
count_next-cells-requires-clause-at g c =
    let base = seen c.args.seat.now in (
      base,
      gone_on CountAt CountEnds c.step_count-first.ensures.goes c.in-GoOn.is
          (subst (λ d. CountAt base base d tt) (sym c.new.ensures) c.requires.at),
    )

-- where the steps over the first cells have ended the count, clause `ends` holds of its end
pub returns-in-Done-cells-clause-ends : goal.returns-in-Done-cells-clause-ends
returns-in-Done-cells-clause-ends g c =
    let base = seen c.args.seat.now in
    let under_way = gone_on CountAt CountEnds c.step_count-first.ensures.goes c.in-GoOn.is
    (subst (λ d. CountAt base base d tt) (sym c.new.ensures) c.requires.at) in
    has_ended CountAt CountEnds c.count_next-cells.ensures.goes c.in-Done-cells.is under_way

-- the invariant of the loop holds before its first iteration
pub loop-init : goal.loop-init
loop-init g c =
    let base = seen c.args.seat.now in
    let under_way = gone_on CountAt CountEnds c.step_count-first.ensures.goes c.in-GoOn.is
    (subst (λ d. CountAt base base d tt) (sym c.new.ensures) c.requires.at) in (
      stays_then c.step_count-first.ensures.stays c.count_next-cells.ensures.stays,
      gone_on CountAt CountEnds c.count_next-cells.ensures.goes c.in-GoOn-cells.is under_way,
    )

-- an iteration after which the loop goes on keeps its invariant
pub loop-preserved : goal.loop-preserved
loop-preserved g c =
    let so_far = c.loop.invariant in
    let called = c.count_next-after in (
      stays_then so_far.0 called.ensures.stays,
      gone_on CountAt CountEnds called.ensures.goes c.in-GoOn-after.is so_far.1,
    )

-- where the steps of an iteration have ended the count, clause `ends` holds of its end
pub returns-in-Done-after-clause-ends : goal.returns-in-Done-after-clause-ends
returns-in-Done-after-clause-ends g c =
    let called = c.count_next-after in
    has_ended CountAt CountEnds called.ensures.goes c.in-Done-after.is c.loop.invariant.1
