-- `count_cells` (src/mpmc/container/counts.rt): its call of `step_count` meets what that requires, each iteration keeps the invariant of
-- its loop, and its return meets the clause `goes`.
use Rattle.lock_free_owners.proofs.Names.{◌∙◌, sym, subst, coding_by, seen}
use Rattle.steps.specs.declared.indices.robust.looks.BorrowedIndices.{BorrowedIndices}
use Rattle.lock_free_owners.specs.Container.Turns.{CountAt}
use Rattle.lock_free_owners.proofs.RobustSet.Turns.{loads_next}
use Rattle.lock_free_owners.proofs.ContainerSet.Stays.{stays_then, count_on, count_over}
use Rattle.lock_free_owners.proofs.mpmc.container.counts.count_cells.Goals as goal

-- the step of the count is about to be taken at a cell of the set
pub step_count-requires : goal.step_count-requires
step_count-requires g c = record { board = c.cells.invariant.0.board; at = (c.requires.at.0, c.cells.invariant.1 c.requires.at.0 c.requires.at.1) }

-- an iteration after which the loop goes on keeps its invariant
pub cells-preserved : goal.cells-preserved
cells-preserved g c =
    let code = coding_by g.T.Words in
    let which = g.W.Counting.which in
    let so_far = c.cells.invariant in
    let called = c.step_count in
    let next = loads_next c.args.capacity c.args.counter c.cells.cell c.cells.found called.ensures.after.0
    (sym called.ensures.after.1 ∙ c.in-GoOn.is) c.in-LoadsCell.is in (
      stays_then so_far.0 called.ensures.stays,
      λ base at. subst (λ (d : BorrowedIndices). CountAt code which base (seen called.new.seat) d tt) next.0
          (count_on code which called.ensures.goes c.in-GoOn.is (so_far.1 base at)),
    )

-- where a step leads the count to another stage, clause `goes` holds
pub returns-in_default-clause-goes : goal.returns-in_default-clause-goes
returns-in_default-clause-goes g c base at =
    count_on (coding_by g.T.Words) g.W.Counting.which c.step_count.ensures.goes c.in-GoOn.is (c.cells.invariant.1 base at)

-- where a step ends the count, clause `goes` holds of its end
pub returns-in-Done-clause-goes : goal.returns-in-Done-clause-goes
returns-in-Done-clause-goes g c base at =
    count_over (coding_by g.T.Words) g.W.Counting.which c.step_count.ensures.goes c.in-Done.is (c.cells.invariant.1 base at)
