-- `fill_cells` (src/mpmc/robust_unique_index_set/acquires.rt): its call of `step_acquire` meets what that requires, each iteration keeps
-- the invariant of its loop, and its return meets the clause `goes`.
use Rattle.lock_free_owners.proofs.Names.{◌∙◌, sym, subst, seen}
use Rattle.steps.specs.declared.indices.robust.acquire.Acquire.{Acquire}
use Rattle.lock_free_owners.specs.Robust.Turns.{AcquireAt, AcquireEnds}
use Rattle.lock_free_owners.proofs.RobustSet.Turns.{stays_then, gone_on, has_ended, fills_next}
use Rattle.lock_free_owners.proofs.mpmc.robust_unique_index_set.acquires.fill_cells.Goals as goal

pub step_acquire-requires : goal.step_acquire-requires
step_acquire-requires c = record { board = c.cells.invariant.0.board; at = (c.requires.at.0, c.cells.invariant.1 c.requires.at.0 c.requires.at.1) }

-- an iteration after which the loop goes on keeps its invariant
pub cells-preserved : goal.cells-preserved
cells-preserved c =
    let so_far = c.cells.invariant in
    let called = c.step_acquire in
    let owner = c.args.owner in
    let next = fills_next c.args.capacity c.args.counter c.cells.cell called.ensures.after.0
    (sym called.ensures.after.1 ∙ c.in-GoOn.is) c.in-FillsCell.is in (
      stays_then so_far.0 called.ensures.stays,
      λ base at. subst (λ (d : Acquire). AcquireAt owner base (seen called.new.seat) d tt) next.0
          (gone_on (AcquireAt owner) (AcquireEnds owner) called.ensures.goes c.in-GoOn.is (so_far.1 base at)),
    )

-- where a step leads the acquire to another stage, clause `goes` holds
pub returns-in_default-clause-goes : goal.returns-in_default-clause-goes
returns-in_default-clause-goes c base at =
    let called = c.step_acquire in
    gone_on (AcquireAt c.args.owner) (AcquireEnds c.args.owner) called.ensures.goes c.in-GoOn.is (c.cells.invariant.1 base at)

-- where a step ends the acquire, clause `goes` holds of its end
pub returns-in-Done-clause-goes : goal.returns-in-Done-clause-goes
returns-in-Done-clause-goes c base at =
    let called = c.step_acquire in
    has_ended (AcquireAt c.args.owner) (AcquireEnds c.args.owner) called.ensures.goes c.in-Done.is (c.cells.invariant.1 base at)
