-- `pass_over` (src/mpmc/container/recovery.rt): its call of `load_cell` meets the requirement `at`, each iteration keeps the invariant
-- of its loop, and its return meets the clause `goes`.
use Rattle.lock_free_owners.proofs.Names.{◌∙◌, sym, subst, arith, Coding, coding_by, seen, Buffer}
use Rattle.steps.specs.declared.container.recover.Recover.{Recover}
use Rattle.lock_free_owners.specs.Container.RecoverTurns.{RecoverAt}
use Rattle.lock_free_owners.proofs.ContainerSet.RecoverCells.{comes_own, comes_next, comes_past}
use Rattle.lock_free_owners.proofs.ContainerSet.Stays.{stays_then}
use Rattle.lock_free_owners.proofs.mpmc.container.recovery.pass_over.Goals as goal

-- by the invariant of the loop the recovery stands at this cell (requirement `at`)
pub load_cell-found-requires-clause-at : goal.load_cell-found-requires-clause-at
load_cell-found-requires-clause-at g c =
    let may = c.requires.at in
    (may.0, may.1, c.cells.invariant.goes may.0 may.1 may.2)

-- at a cell of the owner the recovery goes on as clause `goes` says
pub returns-then-found-owner-clause-goes : goal.returns-then-found-owner-clause-goes
returns-then-found-owner-clause-goes g c base visits began =
    let code : Coding g.row.T.Denot = coding_by g.T.Words in
    let found = c.load_cell-found in
    let given = c.args.given.now in
    let room = c.args.room.now in
    subst (λ (d : Recover g.row.T.Denot (Buffer 128)). RecoverAt code given base (seen found.new.seat) d (room, visits)) (sym c.at_stage.ensures)
    (comes_own code given c.args.capacity c.cells.cell
    (c.if-found-owner.true ∙ c.value-owner.ensures.number)
    (found.ensures.goes base visits (c.cells.invariant.goes base visits began)))

-- behind the last cell the recovery goes on as clause `goes` says
pub returns-then-cell-capacity-clause-goes : goal.returns-then-cell-capacity-clause-goes
returns-then-cell-capacity-clause-goes g c base visits began =
    let code : Coding g.row.T.Denot = coding_by g.T.Words in
    let found = c.load_cell-found in
    let given = c.args.given.now in
    let room = c.args.room.now in
    let past = c.if-cell-capacity.true in
    subst (λ (d : Recover g.row.T.Denot (Buffer 128)). RecoverAt code given base (seen found.new.seat) d (room, visits))
    (sym c.at_stage-then-cell-capacity.ensures)
    (comes_past code given c.args.capacity c.cells.cell
    (λ e. c.if-found-owner.false (e ∙ sym c.value-owner.ensures.number)) (omega arith)
    (found.ensures.goes base visits (c.cells.invariant.goes base visits began)))

-- an iteration after which the loop goes on keeps its invariant
pub cells-preserved : goal.cells-preserved
cells-preserved g c =
    let code : Coding g.row.T.Denot = coding_by g.T.Words in
    let so_far = c.cells.invariant in
    let found = c.load_cell-found in
    let inside = c.if-cell-capacity.false in
    let up = so_far.onward in
    record {
      stays = stays_then so_far.stays found.ensures.stays;
      within = omega arith;
      onward = omega arith;
      goes = λ base visits began.
          comes_next code c.args.given.now c.args.capacity c.cells.cell
          (λ e. c.if-found-owner.false (e ∙ sym c.value-owner.ensures.number)) (omega arith)
          (found.ensures.goes base visits (so_far.goes base visits began));
    }
