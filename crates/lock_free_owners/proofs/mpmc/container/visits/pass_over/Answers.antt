-- `pass_over` (src/mpmc/container/visits.rt): its call of `load_cell` meets the requirement `at`, each iteration keeps the invariant of
-- its loop, and its return meets the clauses `goes` and `passed`.
use Rattle.lock_free_owners.proofs.Names.{◌∙◌, refl, sym, subst, arith, Coding, GoOn, coding_by, seen, Buffer}
use Rattle.steps.specs.declared.container.find.Find.{Find}
use Rattle.lock_free_owners.specs.Container.FindTurns.{FindAt, HasPassed}
use Rattle.lock_free_owners.proofs.ContainerSet.FindCells.{comes_own, comes_next, comes_past}
use Rattle.lock_free_owners.proofs.ContainerSet.Stays.{stays_then}
use Rattle.lock_free_owners.proofs.mpmc.container.visits.pass_over.Goals as goal

-- by the invariant of the loop the find stands at this cell (requirement `at`)
pub load_cell-stands-requires-clause-at : goal.load_cell-stands-requires-clause-at
load_cell-stands-requires-clause-at g c =
    let may = c.requires.at in
    (may.0, may.1, c.cells.invariant.goes may.0 may.1 may.2)

-- at a cell of the owner the find goes on as clause `goes` says
pub returns-then-stands-number-clause-goes : goal.returns-then-stands-number-clause-goes
returns-then-stands-number-clause-goes g c base copies began =
    let code : Coding g.row.T.Denot = coding_by g.T.Words in
    let stands = c.load_cell-stands in
    let room = c.args.room.now in
    subst (λ (d : Find g.row.T.Denot (Buffer 128)). FindAt code c.args.owner base (seen stands.new.seat) d (room, copies)) (sym c.at_stage.ensures)
    (comes_own code c.args.owner c.args.capacity c.cells.cell c.args.found
    (c.if-stands-number.true ∙ c.value-number.ensures.number)
    (stands.ensures.goes base copies (c.cells.invariant.goes base copies began)))

-- the find has come to a cell of the owner, within one operation for each cell (clause `passed`)
pub returns-then-stands-number-clause-passed : goal.returns-then-stands-number-clause-passed
returns-then-stands-number-clause-passed g c =
    let so_far = c.cells.invariant in
    let stands = c.load_cell-stands in
    let before = so_far.steps in
    let one = stands.ensures.steps in
    let up = so_far.onward in
    subst (λ (d : Find g.row.T.Denot (Buffer 128)). HasPassed c.args.capacity c.args.first c.args.found (GoOn d) (seen c.args.seat.now) (seen stands.new.seat))
    (sym c.at_stage.ensures) (refl, (so_far.onward, so_far.within, refl, omega arith))

-- behind the last cell the find has ended, as clause `goes` says
pub returns-then-cell-capacity-clause-goes : goal.returns-then-cell-capacity-clause-goes
returns-then-cell-capacity-clause-goes g c base copies began =
    let code : Coding g.row.T.Denot = coding_by g.T.Words in
    let stands = c.load_cell-stands in
    let past = c.if-cell-capacity.true in
    comes_past code c.args.owner c.args.capacity c.cells.cell c.args.found
    (λ e. c.if-stands-number.false (e ∙ sym c.value-number.ensures.number)) (omega arith)
    (stands.ensures.goes base copies (c.cells.invariant.goes base copies began))

-- the find has passed the last cell, within one operation for each cell (clause `passed`)
pub returns-then-cell-capacity-clause-passed : goal.returns-then-cell-capacity-clause-passed
returns-then-cell-capacity-clause-passed g c =
    let so_far = c.cells.invariant in
    let before = so_far.steps in
    let one = c.load_cell-stands.ensures.steps in
    let up = so_far.onward in
    let inside = so_far.within in
    let past = c.if-cell-capacity.true in
    (refl, omega arith)

-- an iteration after which the loop goes on keeps its invariant
pub cells-preserved : goal.cells-preserved
cells-preserved g c =
    let code : Coding g.row.T.Denot = coding_by g.T.Words in
    let so_far = c.cells.invariant in
    let stands = c.load_cell-stands in
    let inside = c.if-cell-capacity.false in
    let up = so_far.onward in
    let before = so_far.steps in
    let one = stands.ensures.steps in
    record {
      stays = stays_then so_far.stays stands.ensures.stays;
      within = omega arith;
      onward = omega arith;
      goes = λ base copies began.
          comes_next code c.args.owner c.args.capacity c.cells.cell c.args.found
          (λ e. c.if-stands-number.false (e ∙ sym c.value-number.ensures.number)) (omega arith)
          (stands.ensures.goes base copies (so_far.goes base copies began));
      steps = omega arith;
    }
