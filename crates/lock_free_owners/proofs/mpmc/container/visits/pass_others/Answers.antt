-- `pass_others` (src/mpmc/container/visits.rt): its call of `pass_over` meets the requirement `at`, and its return meets the clause
-- `goes`.
use Rattle.lock_free_owners.proofs.Names.{sym, subst, Coding, coding_by, seen}
use Rattle.steps.specs.declared.container.find.FindStage.{FindStage}
use Rattle.lock_free_owners.specs.Container.FindTurns.{FindMay, FindPasses}
use Rattle.lock_free_owners.proofs.mpmc.container.visits.pass_others.Goals as goal

-- A find at a cell is at the stage that `pass_over` requires.
pub pass_over-requires-clause-at : goal.pass_over-requires-clause-at
pass_over-requires-clause-at g c =
    let code : Coding g.row.T.Denot = coding_by g.T.Words in
    subst (λ (stage : FindStage). FindMay code c.args.owner (seen c.args.seat.now) (record c.args.call { stage = stage }) c.args.room.now)
    c.in-LoadsCell.is c.requires.at

-- where the find stood at a cell, its steps over cells lead on as clause `goes` says
pub returns-in-LoadsCell-clause-goes : goal.returns-in-LoadsCell-clause-goes
returns-in-LoadsCell-clause-goes g c =
    let code : Coding g.row.T.Denot = coding_by g.T.Words in
    subst (λ (stage : FindStage). FindPasses code c.args.owner (seen c.args.seat.now) (record c.args.call { stage = stage })
    c.args.room.now c.pass_over.result (seen c.pass_over.new.seat))
    (sym c.in-LoadsCell.is) c.pass_over.ensures.goes
