-- `load_all` (src/spmc/unrestricted_atomic/loads.rt): each iteration keeps the invariant of its loop, and its return meets the clause
-- `ends`.
use Rattle.std.proofs.Common.{◌∙◌, subst}
use Rattle.lock_free_value.proofs.Names.{After, Coding, coding_by}
use Rattle.steps.specs.declared.atomic.Load.{Load}
use Rattle.threaded.specs.Seats.{seen}
use Rattle.lock_free_value.specs.Loads.{LoadNext}
use Rattle.lock_free_value.proofs.spmc.unrestricted_atomic.loads.load_all.Goals as goal

-- After each iteration the load stands at its next stage.
pub loop-preserved : goal.loop-preserved
loop-preserved g c =
    let so_far = c.loop.invariant in
    let called = c.load_next in
    let base = seen c.args.seat.now in
    let code : Coding g.row.T.Denot = coding_by g.T.Words in (
      (called.ensures.same.0 ∙ so_far.0.0, called.ensures.same.1 ∙ so_far.0.1, called.ensures.same.2 ∙ so_far.0.2),
      called.ensures.board,
      subst (λ (a : After (Load g.row.T.Denot g.row.R.Denot) (Unit {0})). LoadNext code g.R.Room.words_in base a
          called.new.room (seen called.new.seat))
          c.in-GoOn.is
          (called.ensures.goes base so_far.2),
    )

-- An iteration whose step ends the load returns, as clause `ends` says.
pub returns-in-Done-clause-ends : goal.returns-in-Done-clause-ends
returns-in-Done-clause-ends g c =
    let called = c.load_next in
    let code : Coding g.row.T.Denot = coding_by g.T.Words in
    subst (λ (a : After (Load g.row.T.Denot g.row.R.Denot) (Unit {0})). LoadNext code g.R.Room.words_in
    (seen c.args.seat.now) a called.new.room (seen called.new.seat))
    c.in-Done.is
    (called.ensures.goes (seen c.args.seat.now) c.loop.invariant.2)
