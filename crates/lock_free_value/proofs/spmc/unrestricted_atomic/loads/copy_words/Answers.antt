-- `copy_words` (src/spmc/unrestricted_atomic/loads.rt): its call of `step_load` meets what that requires, each iteration keeps the
-- invariant of its loop, and its return meets the clause `goes`.
use Rattle.std.proofs.Common.{◌∙◌, subst}
use Rattle.lock_free_value.proofs.Names.{at_load, first_load, After, Coding, coding_by}
use Rattle.steps.specs.declared.atomic.Load.{Load}
use Rattle.steps.specs.declared.atomic.LoadStage.{LoadStage}
use Rattle.threaded.specs.Seats.{seen}
use Rattle.lock_free_value.specs.Loads.{LoadAt, LoadNext}
use Rattle.lock_free_value.proofs.spmc.unrestricted_atomic.loads.copy_words.Goals as goal

pub step_load-requires : goal.step_load-requires
step_load-requires g c = record { board = c.words.invariant.1; at = (c.requires.at.0, c.words.invariant.2 c.requires.at.0 c.requires.at.1) }

-- after each step that loads a word of the cell the load stands at the next word
pub words-preserved : goal.words-preserved
words-preserved g c =
    let so_far = c.words.invariant in
    let called = c.step_load in
    let code : Coding g.row.T.Denot = coding_by g.T.Words in (
      (called.ensures.same.0 ∙ so_far.0.0, called.ensures.same.1 ∙ so_far.0.1, called.ensures.same.2 ∙ so_far.0.2),
      called.ensures.board,
      λ base at. subst (λ (s : LoadStage). LoadAt code g.R.Room.words_in base (seen called.new.seat) (at_load first_load s) called.new.room) c.in-LoadsCell.is
          (subst (λ (a : After (Load g.row.T.Denot g.row.R.Denot) (Unit {0})). LoadNext code g.R.Room.words_in base a
          called.new.room (seen called.new.seat))
          c.in-GoOn.is
          (called.ensures.goes base (so_far.2 base at))),
    )

-- where the load has left the words of the cell, it has gone on from where it stood as the call began
pub returns-in_default-clause-goes : goal.returns-in_default-clause-goes
returns-in_default-clause-goes g c base at =
    let called = c.step_load in
    let code : Coding g.row.T.Denot = coding_by g.T.Words in
    subst (λ (a : After (Load g.row.T.Denot g.row.R.Denot) (Unit {0})). LoadNext code g.R.Room.words_in base a
    called.new.room (seen called.new.seat))
    c.in-GoOn.is
    (called.ensures.goes base (c.words.invariant.2 base at))
