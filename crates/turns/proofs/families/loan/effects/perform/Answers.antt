-- `perform` (src/families/loan/effects.rt): its return meets the clause `kept`.
use Rattle.turns.proofs.families.loan.effects.perform.Goals as goal
use Rattle.turns.proofs.LoanBooks.{kept_as}

-- the book is the one that the step keeps
pub returns-clause-kept : goal.returns-clause-kept
returns-clause-kept g c =
    kept_as g.row.T.Denot c.args.words.now.items c.args.push c.args.number c.args.start c.args.flight.now
    c.feed-done.new.flight c.args.answer c.args.book.now c.note.new.book c.settle.new.book
    c.effect_of-effect.result c.feed-done.result c.effect_of-effect.ensures c.feed-done.ensures c.note.ensures
    c.settle.ensures
