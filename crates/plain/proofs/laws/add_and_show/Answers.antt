-- `add_and_show` (src/laws.rt): its return meets the clauses `follows` and `shows`.
use Rattle.plain.proofs.States.Called.{shown_then}
use Rattle.plain.proofs.laws.add_and_show.Goals as goal

-- its return meets the clause `follows`
pub returns-clause-follows : goal.returns-clause-follows
returns-clause-follows g c =
    (shown_then c.args.owner c.args.value c.requires.few c.requires.follows c.add-answer.ensures.map c.update_state.ensures.map
    (c.update_state.ensures.shows c.requires.settled).1).0

-- its return meets the clause `shows`
pub returns-clause-shows : goal.returns-clause-shows
returns-clause-shows g c =
    (shown_then c.args.owner c.args.value c.requires.few c.requires.follows c.add-answer.ensures.map c.update_state.ensures.map
    (c.update_state.ensures.shows c.requires.settled).1).1
