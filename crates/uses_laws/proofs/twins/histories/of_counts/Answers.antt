-- `of_counts` (src/twins/histories.rt): each answer about counts in the history is right.
use Rattle.lock_free.specs.Coding.{one_word}
use Rattle.lock_free.specs.Sets.Calls.{history, set_of}
use Rattle.uses_laws.proofs.twins.histories.of_counts.Goals as goal

-- each answer about counts is right
pub returns : goal.returns
returns c =
    let pass = c.args.pass.now in
    c.count_answers_are_right.ensures one_word (set_of pass).capacity (history pass) c.history.ensures.history
