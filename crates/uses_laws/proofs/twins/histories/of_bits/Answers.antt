-- `of_bits` (src/twins/histories.rt): its return meets the clauses `set`, `cleared` and `answers`.
use Rattle.model.specs.declared.event.Event.TheVariants.{Set, Cleared}
use Rattle.lock_free.specs.Coding.{one_word}
use Rattle.lock_free.specs.Sets.Calls.{history, set_of}
use Rattle.uses_laws.proofs.twins.histories.of_bits.Goals as goal

-- a bit is set only where it does not stand
pub returns-clause-set : goal.returns-clause-set
returns-clause-set c p bit before after is =
    let pass = c.args.pass.now in
    c.bits_change_in_turn.ensures one_word (set_of pass).capacity (history pass) c.history.ensures.history before after (Set p bit) is

-- a bit is cleared only where it stands
pub returns-clause-cleared : goal.returns-clause-cleared
returns-clause-cleared c p bit before after is =
    let pass = c.args.pass.now in
    c.bits_change_in_turn.ensures one_word (set_of pass).capacity (history pass) c.history.ensures.history before after (Cleared p bit) is

-- each answer about bits is right
pub returns-clause-answers : goal.returns-clause-answers
returns-clause-answers c =
    let pass = c.args.pass.now in
    c.bit_answers_are_right.ensures one_word (set_of pass).capacity (history pass) c.history.ensures.history
