-- A call with what it was given and its room, as one value.
use Rattle.steps.specs.declared.ask.Question.{Question}
use Rattle.steps.specs.declared.ask.Question.TheVariants as questions
use Rattle.steps.specs.declared.ask.Want.{Want}
use Rattle.steps.specs.declared.ask.Want.TheVariants as wants
use Rattle.steps.specs.declared.ask.After.{After}
use Rattle.steps.specs.declared.ask.After.TheVariants.{GoOn, Done}
use Rattle.steps.specs.declared.routine.Running.{Running}

module _ {V : Type 0} where
  -- the question about a value, with the value itself in it
  abbrev pub question_with : V → Question (Unit {0}) → Question V
  question_with value (questions.Index index) = questions.Index index
  question_with value (questions.Owned owner index) =
      questions.Owned owner index
  question_with value (questions.Value index unit) =
      questions.Value index value

  -- a question about a value is about this one
  abbrev pub want_with : V → Want (Unit {0}) → Want V
  want_with value (wants.Ask ask) = wants.Ask ask
  want_with value (wants.Question question) =
      wants.Question (question_with value question)
  want_with value wants.Nothing = wants.Nothing

-- the call goes on with what it was given and its room, or makes its answer from both
abbrev pub went_on : {C G M E A : Type 0} → (E → G → M → A) → G → M → After C E
    → After (Running C G M) A
went_on answer_of given room (GoOn call) = GoOn (record { call = call; given = given; room = room })
went_on answer_of given room (Done end) = Done (answer_of end given room)
