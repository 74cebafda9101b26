-- The small sequential objects that calls answer as.
use Rattle.std.specs.Prelude.{◌≡◌, List, [], ◌∷◌, fold, map}
use Rattle.model.specs.declared.event.Start.{Start}
use Rattle.model.specs.declared.event.Answer.{Answer}

-- A sequential object: its first state, and for each call what the state is after it and what it answers.
pub record Object (T State : Type 0) : Type 0 where
  pub opening : State
  pub after : State → Start T → State
  pub answer : State → Start T → Answer T

module _ {T State : Type 0} where
  -- what the object answers to these calls, one after another, from this state on
  abbrev pub answers_from : Object T State → State → List (Start T) → List (Answer T)
  answers_from o s [] = []
  answers_from o s (call ∷ calls) = o.answer s call ∷ answers_from o (o.after s call) calls

  -- the calls at these moments, run on the object from its opening, give these answers
  abbrev pub IsLegal : Object T State → List (Start T × Answer T) → Type 0
  IsLegal o moments = answers_from o o.opening (map (λ m. m.0) moments) ≡ map (λ m. m.1) moments

  -- the object's state after the calls at these moments
  abbrev pub standing : Object T State → List (Start T × Answer T) → State
  standing o moments = fold o.after o.opening (map (λ m. m.0) moments)
