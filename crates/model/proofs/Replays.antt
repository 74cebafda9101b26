-- How a replay of calls on a sequential object goes on.
use Rattle.model.proofs.Names.{Answer, IsLegal, List, Start, [], answers_from, ap, arith, fold, fold-append, map}
use Rattle.model.proofs.Names.{map-append, refl, ◌++◌, ◌∷◌, ◌≡◌}
use Rattle.model.specs.Objects.{Object, standing}

module _ {T : Type 0} where
  -- The calls of these moments, in order.
  abbrev pub calls_of : List (Start T × Answer T) → List (Start T)
  calls_of moments = map (λ m. m.0) moments

  -- The answers at these moments, in order.
  abbrev pub answers_of : List (Start T × Answer T) → List (Answer T)
  answers_of moments = map (λ m. m.1) moments

module _ {T State : Type 0} where
  -- The answers to two lists of calls are those to the first, then those to the second from the
  -- state after the first.
  answers_more : (o : Object T State) (s : State) (calls more : List (Start T))
      → answers_from o s (calls ++ more) ≡ answers_from o s calls ++ answers_from o (fold o.after s calls) more
  answers_more o s [] more = refl
  answers_more o s (call ∷ calls) more = ap (λ xs. o.answer s call ∷ xs) (answers_more o (o.after s call) calls more)

  -- The object stands after more moments where they lead it from where it stood.
  pub standing_more : (o : Object T State) (moments more : List (Start T × Answer T)) (old new : State)
      → standing o moments ≡ old → fold o.after old (calls_of more) ≡ new
      → standing o (moments ++ more) ≡ new
  standing_more = grind (arith, fold, map-append, fold-append)

  -- Moments stay legal with more moments after them, whose answers the object gives from where it stood.
  pub legal_more : (o : Object T State) (moments more : List (Start T × Answer T)) (old : State) → IsLegal o moments
      → standing o moments ≡ old → answers_from o old (calls_of more) ≡ answers_of more
      → IsLegal o (moments ++ more)
  legal_more = grind (arith, map-append, answers_more, standing)
