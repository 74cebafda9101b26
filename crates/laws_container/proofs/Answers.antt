-- What a container's answers say: by a counter that may come to its end later; and, where it is not at its
-- end and the run is honest, in the words of a machine whose owners die.
use Rattle.std.proofs.Common.{arith}
use Rattle.laws_container.proofs.Names.{inl, inr, ℕ, List, ReleaseMode}
use Rattle.laws_container.proofs.Names.{Event, AsksRight}
use Rattle.laws_container.proofs.Names.{FreedRight, RecoversRight, AnswersRight, FilledSinceEach, Each, Span}
use Rattle.laws_container.proofs.Names.{GoneBy, Death, IsHonestBy, honest_less}
use Rattle.laws_container.specs.Gone.{AsksBy, FreedBy, RecoversBy, FilledSinceEachBy, AnswersBy}

module _ {T : Type 0} where
  -- a counter at its end stays at its end
  module _ (worn worn' : Type 0) (on : worn → worn') where
    pub each_on : (mode : ReleaseMode) (p owner : ℕ) (events : List (Event T))
        → FilledSinceEachBy worn mode p owner events → FilledSinceEachBy worn' mode p owner events
    each_on = grind (arith, inl, inr)

    -- an answer that is right is right still when the counter comes to its end
    still_right : (by : GoneBy) (c : ℕ) (before : List (Event T)) (e : Event T) → AnswersBy by worn c before e → AnswersBy by worn' c before e
    still_right = grind (arith, inl, inr, each_on)

    -- answers that are right are right still when the counter comes to its end
    pub answers_on : (by : GoneBy) (c : ℕ) (events : List (Event T)) → Each (AnswersBy by worn c) events → Each (AnswersBy by worn' c) events
    answers_on by c events answers before after e is = still_right by c before e (answers before after e is)

  -- ---- in an honest run whose counter is not at its end

  -- the counter is not at its end
  module _ (worn : Type 0) (not_worn : worn → ⊥) where
    each_right : (mode : ReleaseMode) (p owner : ℕ) (events : List (Event T)) → FilledSinceEachBy worn mode p owner events → FilledSinceEach mode p owner events
    each_right = grind arith

    -- in an honest run an answer is right in the words of the promise
    answer_right : (by : GoneBy) (c : ℕ) (before : List (Event T)) (e : Event T) → IsHonestBy by before → AnswersBy by worn c before e → AnswersRight c before e
    answer_right = grind (arith, each_right)

    -- in an honest run all answers are right in the words of the promise
    pub answers_right : (by : GoneBy) (c : ℕ) (events : List (Event T)) → IsHonestBy by events
        → Each (AnswersBy by worn c) events → Each (AnswersRight c) events
    answers_right = grind (arith, answer_right, honest_less)

  -- ---- where owners die

  -- a question is right in the words of the promise, where owners die
  ask_right : (before : List (Event T)) (e : Event T) → AsksBy Death before e → AsksRight before e
  ask_right = grind arith

  pub asks_right : (events : List (Event T)) → Each (AsksBy Death) events → Each AsksRight events
  asks_right events asks before after e is = ask_right before e (asks before after e is)

  freed_right : (p i o : ℕ) (before : List (Event T)) (span : Span T) → FreedBy Death p i o before span → FreedRight p i o before span
  freed_right = grind arith

  -- what a recovery frees is right in the words of the promise, where owners die
  recover_right : (before : List (Event T)) (e : Event T) → RecoversBy Death before e → RecoversRight before e
  recover_right = grind (arith, freed_right)

  pub recovers_right : (events : List (Event T)) → Each (RecoversBy Death) events → Each RecoversRight events
  recovers_right events recovers before after e is = recover_right before e (recovers before after e is)
