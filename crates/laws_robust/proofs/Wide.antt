-- No turn changes how many words a machine has, so a robust set has one word for its counter
-- and one for each cell.
use Rattle.laws_robust.proofs.Names.{◌≡◌, ℕ, ◌+◌, Bool, Option, Some, None, length, refl, ◌∙◌, arith}
use Rattle.laws_robust.proofs.Names.{length-replicate, empty, Ask, Start, Flight, Doing, Party, Turn, first_of}
use Rattle.laws_robust.proofs.Names.{opening_words, number_of, after_begin, after_answer, after_next, after_decision}
use Rattle.laws_robust.proofs.Names.{world_after, World, Trace}
use Rattle.model.specs.declared.turn.Kind.TheVariants as kinds
use Rattle.model.specs.Open.{open_refusal, IsReachedOpen}
use Rattle.model.proofs.Counts.{as_long}
use Rattle.model.proofs.Reached.{kept_by}

-- an opened set has a word for its counter and one for each index
opening_wide : (c : ℕ) → length (opening_words c) ≡ c + 1
opening_wide c = let long = length-replicate {A = ℕ} c empty in omega arith

module _ {T : Type 0} where
  -- an answer to a call leaves the number of words
  answer_wide : (w : World T) (p : ℕ) (x : Party T) (ask : Option Ask) (answer : ℕ) (doing : Doing T)
      → length (after_answer w p x ask answer doing).words ≡ length w.words
  answer_wide = grind (arith, as_long)

  -- the begin of a call leaves the number of words
  begin_wide : (w : World T) (p : ℕ) (start : Start T) (o : Option (Flight T)) → length (after_begin w p start o).words ≡ length w.words
  begin_wide w p start None = refl
  begin_wide w p start (Some flight) = refl

  -- a step leaves the number of words
  next_wide : (w : World T) (p : ℕ) (o : Option (Party T)) → length (after_next w p o).words ≡ length w.words
  next_wide = grind (arith, answer_wide)

  -- a decision leaves the number of words
  decision_wide : (w : World T) (p : ℕ) (said : Bool) (o : Option (Party T)) → length (after_decision w p said o).words ≡ length w.words
  decision_wide w p said None = refl
  decision_wide w p said (Some x) = answer_wide w p x None (number_of said) x.doing

  -- no turn changes the number of words
  turn_wide : (w : World T) (turn : Turn T) → length (world_after w turn).words ≡ length w.words
  turn_wide = grind (arith, begin_wide, first_of, next_wide, decision_wide)

  -- wherever an open run leads, a robust set has one word more than its capacity
  pub reached_open_wide : (t : Trace T) → t.world.kind ≡ kinds.Robust → IsReachedOpen t → length t.world.words ≡ t.world.capacity + 1
  reached_open_wide t kind_is reached_open =
      let world = t.world in
      kept_by {T = T} open_refusal (λ u. length u.world.words ≡ world.capacity + 1) (λ u turn e h. turn_wide u.world turn ∙ h) t
      (rw kind_is (opening_wide world.capacity))
      reached_open
