-- How the measure of a call falls with its step, where the measure depends on the words alone.
use Rattle.model.proofs.Names.{After, Answer, Coding, Flight, GoOn, List, Registry, Some, World, after_of, arith}
use Rattle.model.proofs.Names.{ask_of, goes_of, inl, inr, nat_tests, old_of, set-get_or, step_count, subst, sym, true}
use Rattle.model.proofs.Names.{want_of, words_after, ℕ, ⊎_elim, ◌+◌, ◌==◌, ◌≡◌, ◌≤◌, ◌⊎◌}
use Rattle.steps.specs.declared.ask.After.TheVariants.{Done}
use Rattle.steps.specs.declared.ask.Op.TheVariants.{Load}
use Rattle.model.proofs.LockFree.Measure.{WordMeasure, of_words, Falls}

pub same_is : (n : ℕ) → (n == n) ≡ true
same_is = grind (arith, nat_tests)

-- a load leaves the words
pub load_leaves : (words : List ℕ) (w : ℕ) → words_after words (Some (record { word = w; op = Load })) ≡ words
load_leaves words w = set-get_or words w 0

module _ {T : Type 0} (M : WordMeasure T) where
  -- no call has more steps left in the new words
  abbrev pub LeavesAll : List ℕ → List ℕ → Type 0
  LeavesAll old new = (other : Flight T) → M.left new other ≤ M.left old other

  -- a step less, in words that are the same, or that cost nobody a step, or for a change less
  abbrev pub FallsThere : List ℕ → List ℕ → ℕ → Flight T → Flight T → Type 0
  FallsThere old new steps was next =
      ((new ≡ old) × (M.left old next + steps ≤ M.left old was) × (M.pays next ≤ M.pays was))
      ⊎ ((M.left new next + steps ≤ M.left old was)
      × ((LeavesAll old new × (M.pays next ≤ M.pays was)) ⊎ (M.pays next + 1 ≤ M.pays was)))

  abbrev pub FallsIn : List ℕ → List ℕ → ℕ → Flight T → After (Flight T) (Answer T) → Type 0
  FallsIn old new steps was (GoOn next) = FallsThere old new steps was next
  FallsIn old new steps was (Done answer) = Unit {0}

  -- What falls by the measure of the words alone falls by the measure of words and registry.
  falls_there : (w : World T) (p : ℕ) (new : List ℕ) (now : Registry T) (steps : ℕ) (was next : Flight T)
      → FallsThere w.words new steps was next → Falls (of_words M) w p new now steps was next
  falls_there w p new now steps was next (inl h) = (
    subst (λ ws. M.left ws next + steps ≤ M.left w.words was) (sym h.0) h.1,
    inl (λ q ne other e. subst (λ ws. M.left ws other ≤ M.left w.words other) (sym h.0) (omega arith), h.2),
  )
  falls_there w p new now steps was next (inr h) =
      (h.0, ⊎_elim (λ same. inl (λ q ne other e. same.0 other, same.1)) (λ less. inr less) h.1)

  pub falls_by : (w : World T) (p : ℕ) (new : List ℕ) (now : Registry T) (steps : ℕ) (was : Flight T) (after : After (Flight T) (Answer T))
      → FallsIn w.words new steps was after → (next : Flight T) → after ≡ GoOn next → Falls (of_words M) w p new now steps was next
  falls_by w p new now steps was after falls next leads = falls_there w p new now steps was next (subst (FallsIn w.words new steps was) leads falls)

  -- a step of a call in these words, by its own table
  abbrev pub StepFalls : Coding T → List ℕ → Flight T → Type 0
  StepFalls code words flight =
      FallsIn words (words_after words (ask_of (want_of code flight))) (step_count (ask_of (want_of code flight))) flight
      (after_of code flight (old_of words (ask_of (want_of code flight))))

  -- a step of a call in these words takes its steps off the measure, by its own table and what is kept
  abbrev pub StepFallsBy : Coding T → List ℕ → ℕ → Registry T → Flight T → Type 0
  StepFallsBy code words p kept flight =
      FallsIn words (words_after words (ask_of (want_of code flight))) (step_count (ask_of (want_of code flight))) flight
      (goes_of code p flight (old_of words (ask_of (want_of code flight))) kept)
