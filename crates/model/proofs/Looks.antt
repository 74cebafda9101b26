-- The calls that only look change no word. Most of them only load. The exchange of a load of the single value puts the version
-- back that it found.
use Rattle.model.proofs.Names.{Bool, Coding, Exchange, Flight, List, Some, ap, arith, ask_of, false, get_or, nat_tests}
use Rattle.model.proofs.Names.{refl, set, set-get_or, sym, true, words_after, ℕ, ◌==◌, ◌∙◌, ◌≡◌}
use Rattle.steps.specs.declared.atomic.LoadStage.{LoadStage}
use Rattle.steps.specs.declared.queues.lengths.LenStage.{LenStage}
use Rattle.steps.specs.declared.queues.peek.PeekStage.{PeekStage}
use Rattle.steps.specs.Atomic.{load_asks}
use Rattle.steps.specs.Queues.Lengths.{len_asks}
use Rattle.steps.specs.Queues.Peek.{peek_asks}
use Rattle.steps.specs.Queues.Ring as ring
use Rattle.model.specs.Progress.{Looks, ChangesNothing}

by_len : (words : List ℕ) (stage : LenStage) → words_after words (ask_of (len_asks stage)) ≡ words
by_len = grind (arith, set-get_or)

by_peek : (words : List ℕ) (stage : PeekStage) → words_after words (ask_of (peek_asks stage)) ≡ words
by_peek = grind (arith, set-get_or)

-- one load
by_look : (words : List ℕ) (word : ℕ) → words_after words (ask_of (ring.load word)) ≡ words
by_look words word = set-get_or words word 0

-- The exchange of a version for itself leaves the words as they are.
by_check : (words : List ℕ) (version : ℕ) → words_after words (Some (record { word = 0; op = Exchange version version })) ≡ words
by_check words version = go (get_or words 0 0 == version) refl
  where
    -- The cases are whether the version is the one that the load expects.
    go : (b : Bool) → (get_or words 0 0 == version) ≡ b → words_after words (Some (record { word = 0; op = Exchange version version })) ≡ words
    go true test =
        let same : get_or words 0 0 ≡ version = grind (arith, nat_tests) in
        rw test (ap (set words 0) (sym same) ∙ set-get_or words 0 0)
    go false test = rw test (set-get_or words 0 0)

by_load : (words : List ℕ) (stage : LoadStage) → words_after words (ask_of (load_asks stage)) ≡ words
by_load = grind (arith, set-get_or, by_check)

module _ {T : Type 0} where
  pub looks_change_nothing : (code : Coding T) (flight : Flight T) → Looks flight → ChangesNothing code flight
  looks_change_nothing = grind (arith, by_len, by_peek, by_look, by_load)
