-- Loads and exchanges of a word, and what they leave of the words.
use Rattle.model.proofs.Names.{◌≡◌, ◌≢◌, ℕ, List, Some, Ask, get_or, set, words_after, arith, eq-eqb, ne_eqb, set-get_or}
use Rattle.steps.specs.declared.ask.Op.TheVariants.{Load, Exchange}

-- a load of a word
abbrev pub loads : ℕ → Ask
loads word = record { word = word; op = Load }

-- an exchange of a word
abbrev pub exchanges : ℕ → ℕ → ℕ → Ask
exchanges word from to = record { word = word; op = Exchange from to }

-- a load leaves the words
pub loads_same : (words : List ℕ) (word : ℕ) → words_after words (Some (loads word)) ≡ words
loads_same words word = set-get_or words word 0

-- an exchange that finds another value changes nothing
pub fails_same : (words : List ℕ) (word from to : ℕ) → get_or words word 0 ≢ from → words_after words (Some (exchanges word from to)) ≡ words
fails_same = grind (arith, set, ne_eqb, set-get_or)

-- an exchange whose word has the expected value sets it
pub exchange_sets : (words : List ℕ) (word from to : ℕ) → get_or words word 0 ≡ from → words_after words (Some (exchanges word from to)) ≡ set words word to
exchange_sets = grind (arith, set, eq-eqb)
