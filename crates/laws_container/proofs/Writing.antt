-- The steps of a call that may write at an index, an add or a replace: the operations by which it counts,
-- stores and hides, and the words that they leave.
use Rattle.laws_container.proofs.Names.{◌≡◌, ℕ, ◌%◌, ◌<◌, false, true, Some, List, set, refl, arith}
use Rattle.laws_container.proofs.Names.{nat_tests, Ask, change_word, count_word, is_even, one_more, words_after}
use Rattle.laws_container.proofs.Names.{exchanges, exchange_sets}
use Rattle.steps.specs.declared.ask.Op.TheVariants.{Add, Store}
use Rattle.laws_container.proofs.Invariant.{Scene, Inv, before}
use Rattle.laws_container.proofs.Turns.{count_in, change_in}

-- the operation that adds 1 to a word
abbrev pub adds_one : ℕ → Ask
adds_one word = record { word = word; op = Add 1 }

-- the operation that stores a value to a word
abbrev pub stores_to : ℕ → ℕ → Ask
stores_to word new = record { word = word; op = Store new }

-- an even number leaves no rest, and an odd one leaves 1
pub even_is : (n : ℕ) → is_even n ≡ true → n % 2 ≡ 0
even_is n even = grind (arith, nat_tests)

pub odd_is : (n : ℕ) → is_even n ≡ false → n % 2 ≡ 1
odd_is n odd = grind arith

module _ {T : Type 0} {scene : Scene T} (inv : Inv scene) where
  open scene use {coding as code, capacity as c}

  abbrev ws : List ℕ
  ws = scene.words

  -- the operation that adds 1 to the number of an element writes the next number
  pub adds_to_count : (i : ℕ) → i < c
      → words_after ws (Some (adds_one (count_word c i))) ≡ set ws (count_word c i) (one_more (count_in code c (before scene) i))
  adds_to_count i below = refl

  pub adds_to_change : words_after ws (Some (adds_one (change_word c))) ≡ set ws (change_word c) (one_more (change_in code c (before scene)))
  adds_to_change = refl

  -- the exchange that finds the loaded number of an element writes the next number
  pub hides_count : (i count : ℕ) → i < c → count_in code c (before scene) i ≡ count
      → words_after ws (Some (exchanges (count_word c i) count (one_more count)))
      ≡ set ws (count_word c i) (one_more (count_in code c (before scene) i))
  hides_count = grind (arith, exchange_sets, one_more, set)
