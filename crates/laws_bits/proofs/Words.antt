-- What an operation does to a word, and which words change by it. What holds of the flags of
-- a word is in `steps`.
use Rattle.laws_bits.proofs.Names.{◌≡◌, ◌≢◌, ℕ, zero, suc, ◌==◌, Bool, true, false, cond, Option, Some, None, List}
use Rattle.laws_bits.proofs.Names.{get_or, set, replicate, refl, ap, ◌∙◌, get_or-set_other, nat_tests, set-get_or}
use Rattle.laws_bits.proofs.Names.{Ask, Load, Exchange, words_after, change_of}
use Rattle.std.proofs.Common.{arith}

-- a list of equal numbers has that number everywhere
pub zeros : (n i d : ℕ) → get_or (replicate n d) i d ≡ d
zeros zero i d = refl
zeros (suc n) zero d = refl
zeros (suc n) (suc i) d = zeros n i d

-- where a word has another value after an operation, one change is counted
pub change_one : (words : List ℕ) (ask : Option Ask) (i : ℕ) → get_or (words_after words ask) i 0 ≢ get_or words i 0 → change_of words ask ≡ 1
change_one words None i ne = absurd (ne refl)
change_one words (Some ask) i ne = by_place (i == ask.word) refl
  where
    -- the cases are whether it is the word of the operation
    by_place : (b : Bool) → (i == ask.word) ≡ b → change_of words (Some ask) ≡ 1
    by_place true word_test = grind arith
    by_place false word_test =
        let other : i ≢ ask.word = grind (arith, nat_tests) in
        absurd (ne (get_or-set_other words ask.word i _ 0 other))

-- a load leaves the words
pub load_leaves : (words : List ℕ) (w : ℕ) → words_after words (Some (record { word = w; op = Load })) ≡ words
load_leaves words w = set-get_or words w 0

-- an exchange that finds another value leaves the words
pub failed_leaves : (words : List ℕ) (w found new : ℕ) → (get_or words w 0 == found) ≡ false
    → words_after words (Some (record { word = w; op = Exchange found new })) ≡ words
failed_leaves words w found new t =
    ap (λ b. set words w (cond b new (get_or words w 0))) t ∙ set-get_or words w 0

-- an exchange that finds the value writes the new one
pub done_writes : (words : List ℕ) (w found new : ℕ) → (get_or words w 0 == found) ≡ true
    → words_after words (Some (record { word = w; op = Exchange found new })) ≡ set words w new
done_writes = grind arith
