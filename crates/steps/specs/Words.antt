-- The words of the given types.
use Rattle.std.specs.Prelude.{ℕ, ◌≡◌, ◌+◌, ◌-◌, ◌*◌, ◌/◌, ◌%◌, ◌^◌, List, [], ◌∷◌, slice_index, if◌then◌else◌, nat_lt}
use Rattle.std.proofs.Common.{arith}
use Rattle.std.proofs.lemmas.Bool.Decides.{nat_tests}

-- A number of 32 bits lies in one word. A number that is no u32 is
-- given a number that is no word, so that the law needs no premise.
abbrev pub words_of_u32 : ℕ → List ℕ
words_of_u32 x = (if nat_lt x (2 ^ 32) then x else x + 2 ^ 64) ∷ []

-- a word gives its low half
abbrev pub u32_of_word : ℕ → ℕ
u32_of_word word = if nat_lt word (2 ^ 64) then word % 2 ^ 32 else word - 2 ^ 64

-- the number that one word makes
abbrev pub value_of_u32 : List ℕ → ℕ
value_of_u32 words = u32_of_word (slice_index words 0)

-- a number of 32 bits is made again of its word
pub given_back_u32 : (x : ℕ) → value_of_u32 (words_of_u32 x) ≡ x
given_back_u32 x = grind (arith, nat_tests)

-- the high word, then the low one
abbrev pub words_of_u128 : ℕ → List ℕ
words_of_u128 x = x / 2 ^ 64 ∷ x % 2 ^ 64 ∷ []

-- the number that two words make, the high one first
abbrev pub value_of_u128 : List ℕ → ℕ
value_of_u128 words = slice_index words 0 * 2 ^ 64 + slice_index words 1

-- a number of 128 bits is made again of its words
pub given_back_u128 : (x : ℕ) → value_of_u128 (words_of_u128 x) ≡ x
given_back_u128 x = omega arith

-- a pair is written in two words
abbrev pub words_of_pair : ℕ × ℕ → List ℕ
words_of_pair x = x.0 ∷ x.1 ∷ []

-- the pair that two words make
abbrev pub value_of_pair : List ℕ → ℕ × ℕ
value_of_pair words = (slice_index words 0, slice_index words 1)
