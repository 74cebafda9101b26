-- How the values of a machine are written in words.
use Rattle.std.specs.Prelude.{◌≡◌, ◌≤◌, ℕ, List, [], ◌∷◌, length, slice_index}
use Rattle.steps.specs.declared.words.Words.{Ghosts}

-- how values of type T are written in words
pub record Coding (T : Type 0) : Type 0 where
  pub size : ℕ  -- how many words a value has
  pub words_of : T → List ℕ
  pub value_of : List ℕ → T

-- The coding of values of `size` words, given the function that writes a value and the one that reads it.
abbrev pub coding_of : {T : Type 0} → ℕ → (T → List ℕ) → (List ℕ → T) → Coding T
coding_of size words_of value_of =
    record { size = size; words_of = words_of; value_of = value_of }

-- the coding of a type, by the members of its `Words`
abbrev pub coding_by : {T : Type 0} → Ghosts T → Coding T
coding_by words = coding_of words.WORDS words.words_of words.value_of

-- every value has that many words, from 1 to 128, and they give it back
pub record IsCoding {T : Type 0} (code : Coding T) : Type 0 where
  pub some : 1 ≤ code.size
  pub few : code.size ≤ 128
  pub sized : (x : T) → length (code.words_of x) ≡ code.size
  pub given_back : (x : T) → code.value_of (code.words_of x) ≡ x

-- a number of one word is written as it is
abbrev pub one_word : Coding ℕ
one_word =
    record { size = 1; words_of = λ n. n ∷ []; value_of = λ words. slice_index words 0 }
