-- Words that are kept at their places.
use Rattle.std.specs.Prelude.{◌≡◌, ℕ, zero, suc, List, [], ◌∷◌, length, take, replicate, slice_set, if◌then◌else◌, nat_lt, refl}
use Rattle.steps.specs.declared.copied.OneWord.{OneWord}

-- the value that the first `size` of these words make; where there are fewer words, the value
-- that words of zeros make
abbrev pub value_in : {V : Type 0} → (List ℕ → V) → ℕ → List ℕ → V
value_in value_of size words =
    if nat_lt (length words) size
    then value_of (take size (replicate 128 0))
    else value_of (take size words)

-- a room of one word has one place
abbrev pub kept_in_one : OneWord → ℕ → ℕ → OneWord
kept_in_one x zero word = record { 0 = word }
kept_in_one x (suc at) word = x

-- a word that is put to a place of a list of one word stands there, or nothing changes
pub one_put_in : (x : OneWord) (at word : ℕ) → (kept_in_one x at word).0 ∷ []
    ≡ slice_set (x.0 ∷ []) at word
one_put_in x zero word = refl
one_put_in x (suc at) word = refl
