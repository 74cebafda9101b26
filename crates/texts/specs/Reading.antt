-- How words are read from left to right: a value and the rest, or the first cause that is met.
use Rattle.std.specs.Prelude.{◌≡◌, ℕ, ◌-◌, ◌^◌, List, [], ◌∷◌, Result, Ok, Err}
use Rattle.texts.specs.declared.error.Cause.{Cause}
use Rattle.texts.specs.declared.error.Cause.TheVariants.{MissingValue, ExtraWords}
use Rattle.texts.specs.Text.{number_of}

-- one reading after another: the second one reads on from what the first one gives, unless that is a cause
infixl 10 ◌>>=◌
abbrev pub ◌>>=◌ : {A B : Type 0} → Result A Cause → (A → Result B Cause) → Result B Cause
(Ok x) >>= f = f x
(Err e) >>= f = Err e

-- a function answered as reading does: with the value whose view is the one read, or with the same cause
abbrev pub Gives : {X Y : Type 0} → (X → Y) → Result X Cause → Result Y Cause → Type 0
Gives view (Ok x) read = read ≡ Ok (view x)
Gives view (Err e) read = read ≡ Err e

-- ---- words

-- the next word of a line, and those after it
abbrev pub next_word : List (List ℕ) → Result (List ℕ × List (List ℕ)) Cause
next_word [] = Err MissingValue
next_word (w ∷ ws) = Ok (w, ws)

-- the line has no word more
abbrev pub ended : List (List ℕ) → Result (Unit {0}) Cause
ended [] = Ok tt
ended (w ∷ ws) = Err ExtraWords

-- a number up to the greatest, and the words after it
unfoldable pub number_at : ℕ → List (List ℕ) → Result (ℕ × List (List ℕ)) Cause
number_at greatest ws = do
  word ← next_word ws
  n ← number_of greatest word.0
  Ok (n, word.1)

-- an owner, and the words after it; the greatest number of 64 bits names none
abbrev pub owner_at : List (List ℕ) → Result (ℕ × List (List ℕ)) Cause
owner_at ws = number_at (2 ^ 64 - 2) ws
