-- The lines and the words of a text, and numbers in decimal.
use Rattle.std.specs.Prelude.{ℕ, ◌==◌, ◌&&◌, List, [], ◌∷◌, length, Some, None, Result, Ok, Err, nat_lt, nat_le, if◌then◌else◌}
use Rattle.std.specs.List.{slice_split}
use Rattle.std.specs.Str.{all_ascii_digits}
use Rattle.std.specs.Str.Parse.{digits_value}
use Rattle.texts.specs.declared.error.Cause.{Cause}
use Rattle.texts.specs.declared.error.Cause.TheVariants.{BadValue}
use Rattle.texts.specs.declared.text.Rest.{Rest}

-- the parts of a text between its separators
abbrev pub parts : ℕ → List ℕ → List (List ℕ)
parts separator text = slice_split (λ b. b == separator) text

-- a line feed ends a line; behind the last one stands an empty line, or the line that lacks it
abbrev pub lines : List ℕ → List (List ℕ)
lines text = parts 10 text

-- exactly one space parts two words, and an empty line has none
abbrev pub words : List ℕ → List (List ℕ)
words [] = []
words (b ∷ bs) = parts 32 (b ∷ bs)

-- digits alone, at least one, of a number up to the greatest
abbrev pub number_of : ℕ → List ℕ → Result ℕ Cause
number_of greatest word =
    if all_ascii_digits word && (nat_lt 0 (length word) && nat_le (digits_value 10 word) greatest)
    then Ok (digits_value 10 word)
    else Err BadValue

-- the parts that are not read yet
abbrev pub words_left : Rest → List (List ℕ)
words_left p = elim p.rest [ None ↦ [] | Some text ↦ parts p.separator text.now ]
