-- How `Rest::first` parts a text at its separators: the first part, and what is left.
use Rattle.std.proofs.Common.{◌≡◌, ℕ, ◌+◌, ◌-◌, ◌<◌, ◌≤◌, ◌==◌, List, [], ◌∷◌, length, take, drop, arith}
use Rattle.std.specs.List.{position_or_len}
use Rattle.std.proofs.lemmas.List.{take_rest}
use Rattle.std.proofs.lemmas.List.Sums.{fails_before_first}
use Rattle.std.proofs.lemmas.List.Splits.{slice_split_none, slice_split_first}
use Rattle.texts.specs.Text.{parts}

-- where a separator stands in the text, the first part ends before it, and the parts of
-- what is behind it follow
pub first_part : (separator : ℕ) (text : List ℕ) (at : ℕ) → at ≡ position_or_len (λ b. b == separator) text → at < length text
    → parts separator text ≡ take at text ∷ parts separator (take (length text - (at + 1)) (drop (at + 1) text))
first_part separator text at e at_below = rw (take_rest text (at + 1), e) (slice_split_first (λ b. b == separator) text 0 (omega arith))

-- a text with no separator is its only part
pub only_part : (separator : ℕ) (text : List ℕ) (at : ℕ) → at ≡ position_or_len (λ b. b == separator) text → length text ≤ at
    → parts separator text ≡ text ∷ []
only_part separator text at e h =
    slice_split_none (λ b. b == separator) text (λ k d below. fails_before_first (λ b. b == separator) text k d (omega arith))
