-- How `number_of` reads a number digit by digit, and which words it refuses.
use Rattle.std.proofs.Common.{◌≡◌, ℕ, zero, suc, ◌+◌, ◌<◌, ◌≤◌, Bool, true, false, ◌&&◌, List, [], ◌∷◌, Ok, Err, refl, length, get_or, take, arith, nat_le}
use Rattle.std.specs.Str.{all_ascii_digits}
use Rattle.std.specs.Str.Parse.{digits_value}
use Rattle.std.specs.Char.{is_ascii_digit}
use Rattle.std.proofs.lemmas.Str.Parse.{digits_value-take-le}
use Rattle.std.proofs.lemmas.Bool.Decides.{nat_tests}
use Rattle.std.proofs.lemmas.Bool.{and_from, and_parts, lt-leb}
use Rattle.texts.specs.Text.{number_of}
use Rattle.texts.specs.declared.error.Cause.TheVariants.{BadValue}

-- a conjunction with a false second part is false
and_false : (a b : Bool) → b ≡ false → (a && b) ≡ false
and_false true b e = e
and_false false b e = refl

-- where the first characters are digits and the next one is too, one more of them are digits
pub all_digits_more : (word : List ℕ) (at : ℕ) → at < length word → all_ascii_digits (take at word) ≡ true
    → is_ascii_digit (get_or word at 0) ≡ true → all_ascii_digits (take (at + 1) word) ≡ true
all_digits_more [] at at_below all digit = absurd (omega arith)
all_digits_more (c ∷ cs) zero at_below all digit = and_from _ true digit refl
all_digits_more (c ∷ cs) (suc at) at_below all digit =
    let both = and_parts (is_ascii_digit c) (all_ascii_digits (take at cs)) all in
    let later : all_ascii_digits (take (at + 1) cs) ≡ true = all_digits_more cs at (omega arith) both.1 digit in
    let one : suc at + 1 ≡ suc (at + 1) = omega arith in
    rw one (and_from _ _ both.0 later)

-- a word in which some character is no digit is not all digits
pub no_digit : (word : List ℕ) (at : ℕ) → at < length word → is_ascii_digit (get_or word at 0) ≡ false → all_ascii_digits word ≡ false
no_digit [] at at_below digit = absurd (omega arith)
no_digit (c ∷ cs) zero at_below digit = rw digit refl
no_digit (c ∷ cs) (suc at) at_below digit = and_false (is_ascii_digit c) _ (no_digit cs at (omega arith) digit)

-- a word that is not all digits is refused as a bad value
pub no_number : (greatest : ℕ) (word : List ℕ) → all_ascii_digits word ≡ false → number_of greatest word ≡ Err BadValue
no_number greatest word not_digits = rw not_digits refl

-- a word some of whose first digits already spell more than the greatest number is refused as a bad value
pub too_great : (greatest : ℕ) (word : List ℕ) (at : ℕ) → greatest < digits_value 10 (take at word) → number_of greatest word ≡ Err BadValue
too_great greatest word at greatest_below =
    let past : greatest < digits_value 10 word = omega (arith, digits_value-take-le 10 word at (omega arith)) in
    let no : nat_le (digits_value 10 word) greatest ≡ false = lt-leb _ _ past in
    grind (arith, nat_tests)

-- a word of digits that is not empty and spells at most the greatest number is that number
pub is_number : (greatest : ℕ) (word : List ℕ) → all_ascii_digits word ≡ true → 0 < length word → digits_value 10 word ≤ greatest
    → number_of greatest word ≡ Ok (digits_value 10 word)
is_number = grind (arith, nat_tests)
