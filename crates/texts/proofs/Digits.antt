-- How `Line::push_number` writes a number: digit by digit, from the last one to the first, into
-- the places of a buffer.
use Rattle.std.proofs.Common.{◌≡◌, ℕ, ◌+◌, ◌-◌, ◌/◌, ◌%◌, ◌^◌, ◌<◌, ◌≤◌, List, [], ◌∷◌, ◌++◌, sym, ap, ◌∙◌}
use Rattle.std.proofs.Common.{append_assoc, length, take, drop, set, decimal, arith, length-append}
use Rattle.std.proofs.lemmas.Fmt.{decimal_step_wide, decimal_digit, length-decimal-le_wide}
use Rattle.std.proofs.lemmas.List.{drop-set, take_rest}

-- a digit written in the place before `at` stands in front of what is written from `at` on
pub digit_before : (digits : List ℕ) (at digit : ℕ) → 1 ≤ at → at ≤ length digits → drop (at - 1) (set digits (at - 1) digit) ≡ digit ∷ drop at digits
digit_before digits at digit some within =
    let back : at - 1 + 1 ≡ at = omega arith in
    drop-set digits (at - 1) digit (omega arith) ∙ ap (λ n. digit ∷ drop n digits) back

-- once the last digit of `rest` is written, the digits that are left are those of a tenth of it, and together
-- they spell the same number
pub digit_more : (digits : List ℕ) (at rest : ℕ) → 10 ≤ rest → rest < 10 ^ 39 → length (decimal rest) ≤ at → at ≤ length digits
    → decimal (rest / 10) ++ drop (at - 1) (set digits (at - 1) (48 + rest % 10)) ≡ decimal rest ++ drop at digits
digit_more digits at rest more fits room within =
    let step = decimal_step_wide rest more (omega arith) in
    let some : 1 ≤ at = omega (arith, ap length step, length-append (decimal (rest / 10)) ((48 + rest % 10) ∷ [])) in
    ap (λ t. decimal (rest / 10) ++ t) (digit_before digits at (48 + rest % 10) some within)
    ∙ sym (append_assoc (decimal (rest / 10)) ((48 + rest % 10) ∷ []) (drop at digits))
    ∙ ap (λ t. t ++ drop at digits) (sym step)

-- a tenth of a number of two digits or more has one digit fewer
pub length-decimal_tenth : (rest : ℕ) → 10 ≤ rest → rest < 10 ^ 39 → length (decimal (rest / 10)) + 1 ≡ length (decimal rest)
length-decimal_tenth rest more fits =
    let step = decimal_step_wide rest more (omega arith) in
    omega (arith, ap length step, length-append (decimal (rest / 10)) ((48 + rest % 10) ∷ []))

-- once the first digit is written, the number stands in whole
pub digit_first : (digits : List ℕ) (at rest : ℕ) → rest < 10 → 1 ≤ at → at ≤ length digits
    → drop (at - 1) (set digits (at - 1) (48 + rest)) ≡ decimal rest ++ drop at digits
digit_first digits at rest small some within =
    digit_before digits at (48 + rest) some within ∙ ap (λ t. t ++ drop at digits) (sym (decimal_digit rest small))

-- a number below 10 has one digit
pub length-decimal_digit : (rest : ℕ) → rest < 10 → length (decimal rest) ≡ 1
length-decimal_digit rest small = ap length (decimal_digit rest small)

-- a number below 10^39 has at most 39 digits, which is the length of the buffer
pub length-decimal_wide : (number : ℕ) → number < 10 ^ 39 → length (decimal number) ≤ 39
length-decimal_wide number fits = length-decimal-le_wide 39 number (omega arith) fits (omega arith)

-- the bytes from `at` on, as many as the buffer has from there, are all the bytes from `at` on
pub taken_to_end : (digits : List ℕ) (at size : ℕ) → length digits ≡ size → take (size - at) (drop at digits) ≡ drop at digits
taken_to_end digits at size e = ap (λ n. take (n - at) (drop at digits)) (sym e) ∙ take_rest digits at
