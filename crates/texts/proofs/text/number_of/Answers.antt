-- `number_of` (src/text.rt): each iteration keeps the invariant of its loop, and its return meets the clause `value`.
use Rattle.std.proofs.Common.{◌+◌, sym, arith}
use Rattle.std.proofs.lemmas.Str.{digit_value_digit}
use Rattle.std.proofs.lemmas.Int.Digits.{digits_value_more}
use Rattle.texts.proofs.Numbers.{all_digits_more, no_digit, no_number, too_great}
use Rattle.texts.proofs.text.number_of.Goals as goal

-- where a character is no digit, the word is refused as a bad value
pub returns-then-not-is_ascii_digit-clause-value : goal.returns-then-not-is_ascii_digit-clause-value
returns-then-not-is_ascii_digit-clause-value c =
    no_number c.args.greatest c.args.word.now (no_digit c.args.word.now c.loop-digit.digit-index (omega arith) (sym c.if-not-is_ascii_digit.ensures.value))

-- where ten times the number so far overflows, the word spells more than the greatest number
pub returns-in_default-clause-value : goal.returns-in_default-clause-value
returns-in_default-clause-value c =
    let more = digits_value_more 10 c.args.word.now c.loop-digit.digit-index (omega arith) in
    let past = c.in_default.ensures in
    too_great c.args.greatest c.args.word.now (c.loop-digit.digit-index + 1) (omega (arith, more, c.ranges.greatest))

-- where the digit added to it overflows, the word spells more than the greatest number
pub returns-in_default-checked_add-clause-value : goal.returns-in_default-checked_add-clause-value
returns-in_default-checked_add-clause-value c =
    let more = digits_value_more 10 c.args.word.now c.loop-digit.digit-index (omega arith) in
    let digit = digit_value_digit _ c.if-not-is_ascii_digit.ensures.cases in
    too_great c.args.greatest c.args.word.now (c.loop-digit.digit-index + 1) (omega (arith, more, digit, c.in_default-checked_add.ensures, c.ranges.greatest))

-- where the digits so far spell more than the greatest number, so does the word
pub returns-then-sum-greatest-clause-value : goal.returns-then-sum-greatest-clause-value
returns-then-sum-greatest-clause-value c =
    let more = digits_value_more 10 c.args.word.now c.loop-digit.digit-index (omega arith) in
    let digit = digit_value_digit _ c.if-not-is_ascii_digit.ensures.cases in
    too_great c.args.greatest c.args.word.now (c.loop-digit.digit-index + 1) (omega (arith, more, digit, c.in-Some-checked_add.ensures, c.ranges.greatest))

-- each iteration keeps the invariant of the loop
pub loop-digit-preserved : goal.loop-digit-preserved
loop-digit-preserved c =
    let more = digits_value_more 10 c.args.word.now c.loop-digit.digit-index (omega arith) in
    let digit = digit_value_digit _ c.if-not-is_ascii_digit.ensures.cases in
    record {
      digits = all_digits_more c.args.word.now c.loop-digit.digit-index (omega arith) c.loop-digit.invariant.digits (sym c.if-not-is_ascii_digit.ensures.value);
      value = omega (arith, more, digit, c.in-Some-checked_add.ensures);
      fits = omega arith;
    }
