-- `Line::push_number` (src/line.rt): the invariant of its loop holds at the start and after each iteration, its arithmetic does not
-- overflow, and its return meets the clause `text`.
use Rattle.std.proofs.Common.{◌+◌, ◌-◌, ◌%◌, ◌++◌, ap, ◌∙◌, append-nil, arith, decimal, length-set}
use Rattle.texts.proofs.Digits.{digit_more, length-decimal_tenth, digit_first, length-decimal_digit, length-decimal_wide, taken_to_end}
use Rattle.texts.proofs.line.Line.push_number.Goals as goal

-- the invariant of the loop holds at its start
pub loop-rest-init : goal.loop-rest-init
loop-rest-init c =
    record {
      fits = omega (arith, c.ranges.number.fits);
      digits = append-nil (decimal c.args.number);
      room = length-decimal_wide c.args.number (omega (arith, c.ranges.number.fits));
      within = omega arith;
      sized = omega arith;
    }

-- the place before the one written last exists, since a number of two digits or more takes two places or more
pub overflow_sub-at : goal.overflow_sub-at
overflow_sub-at c =
    omega (arith, length-decimal_tenth c.loop-rest.rest c.loop-rest-test.true c.loop-rest.invariant.fits, c.loop-rest.invariant.room)

-- each iteration keeps the invariant of the loop
pub loop-rest-preserved : goal.loop-rest-preserved
loop-rest-preserved c =
    let i = c.loop-rest.invariant in
    let tenth = length-decimal_tenth c.loop-rest.rest c.loop-rest-test.true i.fits in
    record {
      fits = omega arith;
      digits = digit_more c.loop-rest.digits c.loop-rest.at c.loop-rest.rest c.loop-rest-test.true i.fits i.room (omega arith) ∙ i.digits;
      room = omega (arith, tenth);
      within = omega arith;
      sized = length-set c.loop-rest.digits (c.loop-rest.at - 1) (48 + c.loop-rest.rest % 10) ∙ i.sized;
    }

-- the place of the first digit exists, since one digit is still left to write
pub overflow_sub-at-2 : goal.overflow_sub-at-2
overflow_sub-at-2 c = omega (arith, length-decimal_digit c.loop-rest.rest (omega arith), c.loop-rest.invariant.room)

-- its return meets the clause `text`
pub returns-clause-text : goal.returns-clause-text
returns-clause-text c =
    let i = c.loop-rest.invariant in
    let some = length-decimal_digit c.loop-rest.rest (omega arith) in
    let sized = length-set c.loop-rest.digits (c.loop-rest.at - 1) (48 + c.loop-rest.rest) ∙ i.sized in
    let first = digit_first c.loop-rest.digits c.loop-rest.at c.loop-rest.rest (omega arith) (omega (arith, some)) (omega arith) in
    c.push_bytes.ensures ∙ ap (λ t. c.args.self.now ++ t) (taken_to_end _ (c.loop-rest.at - 1) 39 sized ∙ first ∙ i.digits)
