-- The invariant of the loop of `number_of`: the characters read are digits, they spell the number so far, and
-- that is at most the greatest number.
use Rattle.std.proofs.Common.{◌≡◌, ◌≤◌, true, take}
use Rattle.std.specs.Str.{all_ascii_digits}
use Rattle.std.specs.Str.Parse.{digits_value}
use Rattle.texts.proofs.text.number_of.Given as given

abbrev pub invariant-loop-digit : given.invariant-loop-digit
invariant-loop-digit l = record {
  digits : all_ascii_digits (take l.digit-index l.word) ≡ true;
  value : l.number ≡ digits_value 10 (take l.digit-index l.word);
  fits : l.number ≤ l.greatest;
}
