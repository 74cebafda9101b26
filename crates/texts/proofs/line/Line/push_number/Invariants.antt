-- The invariant of the loop of `Line::push_number`: the digits still to write, and those written behind them,
-- spell the number, and the buffer has room for the digits still to write. The loop ends since the number
-- that is left becomes less.
use Rattle.std.proofs.Common.{◌≡◌, ◌<◌, ◌≤◌, ◌^◌, ◌++◌, decimal, drop, length}
use Rattle.texts.proofs.line.Line.push_number.Given as given

abbrev pub invariant-loop-rest : given.invariant-loop-rest
invariant-loop-rest l = record {
  fits : l.rest < 10 ^ 39;
  digits : decimal l.rest ++ drop l.at l.digits ≡ decimal l.number;
  room : length (decimal l.rest) ≤ l.at;
  within : l.at ≤ 39;
  sized : length l.digits ≡ 39;
}

abbrev pub decreases-loop-rest : given.decreases-loop-rest
decreases-loop-rest l = l.rest
