-- The invariant of the loop of `Grammar::wrong`: the place of the loop is not before the start of the word.
use Rattle.std.proofs.Common.{◌≤◌}
use Rattle.schedule.proofs.wrong.Grammar.wrong.Given as given

abbrev pub invariant-loop-at : given.invariant-loop-at
invariant-loop-at l = l.start ≤ l.at
