-- The invariant of the loop of `whole_input`: what was read so far is what the reader has less than at entry.
use Rattle.std.specs.Io.KnownBytes.{Consumes}
use Rattle.schedule.proofs.input.whole_input.Given as given

abbrev pub invariant-loop : given.invariant-loop
invariant-loop g l = Consumes (g.R.Read.remaining l.initial.reader) (g.R.Read.remaining l.reader) l.input.items
