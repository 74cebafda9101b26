-- The invariant of the loop of `put`: the bytes written so far, and those that are left, are all the bytes.
use Rattle.std.proofs.Common.{◌≡◌, ℕ, List, ◌++◌}
use Rattle.std.specs.Io.KnownBytes.{Appends}
use Rattle.schedule.proofs.output.put.Given as given

abbrev pub invariant-loop : given.invariant-loop
invariant-loop g l = (part : List ℕ) × (part ++ l.rest ≡ l.bytes) × Appends (g.W.Write.contents l.initial.writer) (g.W.Write.contents l.writer) part
