-- `Machine::run` (src/lib.rt): its return meets the clause `each`.
use Rattle.std.proofs.Math.Seq.{take-length}
use Rattle.machine.proofs.Machine.run.Goals as goal

-- where `run_all` has taken all turns, as many were taken as the list has
pub returns-in-Ok-clause-each : goal.returns-in-Ok-clause-each
returns-in-Ok-clause-each g c = rw (take-length c.args.turns.now) c.in-Ok.ensures.each
