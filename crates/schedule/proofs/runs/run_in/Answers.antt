-- `run_in` (src/runs.rt): its call of `run_text` meets what that requires, and its return meets what it ensures (`IsRun`).
use Rattle.std.proofs.Common.{arith}
use Rattle.schedule.proofs.Known.{run_known}
use Rattle.schedule.proofs.runs.run_in.Goals as goal

-- the text is not longer than a list of bytes may be
pub run_text-requires : goal.run_text-requires
run_text-requires g c = omega (arith, c.deref.ensures.len, c.in-Ok.input.ok, c.in-Ok.input.small)

-- a run of the text that was read
pub returns : goal.returns
returns g c = run_known _ _ _ c.deref.result.now c.run_text.result (rw c.deref.ensures.value c.in-Ok.ensures.bytes) c.run_text.ensures
