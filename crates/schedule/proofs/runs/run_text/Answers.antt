-- `run_text` (src/runs.rt): its return meets what it ensures (`IsRun`).
use Rattle.std.proofs.Common.{Some, refl}
use Rattle.schedule.proofs.Whole.{flushed_end, flush_failed}
use Rattle.schedule.proofs.runs.run_text.Goals as goal

-- where all lines are done, the run ends well, or with the failure to write the rest out
pub returns-in-Ok : goal.returns-in-Ok
returns-in-Ok g c =
    flushed_end (Some c.args.input.now) _ (g.W.Write.contents c.do_text.new.writer) _ c.args.input.now c.flush.result refl
    c.in-Ok.ensures c.flush.ensures.kept c.flush.ensures.failed

-- where a line is malformed and the rest cannot be written out, the run ends with that failure
pub returns-in-Err-flush : goal.returns-in-Err-flush
returns-in-Err-flush g c =
    flush_failed (Some c.args.input.now) _ (g.W.Write.contents c.do_text.new.writer) _ c.args.input.now
    c.in-Err-Malformed.field-0 c.in-Err-Malformed.line c.in-Err-Malformed.cause
    c.in-Err-flush.e refl c.in-Err-Malformed.field-0-is c.in-Err-Malformed.ensures
    c.flush-in-Err-Malformed.ensures.kept c.in-Err-flush.ensures.failed
