-- `run_and_explain` (src/explained.rt): its return is the exit status of the run, and the errors have the text of what
-- went wrong.
use Rattle.std.proofs.Common.{None, Err, arith}
use Rattle.schedule.proofs.Known.{run_known, run_unread, told_alone}
use Rattle.schedule.proofs.explained.run_and_explain.Goals as goal

-- where the input could not be read, nothing was written, and the errors' writer tells why
pub returns-in-Err : goal.returns-in-Err
returns-in-Err g c =
    (Err c.in-Err.e, None, None, run_unread _ c.in-Err.e c.in-Err.ensures.failed, c.status.ensures.exit, told_alone _ _ _ c.status.ensures.told)

-- where the input was read, the run over its bytes is a run with this input, and what went wrong is told with
-- the line behind it
pub returns : goal.returns
returns g c =
    let ran = c.run_text_and_tell-exit.ensures in (
      ran.0,
      ran.1,
      ran.2,
      run_known _ ran.1 ran.2 c.deref.result.now ran.0 (rw c.deref.ensures.value c.in-Ok.ensures.bytes) ran.3,
      ran.4,
      (g.E.Write.contents c.run_text_and_tell-exit.new.errors, ran.5, c.tell_more.ensures.0, c.tell_more.ensures.1),
    )

-- the text is not longer than a list of bytes may be
pub run_text_and_tell-exit-requires : goal.run_text_and_tell-exit-requires
run_text_and_tell-exit-requires g c = omega (arith, c.deref.ensures.len, c.in-Ok.input.ok, c.in-Ok.input.small)
