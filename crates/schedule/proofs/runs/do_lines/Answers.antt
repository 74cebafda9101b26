-- `do_lines` (src/runs.rt): the invariant of its loop holds at the start and after each iteration, and its return meets what it ensures
-- (`IsOutput`).
use Rattle.std.proofs.Common.{[], refl, ap, length, arith}
use Rattle.std.proofs.KnownBytes.{Appends-nil}
use Rattle.schedule.specs.Output.{world_of}
use Rattle.schedule.proofs.Lines.{some_of, none_of, done_command, done_empty, lines_ended, lines_malformed, lines_failed}
use Rattle.schedule.proofs.runs.do_lines.Goals as goal
use Rattle.schedule.proofs.runs.do_lines.Goals.{then-not-is_empty+in-Ok+in-Ok-do_command, else-not-is_empty}

-- before the first line nothing is done and nothing is written
pub loop-line-init : goal.loop-line-init
loop-line-init g c = record { numbered = omega arith; written = ([], [], λ more. refl, Appends-nil _) }

-- where a line is malformed, the output ends with its number and its cause
pub returns-in-Err : goal.returns-in-Err
returns-in-Err g c =
    let i = c.loop-line.invariant.written in
    lines_malformed c.args.kind _ _ _ c.in-Some.line.now c.loop-line.number (world_of c.args.machine.now)
    (world_of c.loop-line.machine) _ _ i.0 i.1 c.in-Err.cause i.2 i.3 c.in-Some.ensures
    (some_of _ c.if-not-is_empty.ensures) c.in-Err.ensures

-- where `do_command` answers `Err`, its return meets what it ensures
pub returns-in-Err-do_command : goal.returns-in-Err-do_command
returns-in-Err-do_command g c =
    let i = c.loop-line.invariant.written in
    lines_failed c.args.kind _ _ _ c.in-Some.line.now c.loop-line.number (world_of c.args.machine.now)
    (world_of c.loop-line.machine) (world_of c.do_command.new.machine) _ _ _ i.0 i.1 c.in-Ok.command
    c.in-Err-do_command.e i.2 i.3 c.in-Some.ensures
    (some_of _ c.if-not-is_empty.ensures) c.in-Ok.ensures c.in-Err-do_command.ensures

-- where no line is left, what was written is the whole output
pub returns : goal.returns
returns g c =
    let i = c.loop-line.invariant.written in
    lines_ended c.args.kind _ _ c.loop-line.number (world_of c.args.machine.now) (world_of c.loop-line.machine) _ _ i.0 i.1 i.2 i.3 c.in_default.ensures

-- each iteration keeps the invariant of the loop
pub loop-line-preserved : goal.loop-line-preserved
loop-line-preserved g c =
    let i = c.loop-line.invariant.written in
    record {
      numbered = omega (arith, ap length c.in-Some.ensures);
      written =
          elim c.if-not-is_empty.branch [
            | then-not-is_empty+in-Ok+in-Ok-do_command w ↦
                rw (w.machine-is, w.writer-is)
                (done_command c.args.kind _ _ _ c.in-Some.line.now c.loop-line.number (world_of c.args.machine.now)
                (world_of c.loop-line.machine) (world_of w.do_command.new.machine)
                _ _ _ i.0 i.1 w.in-Ok.command i.2 i.3 c.in-Some.ensures (some_of _ w.if-not-is_empty.ensures) w.in-Ok.ensures w.in-Ok-do_command.ensures)
            | else-not-is_empty w ↦
                rw (w.machine-is, w.writer-is)
                (done_empty c.args.kind _ _ _ c.in-Some.line.now c.loop-line.number (world_of c.args.machine.now)
                (world_of c.loop-line.machine) _ _ i.0 i.1 i.2 i.3
                c.in-Some.ensures (none_of _ w.if-not-is_empty.ensures))
          ];
    }
