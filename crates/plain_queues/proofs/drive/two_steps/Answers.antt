-- `two_steps` (src/drive.rt): its return meets what it ensures (`StopsOn`).
use Rattle.plain_queues.proofs.Alone.{one_step, more_steps}
use Rattle.plain_queues.proofs.drive.two_steps.Goals as goal

-- where the answer is `GoOn`, its return meets what it ensures
pub returns-in-GoOn : goal.returns-in-GoOn
returns-in-GoOn g c =
    let want_of = g.C.Routine.want_of in
    let after = g.C.Routine.after in
    let kept = g.C.Routine.kept in
    let given = c.args.given.now in
    more_steps want_of after kept given c.step-in-GoOn.result c.step-in-GoOn.new.room c.step-in-GoOn.new.words c.in-GoOn.is
    (one_step want_of after kept given c.args.call c.args.room.now c.args.words.now c.step.ensures.goes c.step.ensures.room c.step.ensures.words)
    (one_step want_of after kept given c.in-GoOn.next c.step.new.room c.step.new.words
    c.step-in-GoOn.ensures.goes c.step-in-GoOn.ensures.room c.step-in-GoOn.ensures.words)
