-- `four_steps` (src/drive.rt): its return meets what it ensures (`StopsOn`).
use Rattle.plain_queues.proofs.Alone.{more_steps}
use Rattle.plain_queues.proofs.drive.four_steps.Goals as goal

-- where the answer is `GoOn`, its return meets what it ensures
pub returns-in-GoOn : goal.returns-in-GoOn
returns-in-GoOn g c =
    more_steps g.C.Routine.want_of g.C.Routine.after g.C.Routine.kept c.args.given.now
    c.two_steps-in-GoOn.result c.two_steps-in-GoOn.new.room c.two_steps-in-GoOn.new.words
    c.in-GoOn.is c.two_steps.ensures c.two_steps-in-GoOn.ensures
