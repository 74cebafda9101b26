-- `do_command` (src/runs.rt): its return meets what it ensures (`Prints`).
use Rattle.std.proofs.Common.{ap, subst}
use Rattle.texts.specs.declared.grammar.Command.TheVariants.{Once, Times}
use Rattle.schedule.specs.Output.{world_of, commanded}
use Rattle.schedule.specs.Run.{Prints}
use Rattle.schedule.proofs.Turns.{once_told}
use Rattle.schedule.proofs.runs.do_command.Goals as goal

-- a command of one turn prints what `take_turn` prints, and the events that were forgotten change no world
pub returns-in-Once : goal.returns-in-Once
returns-in-Once g c =
    rw c.in-Once.is (subst
    (λ w. Prints (commanded (Once c.in-Once.turn)) w (world_of c.take_turn.new.machine)
    (g.W.Write.contents c.args.writer.now) (g.W.Write.contents c.take_turn.new.writer) c.take_turn.result)
    (ap world_of c.forget.ensures)
    (once_told c.in-Once.turn _ _ _ _ c.take_turn.ensures.0 c.take_turn.result c.take_turn.ensures.1))

-- a command of several prints what `take_nexts` prints
pub returns-in-Times : goal.returns-in-Times
returns-in-Times g c =
    rw c.in-Times.is (subst
    (λ w. Prints (commanded (Times c.in-Times.party c.in-Times.most)) w (world_of c.take_nexts.new.machine)
    (g.W.Write.contents c.args.writer.now) (g.W.Write.contents c.take_nexts.new.writer) c.take_nexts.result)
    (ap world_of c.forget.ensures)
    c.take_nexts.ensures)
