-- `take_turn` (src/runs.rt): the machine and the text are those of the outcome of this turn.
use Rattle.std.proofs.Common.{◌++◌, ap, sym, ◌∙◌, subst}
use Rattle.model.specs.Turns.{events_of}
use Rattle.texts.specs.Print.{events_text}
use Rattle.schedule.specs.Written.{Writes}
use Rattle.schedule.specs.Output.{world_of}
use Rattle.schedule.proofs.Turns.{events_behind, taken_told, refused_told}
use Rattle.schedule.proofs.runs.take_turn.Goals as goal

-- where the answer is `Ok`, its return meets what it ensures
pub returns-in-Ok : goal.returns-in-Ok
returns-in-Ok g c =
    let behind =
    events_behind c.events-before.result.now c.events.result.now
    (events_of (world_of c.args.machine.now) c.args.turn)
    (c.events.ensures ∙ ap (λ t. t.events) c.in-Ok.ensures.ok
    ∙ ap (λ l. l ++ events_of (world_of c.args.machine.now) c.args.turn) (sym c.events-before.ensures)) in
    taken_told _ (world_of c.step.new.self) _ _ _ c.put_events.result c.in-Ok.ensures.allowed (ap (λ t. t.world) c.in-Ok.ensures.ok)
    (subst
    (λ l. Writes (g.W.Write.contents c.args.writer.now) (g.W.Write.contents c.put_events.new.writer) c.put_events.result (events_text l))
    behind c.put_events.ensures)

-- where the machine refuses the turn, it is as before, and the text of the refusal is written
pub returns-in-Err : goal.returns-in-Err
returns-in-Err g c =
    refused_told _ (world_of c.step.new.self) _ _ _ _ c.put_refusal.result c.in-Err.ensures.refused (ap world_of c.in-Err.ensures.err) c.put_refusal.ensures
