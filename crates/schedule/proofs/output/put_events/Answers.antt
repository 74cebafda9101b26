-- `put_events` (src/output.rt): each iteration keeps the invariant of its loop, and its return meets what it ensures (`Writes`).
use Rattle.std.proofs.Common.{ap, ◌∙◌, ◌++◌, arith}
use Rattle.std.proofs.KnownBytes.{Appends-trans}
use Rattle.texts.specs.Print.{event_text}
use Rattle.schedule.proofs.Writing.{part_within, events_more}
use Rattle.schedule.proofs.output.put_events.Goals as goal

-- where the answer is `Err`, its return meets what it ensures
pub returns-in-Err : goal.returns-in-Err
returns-in-Err g c =
    let i = c.loop-event.invariant in
    let e = c.in-Err.ensures in
    let more =
    events_more c.args.events.now c.loop-event.event-index c.event-item.result i.0 c.as_bytes.result.now
    (omega arith) i.1 (c.as_bytes.ensures ∙ c.print_event.ensures ∙ ap event_text c.event-item.is) in
    (e.0, part_within _ _ _ i.0 c.as_bytes.result.now _ _ i.2 e.1 more)

-- each iteration keeps the invariant of the loop
pub loop-event-preserved : goal.loop-event-preserved
loop-event-preserved g c =
    let i = c.loop-event.invariant in
    let more =
    events_more c.args.events.now c.loop-event.event-index c.event-item.result i.0 c.as_bytes.result.now
    (omega arith) i.1 (c.as_bytes.ensures ∙ c.print_event.ensures ∙ ap event_text c.event-item.is) in
    (i.0 ++ c.as_bytes.result.now, more, Appends-trans _ _ _ i.0 c.as_bytes.result.now i.2 c.in-Ok.ensures)
