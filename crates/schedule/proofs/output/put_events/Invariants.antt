-- The invariant of the loop of `put_events`: what was written so far, and the lines of the events that are
-- left, are the lines of all the events.
use Rattle.std.proofs.Common.{◌≡◌, ℕ, List, ◌++◌, drop}
use Rattle.std.specs.Io.KnownBytes.{Appends}
use Rattle.texts.specs.Print.{events_text}
use Rattle.schedule.proofs.output.put_events.Given as given

abbrev pub invariant-loop-event : given.invariant-loop-event
invariant-loop-event g l =
    (written : List ℕ) × (written ++ events_text (drop l.event-index l.events) ≡ events_text l.events)
    × Appends (g.W.Write.contents l.initial.writer) (g.W.Write.contents l.writer) written
