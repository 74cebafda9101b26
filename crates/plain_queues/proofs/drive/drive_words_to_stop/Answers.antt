-- `drive_words_to_stop` (src/drive.rt): the invariant of its loop holds at the start and after each iteration, and its return meets what
-- it ensures.
use Rattle.std.proofs.Common.{arith}
use Rattle.std.proofs.Common.{◌∙◌, sym, subst, ℕ, List}
use Rattle.plain_queues.specs.Alone.{StopsAlike}
use Rattle.plain_queues.proofs.Alone.{begins_later, goes_on, stops, stops_early}
use Rattle.plain_queues.proofs.drive.drive_words_to_stop.Goals as goal

-- where the answer is `Done`, its return meets what it ensures
pub returns-in-Done : goal.returns-in-Done
returns-in-Done g c = record {
  alone = stops_early g.C.Routine.want_of g.C.Routine.after g.C.Routine.kept c.args.given.now c.in-Done.is c.four_steps.ensures;
}

-- after its first four steps the driver is under way, with no round done
pub loop-init : goal.loop-init
loop-init g c =
    begins_later g.C.Routine.want_of g.C.Routine.after g.C.Routine.kept c.args.given.now
    c.in-GoOn.is c.requires.stops c.four_steps.ensures

-- where a step lets the call go on, the driver is under way with one round more
pub loop-preserved : goal.loop-preserved
loop-preserved = grind (arith, goes_on)

-- where `step` answers `Done`, its return meets what it ensures
pub returns-in-Done-step : goal.returns-in-Done-step
returns-in-Done-step g c = record {
  alone =
      subst (λ (z : g.row.C-Room.Denot × List ℕ). StopsAlike g.C.Routine.want_of g.C.Routine.after g.C.Routine.kept
      c.args.given.now c.args.call c.args.room.now c.args.words.now c.in-Done-step.stop z.0 z.1)
      (λ i. (sym c.step.ensures.room i, sym c.step.ensures.words i))
      (stops g.C.Routine.want_of g.C.Routine.after g.C.Routine.kept c.args.given.now
      c.loop.invariant (sym c.step.ensures.goes ∙ c.in-Done-step.is));
}
