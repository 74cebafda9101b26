-- `Outlet::drain` (src/outlet.rt): its return meets the clauses `drained` and `popped`.
use Rattle.std.proofs.Common.{◌∙◌, ap, inl, inr}
use Rattle.zero_copy_bus.specs.Outlets.{takes_view, waits_queue, waits_view}
use Rattle.zero_copy_bus.proofs.Drained.{drained_still}
use Rattle.zero_copy_bus.proofs.outlet.Outlet.drain.Goals as goal
use Rattle.zero_copy_bus.proofs.outlet.Outlet.drain.Goals.{then-not-empty_submitted-via-then-not-empty_submitted}
use Rattle.zero_copy_bus.proofs.outlet.Outlet.drain.Goals.{then-not-empty_submitted-via-else-not-empty_submitted+then-not-empty_returned}

pub returns-clause-drained : goal.returns-clause-drained
returns-clause-drained g c is =
    drained_still c.args.self.now c.empty_submitted.new.self c.empty_returned.new.self c.empty_returned.ensures.waits c.empty_returned.ensures.queue
    (c.empty_submitted.ensures.drained c.if-not-empty_submitted.false)

pub returns-clause-popped : goal.returns-clause-popped
returns-clause-popped g c =
    inr (drained_still c.args.self.now c.empty_submitted.new.self c.empty_returned.new.self c.empty_returned.ensures.waits
    c.empty_returned.ensures.queue (c.empty_submitted.ensures.drained c.if-not-empty_submitted.false))

-- The call ends early: either the first queue could not be emptied, and nothing was popped from the second,
-- or the first was, and then `WasDrained` holds.
pub returns-then-not-empty_submitted-clause-popped : goal.returns-then-not-empty_submitted-clause-popped
returns-then-not-empty_submitted-clause-popped g c =
    elim c.then-not-empty_submitted.branch [
      | then-not-empty_submitted-via-then-not-empty_submitted w ↦ inl (ap takes_view w.self-is ∙ c.empty_submitted.ensures.takes)
      | then-not-empty_submitted-via-else-not-empty_submitted+then-not-empty_returned w ↦
          inr (drained_still c.args.self.now c.empty_submitted.new.self c.then-not-empty_submitted.self
          (ap waits_view w.self-is ∙ w.empty_returned.ensures.waits) (ap waits_queue w.self-is ∙ w.empty_returned.ensures.queue)
          (c.empty_submitted.ensures.drained w.if-not-empty_submitted.false))
    ]
