-- `Outlet::inlet` (src/outlet.rt): its return meets the clause `leased`.
use Rattle.std.proofs.Common.{refl, ap, ◌∙◌}
use Rattle.lock_free_queues.specs.Queues.Rings.{view}
use Rattle.zero_copy_bus.specs.Outlets.{waits_view}
use Rattle.zero_copy_bus.proofs.outlet.Outlet.inlet.Goals as goal

-- the two splits and the two acquires of the body are those that `WasLet` names
pub returns-clause-leased : goal.returns-clause-leased
returns-clause-leased c =
    let ours = c.in-Ok.ensures.acquired in
    let theirs = c.in-Ok-acquire_consumer.ensures.acquired in
    record {
      free = c.in-Free.is;
      is = refl;
      queue = c.in_ok-theirs.ensures.queue ∙ (c.in_ok-ours.ensures.queue ∙ c.take_in.ensures.queue);
      whole = waits_view c.take_in.new.self;
      from = λ none. ap view (c.take_in.ensures.still none);
      ours = view c.in_ok-ours.ours;
      half = view c.split-2.new.self;
      other = view c.in_ok-theirs.theirs;
      cut = c.in_ok-ours.ensures.cut;
      again = c.in_ok-theirs.ensures.cut;
      begins = (ours.0.goes, ours.1);
      waits = (theirs.0.goes, theirs.1);
    }
