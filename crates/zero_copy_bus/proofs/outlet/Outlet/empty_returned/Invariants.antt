use Rattle.std.proofs.Common.{◌≡◌}
use Rattle.history.specs.History.{IsBeginning}
use Rattle.zero_copy_bus.specs.Outlets.{holder_of, takes_view, waits_queue, waits_view}
use Rattle.zero_copy_bus.proofs.outlet.Outlet.empty_returned.Given as given

-- the pops of the loop change nothing but what is known of the queue of returns
abbrev pub invariant-loop : given.invariant-loop
invariant-loop l =
    record {
      holder : holder_of l.self ≡ holder_of l.fn.self;
      queue : waits_queue l.self ≡ waits_queue l.fn.self;
      waits : waits_view l.self ≡ waits_view l.fn.self;
      end : l.self.sends ≡ l.fn.self.sends;
      since : IsBeginning (takes_view l.fn.self).seen (takes_view l.self).seen;
    }
