use Rattle.std.proofs.Common.{◌≤◌}
use Rattle.zero_copy_bus.specs.Ends.{next_of}
use Rattle.zero_copy_bus.specs.Relays.{HasPublished}
use Rattle.uses_news.proofs.publish_all.Given as given

-- what was published until now, and that the next number is at most 100 if it was before
abbrev pub invariant-loop : given.invariant-loop
invariant-loop g l =
    record {
      out : HasPublished l.fn.publisher l.publisher;
      few : next_of l.fn.publisher ≤ 100 → next_of l.publisher ≤ 100;
    }
