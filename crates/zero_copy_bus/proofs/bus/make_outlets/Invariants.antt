use Rattle.std.proofs.Common.{◌≡◌, vec_len}
use Rattle.zero_copy_bus.specs.Outlets.{holders_in, open_in, AllNew, HaveTheirPlaces, NobodyTakesPart}
use Rattle.zero_copy_bus.proofs.bus.make_outlets.Given as given

-- the loop has made the ends of the lanes below `place`: each has its holder, none takes
-- part, and all are new
abbrev pub invariant-loop-place : given.invariant-loop-place
invariant-loop-place l =
    record {
      many : vec_len l.outlets ≡ l.place;
      placed : HaveTheirPlaces (holders_in l.outlets.items);
      closed : NobodyTakesPart (open_in l.outlets.items);
      fresh : AllNew l.outlets.items;
    }
