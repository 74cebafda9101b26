use Rattle.std.proofs.Common.{◌≡◌, vec_len}
use Rattle.zero_copy_bus.specs.Outlets.{holders_in, open_in, StaysOrLost}
use Rattle.zero_copy_bus.proofs.LaneLemmas.{DoneTo}
use Rattle.zero_copy_bus.proofs.outlets.free_inlet.Given as given

-- The loop has tried the lanes below `place`: each is unchanged or was lost (`DoneTo`), and the
-- same lanes take part.
abbrev pub invariant-loop-place : given.invariant-loop-place
invariant-loop-place l =
    record {
      end : l.place-end ≡ vec_len l.outlets;
      holders : holders_in l.outlets.items ≡ holders_in l.fn.outlets.items;
      taking : open_in l.outlets.items ≡ open_in l.fn.outlets.items;
      done : DoneTo StaysOrLost l.place l.fn.outlets.items l.outlets.items;
    }
