use Rattle.std.proofs.Common.{◌≡◌, vec_len}
use Rattle.zero_copy_bus.specs.Books.{GainsNone, KeepsLoans}
use Rattle.zero_copy_bus.specs.Outlets.{holders_in, open_in, IsTakenBack}
use Rattle.zero_copy_bus.specs.Pools.{slots_of, table_of, IsSame}
use Rattle.zero_copy_bus.proofs.LaneLemmas.{DoneTo, KeepsAbove}
use Rattle.zero_copy_bus.proofs.outlets.take_all_back.Given as given

-- The loop has taken slots back from the lanes below `place`, and bits above are unchanged in the table.
abbrev pub invariant-loop-place : given.invariant-loop-place
invariant-loop-place l =
    record {
      end : l.place-end ≡ vec_len l.outlets;
      holders : holders_in l.outlets.items ≡ holders_in l.fn.outlets.items;
      taking : open_in l.outlets.items ≡ open_in l.fn.outlets.items;
      taken : DoneTo (IsTakenBack (slots_of l.fn.pool) (table_of l.fn.pool) (table_of l.pool)) l.place l.fn.outlets.items l.outlets.items;
      above : KeepsAbove l.place (table_of l.fn.pool) (table_of l.pool);
      gains : GainsNone (table_of l.fn.pool) (table_of l.pool);
      loans : KeepsLoans (table_of l.fn.pool) (table_of l.pool);
      same : IsSame l.fn.pool l.pool;
    }
