use Rattle.std.proofs.Common.{◌≡◌, vec_len}
use Rattle.zero_copy_bus.specs.Books.{KeepsAllOrNone, KeepsLoans}
use Rattle.zero_copy_bus.specs.Outlets.{holders_in, IsSettled}
use Rattle.zero_copy_bus.specs.Pools.{table_of, IsSame}
use Rattle.zero_copy_bus.proofs.LaneLemmas.{DoneTo, KeepsAbove}
use Rattle.zero_copy_bus.proofs.outlets.settle_all.Given as given

-- The loop has settled the lanes below `place`, and bits above are unchanged in the table.
abbrev pub invariant-loop-place : given.invariant-loop-place
invariant-loop-place g l =
    record {
      end : l.place-end ≡ vec_len l.outlets;
      holders : holders_in l.outlets.items ≡ holders_in l.fn.outlets.items;
      settled : DoneTo (IsSettled l.fn.roll (table_of l.fn.pool) (table_of l.pool)) l.place l.fn.outlets.items l.outlets.items;
      above : KeepsAbove l.place (table_of l.fn.pool) (table_of l.pool);
      all : KeepsAllOrNone (table_of l.fn.pool) (table_of l.pool);
      loans : KeepsLoans (table_of l.fn.pool) (table_of l.pool);
      same : IsSame l.fn.pool l.pool;
    }
