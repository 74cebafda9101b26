use Rattle.std.proofs.Common.{◌≡◌, ◌≤◌, take, vec_len}
use Rattle.std.specs.List.{count_by}
use Rattle.zero_copy_bus.specs.Books.{GainsOnly, KeepsLoans}
use Rattle.zero_copy_bus.specs.Outlets.{has_gained, holders_in, open_in, IsServed}
use Rattle.zero_copy_bus.specs.Pools.{table_of, IsSame}
use Rattle.zero_copy_bus.proofs.LaneLemmas.{DoneTo, KeepsAbove}
use Rattle.zero_copy_slots.specs.Slots.{lying_number, lying_slot}
use Rattle.zero_copy_bus.proofs.outlets.send_to_all.Given as given

-- The loop has served the lanes below `place`: what it did to them (`served`), how many of their subscribers
-- gained the slot (`number`), and that bits above are unchanged in the table (`above`).
abbrev pub invariant-loop-place : given.invariant-loop-place
invariant-loop-place l =
    record {
      end : l.place-end ≡ vec_len l.outlets;
      holders : holders_in l.outlets.items ≡ holders_in l.fn.outlets.items;
      taking : open_in l.outlets.items ≡ open_in l.fn.outlets.items;
      served :
          DoneTo (IsServed l.layout.room (lying_number l.lying) (lying_slot l.lying) (table_of l.fn.pool) (table_of l.pool)) l.place
          l.fn.outlets.items l.outlets.items;
      above : KeepsAbove l.place (table_of l.fn.pool) (table_of l.pool);
      number : l.number ≡ count_by (has_gained (lying_slot l.lying) (table_of l.fn.pool) (table_of l.pool)) (take l.place l.fn.outlets.items);
      few : l.number ≤ l.place;
      gains : GainsOnly (lying_slot l.lying) (table_of l.fn.pool) (table_of l.pool);
      loans : KeepsLoans (table_of l.fn.pool) (table_of l.pool);
      nobody : l.number ≡ 0 → table_of l.pool ≡ table_of l.fn.pool;
      same : IsSame l.fn.pool l.pool;
    }
