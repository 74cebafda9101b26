-- What names a set or a container: its table, and its capacity.
use Rattle.std.specs.Prelude.{ℕ}
use Rattle.atomic_table.specs.Seated.{TableId}

-- which set it is: its table, and its capacity
pub record SetId : Type 0 where
  pub table : TableId
  pub capacity : ℕ
