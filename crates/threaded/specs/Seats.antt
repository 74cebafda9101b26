-- What names the table of a seat, and what the seat knows.
use Rattle.std.specs.Prelude.{◌≡◌, ℕ}
use Rattle.std.specs.Arc.{arc_value}
use Rattle.atomic_table.specs.Seated.{TableId}
use Rattle.threaded.specs.declared.driver.seated.Home.{Home}
use Rattle.threaded.specs.declared.driver.seated.Seated.{Seated}

module _ {V K Q : Type 0} where
  -- the key of the seat's table, with which it was made
  abbrev pub key_of : Seated V K Q → K
  key_of t = (arc_value t.table).shared.key

  -- the view of the seat: what it knows of its table
  abbrev pub seen : Seated V K Q → V
  seen t = t.seat.me.0

  -- the table that the seat is at
  abbrev pub table_of : Seated V K Q → TableId
  table_of t = t.seat.table_id

  -- the table that a structure holds
  abbrev pub home_id : Home V K Q → TableId
  home_id h = (arc_value h.table).shared.table_id

  -- the seat kept its table and its number, and the reference to the table
  abbrev pub IsSame : Seated V K Q → Seated V K Q → Type 0
  IsSame old new =
      (table_of new ≡ table_of old) × (new.seat.id ≡ old.seat.id) × (new.table ≡ old.table)

  -- the table has as many words as its key says, and the seat's view is of a table with the key's capacity
  abbrev pub IsAt : (K → ℕ) → (K → ℕ) → (V → ℕ) → Seated V K Q → Type 0
  IsAt size capacity capacity_seen t =
      ((table_of t).words ≡ size (key_of t)) × (capacity_seen (seen t) ≡ capacity (key_of t))
