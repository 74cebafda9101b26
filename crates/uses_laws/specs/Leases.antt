-- What it means for a pool of indices to be young (no counter is near its end and no call may lock), and to
-- have been full at a moment of a call.
use Rattle.std.specs.Prelude.{◌≡◌, ℕ, ◌-◌, ◌*◌, ◌^◌, ◌<◌, List}
use Rattle.model.specs.Families.Indices.Robust.Promises.{IsFilled}
use Rattle.model.specs.Moments.{HeldSometime}
use Rattle.lock_free.specs.Event.{Event}
use Rattle.lock_free.specs.OwnerLaws.{changes, lock_calls}

-- No call that may lock was begun, and fewer changes were made than bring a 64-bit counter to its end.
pub record IsYoung (events : List (Event ℕ)) : Type 0 where
  pub unlocked : lock_calls events ≡ 0
  pub few : 3 * changes events < 2 ^ 64 - 2

-- For each index below the capacity there is a moment of the party's latest call at which
-- the index had an owner.
pub record WasFull (capacity : ℕ) (events : List (Event ℕ)) : Type 0 where
  pub by : ℕ
  pub full : (index : ℕ) → index < capacity → HeldSometime by (IsFilled index) events
