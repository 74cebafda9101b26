-- What it means for a container that its history has adds and looks only (`HasOnlyAdded`).
use Rattle.std.specs.Prelude.{◌≡◌, ℕ, ◌+◌, ◌*◌, ◌^◌, ◌<◌, List}
use Rattle.lock_free.specs.Event.{Event}
use Rattle.history_laws.specs.Containers.{recoveries, removals, rises}
use Rattle.history_laws.specs.Owners.{changes, lock_calls}

-- No recovery, removal or replacement was made, and no call that may lock was begun.
pub record HasOnlyAdded (events : List (Event ℕ)) : Type 0 where
  pub recovered : recoveries events ≡ 0
  pub removed : removals events ≡ 0
  pub unlocked : lock_calls events ≡ 0
  -- the number of changes is so small that no 64-bit counter is near its end
  pub few : 3 * changes events + rises events < 2 ^ 63
