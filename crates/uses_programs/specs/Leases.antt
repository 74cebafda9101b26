-- What a pass of a robust index set has leased, by what it made: it was granted these indices, and ended no lease.
use Rattle.std.specs.Prelude.{◌≡◌, ℕ, List, sum_by}
use Rattle.model.specs.declared.event.Start.TheVariants.{Container}
use Rattle.model.specs.declared.families.container.ContainerStart.TheVariants.{Recover}
use Rattle.lock_free.specs.Event.{Event}
use Rattle.lock_free.specs.Event.TheVariants.{Begun, Granted, FreedOf, Told, Died}
use Rattle.lock_free.specs.Unique.Held.{one_if, times}

-- 1 for a grant of index i
abbrev pub grants : ℕ → Event ℕ → ℕ
grants i (Granted p index owner) = one_if index i
grants i e = 0

-- 1 for an event that gives an index back, or says that an owner is gone
abbrev pub ends : Event ℕ → ℕ
ends (FreedOf p index owner) = 1
ends (Told p index owner) = 1
ends (Died owner) = 1
ends (Begun p (Container (Recover owner mode))) = 1
ends e = 0

-- each of these indices was granted as often as it is listed, and none was given back and no owner called gone since
pub record HasLeased (indices : List ℕ) (made : List (Event ℕ)) : Type 0 where
  pub granted : (i : ℕ) → sum_by (grants i) made ≡ times i indices
  pub kept : sum_by ends made ≡ 0
