-- Where a call of a robust set stands at its lock, its mode is the one that locks.
use Rattle.std.proofs.Common.{◌≡◌, ℕ, true, List, arith}
use Rattle.model.specs.declared.event.Start.TheVariants.{Robust}
use Rattle.model.specs.declared.families.indices.robust.RobustStart.{RobustStart}
use Rattle.model.specs.declared.families.indices.robust.calls.RobustFlight.{RobustFlight}
use Rattle.model.specs.Families.Indices.Robust.Reading.{SetAct}
use Rattle.laws_robust.proofs.CallProgress.{At}
use Rattle.lock_free_owners.specs.Worn.{may_lock}
use Rattle.lock_free_owners.proofs.Worn.RobustPays.{robust_locks, RobustStands}

-- A flight that fits its span stands at a stage that there is.
pub robust_stands : (c : ℕ) (all : List SetAct) (start : RobustStart) (flight : RobustFlight) → At c all start flight → RobustStands flight
robust_stands c all start flight at = grind arith

-- A flight that may lock is of a begin that may lock.
pub robust_may : (T : Type 0) (c : ℕ) (all : List SetAct) (start : RobustStart) (flight : RobustFlight) → At c all start flight
    → robust_locks flight ≡ true → may_lock {T = T} (Robust start) ≡ true
robust_may T c all start flight at e = grind arith
