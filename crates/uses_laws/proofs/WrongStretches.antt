-- A call that begins where only others may, and a party that is not silent.
use Rattle.std.proofs.Common.{◌≡◌, ℕ, true, false, [], ◌∷◌, refl}
use Rattle.model.specs.declared.event.Event.{Event}
use Rattle.model.specs.declared.event.Event.TheVariants.{Begun}
use Rattle.model.specs.declared.event.Start.{Start}
use Rattle.model.specs.declared.event.Start.TheVariants.{Robust}
use Rattle.model.specs.declared.families.indices.robust.RobustStart.TheVariants.{Release}
use Rattle.headline_threads.specs.Ends.{BeginSuch}
use Rattle.lock_free.specs.ReleaseMode.TheVariants.{Default, LockIfLastIndex}
use Rattle.lock_free_owners.specs.Worn.{may_lock}
use Rattle.pages.specs.Machine.{Invoked, Responded}
use Rattle.pages_threads.specs.Silent.{IsSilent}

-- ---- what begins

-- The call is none that may lock the set or the container.
abbrev KeepsUnlocked : Start ℕ → Type 0
KeepsUnlocked start = may_lock start ≡ false

abbrev default : Event ℕ
default = Begun 0 (Robust (Release 0 7 Default))

abbrev locking : Event ℕ
locking = Begun 1 (Robust (Release 0 7 LockIfLastIndex))

pub begins_default : BeginSuch KeepsUnlocked (default ∷ [])
begins_default = (refl, tt)

pub begins_locking : BeginSuch KeepsUnlocked (default ∷ locking ∷ []) → ⊥
begins_locking begin_such = let clash : true ≡ false = begin_such.1.0 in cc

-- ---- a silent party

pub invokes : IsSilent {Call = ℕ} {Answer = ℕ} 0 (Invoked 0 5 ∷ []) → ⊥
invokes silent = silent.0 refl

pub responds : IsSilent {Call = ℕ} {Answer = ℕ} 0 (Responded 0 5 ∷ []) → ⊥
responds silent = silent.0 refl

-- while party 0 is silent, party 1 may call and respond
pub is_silent : IsSilent {Call = ℕ} {Answer = ℕ} 0 (Invoked 1 5 ∷ Responded 1 5 ∷ [])
is_silent = ((λ e. cc), ((λ e. cc), tt))
