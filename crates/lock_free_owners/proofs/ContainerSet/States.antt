-- What an add, a remove, a replace, a count, a look at the lock and a recovery leave of their pass.
use Rattle.lock_free_owners.proofs.Names.{◌≡◌, ℕ, Bool, Option, IfSome, refl, arith, Added, Removed, Replaced, Owned, DeadOwner, Replacement, GiveBack}
use Rattle.lock_free_owners.proofs.Names.{ReleaseState, CountOf, coding_by, adds_value, removes_value, replaces_value, counts_values, sees_lock}
use Rattle.lock_free_owners.proofs.Names.{Calling, Ends, LeavesState}
use Rattle.steps.specs.declared.words.Words.{Ghosts}
use Rattle.model.specs.declared.turn.Kind.TheVariants as kinds
use Rattle.history_owners.specs.Settled.{EndsSettled}
use Rattle.lock_free_owners.specs.declared.mpmc.container.Pass.{Pass}
use Rattle.lock_free_owners.specs.Container.Calls.{KeepsPass}
use Rattle.lock_free_owners.specs.Container.Names.{container_of, view}
use Rattle.lock_free_owners.specs.Container.RecoverTurns.{Visiting, recovering}
use Rattle.lock_free_owners.proofs.ContainerSet.Began.{ended_goes, ended_aside, ended_keeps}

-- the call has ended in the new pass
abbrev Ended : {T C M E : Type 0} {words : Ghosts T} → Pass T words → Pass T words → Calling T C M E → E → M → Type 0
Ended {words = words} old new call e m =
    EndsSettled (coding_by words) kinds.Container (Ends (coding_by words) kinds.Container call) (view old) e m (view new)

module _ {T : Type 0} {words : Ghosts T} {old new : Pass T words} (container : container_of new ≡ container_of old) where
  -- A call that is no look of a state leaves of its pass what `KeepsPass` says, if a pass that was a party makes the call as this party.
  leaves : {C M E : Type 0} (call : Calling T C M E) → LeavesState call → ((was : Option ℕ) (p : ℕ) → call.by was p → IfSome was (λ q. q ≡ p))
      → {e : E} {m : M} → Ended old new call e m → KeepsPass old new
  leaves call no_look by_same ends =
      record {
        container = container;
        idle = ends.over.idle;
        goes = ended_goes ends.settled call ends.over;
        aside = ended_aside ends.settled call ends.over;
        keeps = ended_keeps ends.settled call no_look by_same ends.over;
      }

  -- An add leaves of its pass what `KeepsPass` says.
  pub add_leaves : (given : Owned T) → {e : Added} → Ended old new (adds_value (coding_by words).size given) e tt → KeepsPass old new
  add_leaves given = leaves (adds_value (coding_by words).size given) (record { start = refl; flight = λ c k. refl }) (λ was p by. by)

  -- A remove leaves of its pass what `KeepsPass` says.
  pub remove_leaves : (given : GiveBack) → {e : Removed} → Ended old new (removes_value given) e tt → KeepsPass old new
  remove_leaves given = leaves (removes_value given) (record { start = refl; flight = λ c k. refl }) (λ was p by. by)

  -- A replace leaves of its pass what `KeepsPass` says.
  pub replace_leaves : (given : Replacement T) → {e : Replaced} → Ended old new (replaces_value (coding_by words).size given) e tt → KeepsPass old new
  replace_leaves given = leaves (replaces_value (coding_by words).size given) (record { start = refl; flight = λ c k. refl }) (λ was p by. by)

  -- A count leaves of its pass what `KeepsPass` says.
  pub count_leaves : (which : CountOf) → {e : ℕ} → Ended old new (counts_values which) e tt → KeepsPass old new
  count_leaves which = leaves (counts_values which) (record { start = grind arith; flight = λ c k. refl }) (λ was p by. by)

  -- A call of `is_locked` leaves of its pass what `KeepsPass` says.
  pub lock_leaves : {e : Bool} → Ended old new sees_lock e tt → KeepsPass old new
  lock_leaves = leaves sees_lock (record { start = refl; flight = λ c k. refl }) (λ was p by. by)

  -- A recovery leaves of its pass what `KeepsPass` says.
  pub recover_leaves : (given : DeadOwner) → {e : ReleaseState} {m : Visiting T} → Ended old new (recovering (coding_by words) given) e m → KeepsPass old new
  recover_leaves given = leaves (recovering (coding_by words) given) (record { start = refl; flight = λ c k. refl }) (λ was p by. by)
