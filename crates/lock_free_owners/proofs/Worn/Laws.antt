-- A history after which the generation counter of a set or container may be at its end has at least
-- (2^64 - 2) / 3 changes, if no two calls that may lock overlap in it.
use Rattle.std.proofs.Common.{◌≡◌, ℕ, ◌-◌, ◌*◌, ◌^◌, ◌≤◌, List, ◌∷◌, ◌++◌, refl, sym, ap, subst, ◌∙◌, arith}
use Rattle.std.proofs.lemmas.List.Sums.{sum_by-append, sum_by-cons}
use Rattle.model.specs.declared.event.Event.{Event}
use Rattle.model.specs.declared.event.Event.TheVariants.{Begun}
use Rattle.model.specs.Coding.{Coding}
use Rattle.lock_free_owners.specs.Robust.Contracts.{IsWorn}
use Rattle.lock_free_owners.specs.Container.Contracts as containers
use Rattle.lock_free_owners.specs.Worn.{changes, LocksApart, lock_call, lock_calls}
use Rattle.lock_free_owners.proofs.Worn.RobustWorn as robust
use Rattle.lock_free_owners.proofs.Worn.RobustWorn.{worn_after}
use Rattle.lock_free_owners.proofs.Worn.ContainerWorn as container

-- A history of a robust set after which its counter may be at its end has at least (2^64 - 2) / 3 changes.
pub worn_set : (capacity : ℕ) (events : List (Event ℕ)) → IsWorn capacity events → LocksApart events → 2 ^ 64 - 2 ≤ 3 * changes events
worn_set capacity events h apart =
    let bounded = robust.reached_bounded h.trace h.run.of_kind h.run.reached (subst LocksApart h.is apart) in
    subst (λ es. 2 ^ 64 - 2 ≤ 3 * changes es) (sym h.is) (worn_after h.trace bounded h.worn)

-- A history of a container after which its counter may be at its end has at least (2^64 - 2) / 3 changes.
pub worn_container : {T : Type 0} (code : Coding T) (capacity : ℕ) (events : List (Event T)) → containers.IsWorn code capacity events → LocksApart events
    → 2 ^ 64 - 2 ≤ 3 * changes events
worn_container code capacity events h apart =
    let bounded = container.reached_bounded h.trace h.run.of_kind h.run.reached (subst LocksApart h.is apart) in
    subst (λ es. 2 ^ 64 - 2 ≤ 3 * changes es) (sym h.is) (worn_after h.trace bounded h.worn)

-- where no call that may lock was begun, none overlap
module _ {T : Type 0} where
  -- where no call that may lock was begun, no two of them overlap
  pub none_overlap : (events : List (Event T)) → lock_calls events ≡ 0 → LocksApart events
  none_overlap events none before after (Begun p start) is = λ may q. (
      let all = sum_by-append lock_call before (Begun p start ∷ after) in
      let here = sum_by-cons lock_call (Begun p start) after in
      let one : lock_call (Begun p start) ≡ 1 = rw may refl in
      let zero : lock_calls (before ++ Begun p start ∷ after) ≡ 0 = ap lock_calls (sym is) ∙ none in
      absurd (omega arith))
  none_overlap events none before after e is = tt
