-- The owners that have died, by number, and which calls may not go on for them.
use Rattle.std.specs.Prelude.{ℕ, Bool, true, false, not, Option, Some, List, [], ◌∷◌}
use Rattle.std.specs.BTreeMap.{is_at}
use Rattle.std.specs.BTreeSet.{insert_key}
use Rattle.std.specs.List.{list_any}
use Rattle.std.specs.Ordering.{nat_cmp}
use Rattle.steps.specs.declared.indices.robust.recover.RecoverStage.{RecoverStage}
use Rattle.steps.specs.declared.indices.robust.recover.RecoverStage.TheVariants.{Asks}
use Rattle.model.specs.declared.families.Registry.{Registry}
use Rattle.model.specs.declared.families.Registry.TheVariants as registries
use Rattle.model.specs.declared.families.indices.robust.calls.RobustFlight.{RobustFlight}
use Rattle.model.specs.declared.families.indices.robust.calls.RobustFlight.TheVariants as robust_flights
use Rattle.model.specs.declared.turn.Refusal.{Refusal}
use Rattle.model.specs.declared.turn.Refusal.TheVariants.{OwnerIsDead, OwnerLives}

-- whether the owner is among the dead
abbrev pub has_died : ℕ → List ℕ → Bool
has_died owner dead = list_any (is_at (nat_cmp owner)) dead

-- the dead, with this owner
abbrev pub dead_with : ℕ → List ℕ → List ℕ
dead_with owner dead = insert_key nat_cmp dead owner

-- ---- a call goes on

-- the call acquires or releases for an owner who is dead
abbrev pub acts_for_dead : List ℕ → RobustFlight → Bool
acts_for_dead dead (robust_flights.Acquire run) = has_died run.given dead
acts_for_dead dead (robust_flights.Release run) = has_died run.given.owner dead
acts_for_dead dead flight = false

-- whether a recovery asks about an index of an owner who lives
abbrev pub asks_about_living : List ℕ → RecoverStage → Bool
asks_about_living dead (Asks index owner) = not (has_died owner dead)
asks_about_living dead stage = false

-- the decision is a yes by which a recovery would free an index of an owner who lives
abbrev pub frees_living : List ℕ → RobustFlight → Option Bool → Bool
frees_living dead (robust_flights.Recover run) (Some true) =
    asks_about_living dead run.call.stage
frees_living dead flight said = false

-- what is tested of a call that is to go on, by a decision or without
abbrev pub going_rows : List ℕ → RobustFlight → Option Bool → List (Bool × Refusal)
going_rows dead flight said =
    (acts_for_dead dead flight, OwnerIsDead) ∷ (frees_living dead flight said, OwnerLives) ∷ []

-- what is tested before a call goes on, by who has died
abbrev pub kept_going_rows : {T : Type 0} → RobustFlight → Registry T → Option Bool → List (Bool × Refusal)
kept_going_rows flight (registries.Owners dead) said = going_rows dead flight said
kept_going_rows flight kept said = []
