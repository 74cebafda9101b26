-- The words of the container at its opening, who may begin which call, and what its begin keeps.
use Rattle.std.specs.Prelude.{ℕ, ◌+◌, ◌*◌, ◌-◌, ◌^◌, ◌&&◌, Bool, true, false, not, Option, Some, None, is_some}
use Rattle.std.specs.Prelude.{option_map, List, [], ◌∷◌, ◌++◌, replicate, if◌then◌else◌}
use Rattle.steps.specs.declared.container.state.ContainerState.{ContainerState}
use Rattle.model.specs.declared.families.Flight.{Flight}
use Rattle.model.specs.declared.families.Flight.TheVariants as flights
use Rattle.model.specs.declared.families.Registry.{Registry}
use Rattle.model.specs.declared.families.Registry.TheVariants as registries
use Rattle.model.specs.declared.families.container.ContainerStart.{ContainerStart}
use Rattle.model.specs.declared.families.container.ContainerStart.TheVariants.{Add, Remove, Replace, Find, Recover, GetState, UpdateState}
use Rattle.model.specs.declared.families.container.calls.ContainerFlight.{ContainerFlight}
use Rattle.model.specs.declared.turn.Kind.{Kind}
use Rattle.model.specs.declared.turn.Kind.TheVariants as kinds
use Rattle.model.specs.declared.turn.Refusal.{Refusal}
use Rattle.model.specs.declared.turn.Refusal.TheVariants.{WrongCall, OwnerIsDead, OwnerLives}
use Rattle.model.specs.Coding.{Coding}
use Rattle.model.specs.Families.Container.Calls.{first}
use Rattle.model.specs.Families.Container.States.{state_of, with_state, fresh}
use Rattle.model.specs.Families.Indices.Robust.Dead.{has_died}
use Rattle.model.specs.Families.Indices.Robust.Opening as robust
use Rattle.model.specs.Opening.{Opening}
use Rattle.model.specs.Step.{Beginning}

-- the words of its set of indices; then how often it has changed, the number of each element, and the words of each
abbrev pub opening_words : (size capacity : ℕ) → List ℕ
opening_words size capacity =
    robust.opening_words capacity ++ replicate (1 + capacity + size * capacity) 0

-- How a container opens: its capacity is from 1 to 2^32 - 1, nobody has died, and no party has a state.
abbrev pub opening : Opening
opening =
    record {
      least = 1;
      greatest = 2 ^ 32 - 1;
      words = opening_words;
      kept = λ capacity. registries.Container [] [];
    }

-- ---- a call begins

-- whether a machine of a kind is a container
abbrev pub is_container : Kind → Bool
is_container kinds.Container = true
is_container kind = false

module _ {T : Type 0} where
  -- Whether the number that the call names as owner may be one. The greatest number of 64 bits marks an
  -- empty cell, so it is no owner.
  abbrev pub names_owner : ContainerStart T → Bool
  names_owner (Add value owner) = robust.is_owner owner
  names_owner (Remove index owner mode) = robust.is_owner owner
  names_owner (Replace index value owner) = robust.is_owner owner
  names_owner (Find owner) = robust.is_owner owner
  names_owner (Recover owner mode) = robust.is_owner owner
  names_owner start = true

  -- the call that begins on a machine of this kind, if that is a container and the owner that it names may be one
  abbrev pub call_of : Kind → ℕ → ContainerStart T → Option (ContainerFlight T)
  call_of kind capacity start =
      if is_container kind && names_owner start then Some (first capacity start) else None

  -- what is tested of a call that is to begin: that the owner for whom it is to add, remove or replace lives, and that
  -- the one whose indices it is to free is dead
  abbrev pub call_rows : List ℕ → ContainerStart T → List (Bool × Refusal)
  call_rows dead (Add value owner) = (has_died owner dead, OwnerIsDead) ∷ []
  call_rows dead (Remove index owner mode) = (has_died owner dead, OwnerIsDead) ∷ []
  call_rows dead (Replace index value owner) = (has_died owner dead, OwnerIsDead) ∷ []
  call_rows dead (Recover owner mode) = (not (has_died owner dead), OwnerLives) ∷ []
  call_rows dead start = []

  -- what is tested before a party begins the call, by who has died
  abbrev pub kept_rows : ContainerStart T → Registry T → ℕ → List (Bool × Refusal)
  kept_rows start (registries.Container dead states) p = call_rows dead start
  kept_rows start kept p = (true, WrongCall) ∷ []

  -- how a call of the container begins, and what is tested before
  abbrev pub begin : Kind → ℕ → ContainerStart T → Beginning (Flight T) (Registry T)
  begin kind capacity start =
      record {
        call = λ kept. option_map flights.Container (call_of kind capacity start);
        rows = kept_rows start;
      }

  -- ---- what a begin keeps

  -- The parties' states once a call has begun. `GetState` gives its party a new state, and so does
  -- `UpdateState` if its party has none. Any other call leaves the states as they are.
  abbrev pub states_at_begin : Coding T → ℕ → ContainerStart T → ℕ → List (ℕ × ContainerState T)
      → List (ℕ × ContainerState T)
  states_at_begin code capacity GetState p states = with_state p (fresh code capacity) states
  states_at_begin code capacity UpdateState p states =
      if is_some (state_of p states) then states else with_state p (fresh code capacity) states
  states_at_begin code capacity start p states = states

  -- what the machine keeps of the container once the call has begun: a look has a state to go on with
  abbrev pub keeps : Coding T → ℕ → ContainerStart T → ℕ → Registry T → Registry T
  keeps code capacity start p (registries.Container dead states) =
      registries.Container dead (states_at_begin code capacity start p states)
  keeps code capacity start p kept = kept
