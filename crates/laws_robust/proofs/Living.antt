-- No owner dies in an open run, so no step of a call is refused because its owner is dead.
use Rattle.std.proofs.Common.{arith}
use Rattle.laws_robust.proofs.Names.{◌≡◌, ℕ, false, Some, None, List, refl, ◌∙◌, AllByRecursion, Event}
use Rattle.laws_robust.proofs.Names.{Start, Flight, Registry, RobustFlight, Coding, beside_of, step_of}
use Rattle.laws_robust.proofs.Names.{going_rows, after, has_died, acts_for_dead, frees_living, effects, first_row}
use Rattle.laws_robust.proofs.Names.{events_of_step, Trace, stands_there}
use Rattle.model.specs.declared.families.Flight.TheVariants as flights
use Rattle.model.specs.declared.families.Registry.TheVariants as registries
use Rattle.model.specs.declared.families.indices.robust.calls.RobustFlight.TheVariants.{Recover}
use Rattle.model.proofs.Frame as frame
use Rattle.laws_robust.specs.Gone.{Word}
use Rattle.lemmas_owners.proofs.Alive.{Leaves, AllLive, StepsLeave, end_leaves}
use Rattle.laws_robust.proofs.Invariant.{family_by}
use Rattle.lemmas_owners.proofs.Lists.{all_both}
use Rattle.laws_robust.proofs.Written.{effects_hold}

-- `c` is the capacity, `t` the run so far, and `s` says that the invariant holds after it
module _ {T : Type 0} (code : Coding T) (c : ℕ) (t : Trace T) (s : frame.Sound (family_by Word code c) t) where
  -- ---- what a step writes

  module _ (p answer : ℕ) where
    -- the events that the step of a call writes
    abbrev writes : Registry T → Start T → Flight T → List (Event T)
    writes kept start flight =
        events_of_step p start (step_of t.world.coding t.world.words (beside_of t.world.words kept t.world.latest p) p start flight answer kept)

    -- what the step of a call writes kills no owner
    step_leaves : (start : Start T) (flight : Flight T) → (family_by Word code c).At s.state p start flight
        → AllByRecursion Leaves (writes (registries.Owners s.state.dead) start flight)
    step_leaves = grind (arith, all_both, effects, effects_hold, end_leaves, after)

  -- the machine keeps the owners that died, as the set has them
  same_kept : t.world.kept ≡ registries.Owners s.state.dead
  same_kept = s.fit.kept

  -- what any call under way writes kills no owner
  pub steps_leave : StepsLeave t
  steps_leave x0 x1 x2 x3 x4 x5 x6 = grind (arith, stands_there, same_kept, step_leaves)

  -- ---- turns that are not refused

  module _ (all : AllLive t.events) where
    -- no owner has died
    pub has_not_died : (owner : ℕ) → has_died owner s.state.dead ≡ false
    has_not_died owner = s.holds.good.died owner ∙ all owner

    -- no call acts for a dead owner, as none is dead
    acts_for_none : (flight : RobustFlight) → acts_for_dead s.state.dead flight ≡ false
    acts_for_none = grind (arith, has_not_died)

    -- no call frees a living owner's index in a turn without a decision
    frees_none : (flight : RobustFlight) → frees_living s.state.dead flight None ≡ false
    frees_none (Recover run) = refl
    frees_none flight = refl

    -- no row refuses a step of a call of the set
    pub step_is_free : (flight : RobustFlight) → first_row (going_rows t.world.coding t.world.kept (Some (flights.Robust flight)) None) ≡ None
    step_is_free = grind (arith, first_row, same_kept, acts_for_none, frees_none)
