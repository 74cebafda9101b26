-- What a machine holds, beside what the object says: the flags of a bit set, counts, and what a container's states show.
use Rattle.std.specs.Prelude.{◌≡◌, ℕ, Bool, true, false, Option, Some, None, option_map}
use Rattle.model.specs.declared.families.Flight.{Flight}
use Rattle.model.specs.declared.families.Flight.TheVariants as flights
use Rattle.model.specs.declared.families.Registry.{Registry}
use Rattle.model.specs.declared.families.Registry.TheVariants as registries
use Rattle.model.specs.declared.families.container.calls.ContainerFlight.TheVariants.{Look}
use Rattle.model.specs.declared.turn.Kind.{Kind}
use Rattle.model.specs.declared.turn.Kind.TheVariants as kinds
use Rattle.model.specs.Families.Container.States.{state_of}
use Rattle.model.specs.Objects.{standing}
use Rattle.model.specs.Turns.{IsReached}
use Rattle.model.specs.World.{Trace, flight_in}
use Rattle.plain.specs.Bits.{places_in}
use Rattle.plain.specs.States.{Snapshot, snapshot_of}
use Rattle.headline_whole.specs.Dialogues.{stands_after, calls_of}
use Rattle.headline_whole.specs.Objects.{is_places_call, whole_places, whole_counts, whole_map}
use Rattle.headline_whole.specs.Whole.{answered}

module _ {T : Type 0} where
  -- The words hold the object after the finished calls: the places of a bit set, and counts. Of other kinds nothing is said.
  abbrev pub HoldsPlaces : Kind → Trace T → Type 0
  HoldsPlaces kinds.Bits t =
      places_in t.world.capacity t.world.words
      ≡ standing (whole_places t.world.capacity).object (answered is_places_call t.events)
  HoldsPlaces kinds.Counts t =
      t.world.words ≡ standing (whole_counts t.world.capacity).object (answered is_places_call t.events)
  HoldsPlaces kind t = Unit {0}

  -- a call that makes or changes the state of its party is under way
  abbrev pub is_look : Option (Flight T) → Bool
  is_look (Some (flights.Container (Look which call))) = true
  is_look flight = false

  -- what the kept state of a party shows, or nothing where none is kept
  abbrev pub kept_view : Registry T → ℕ → Option (Snapshot T)
  kept_view (registries.Container dead states) p = option_map snapshot_of (state_of p states)
  kept_view kept p = None

  -- The state that the machine keeps for a party with no look under way shows what the object says of that party
  -- after the finished calls.
  abbrev pub ShowsViews : (t : Trace T) → IsReached t → Type 0
  ShowsViews t r =
      (p : ℕ) → is_look (flight_in t.world p) ≡ false
      → kept_view t.world.kept p ≡ (stands_after (whole_map t.world.capacity) (calls_of t r)).views p
