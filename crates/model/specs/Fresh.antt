-- Runs in which no push finds the last position, and no store of the single value the last version.
use Rattle.std.specs.Prelude.{◌≡◌, ℕ, ◌-◌, ◌^◌, ◌<◌, Some, None, List, [], ◌∷◌}
use Rattle.steps.specs.declared.atomic.StoreStage.{StoreStage}
use Rattle.steps.specs.declared.atomic.StoreStage.TheVariants as stores
use Rattle.steps.specs.declared.queues.ring.PushStage as pushes
use Rattle.steps.specs.declared.queues.overflow.PushStage.{PushStage}
use Rattle.steps.specs.declared.queues.overflow.PushStage.TheVariants as overflow_pushes
use Rattle.model.specs.declared.families.Flight.{Flight}
use Rattle.model.specs.declared.families.Flight.TheVariants as flights
use Rattle.model.specs.declared.families.atomic.calls.AtomicFlight.TheVariants as values
use Rattle.model.specs.declared.families.queues.calls.OverflowCall.TheVariants as overflows
use Rattle.model.specs.declared.families.queues.calls.QueueFlight.{QueueFlight}
use Rattle.model.specs.declared.families.queues.calls.QueueFlight.TheVariants.{Indices, Values, Overflow}
use Rattle.model.specs.declared.families.queues.calls.RingCall.TheVariants as rings
use Rattle.model.specs.declared.turn.Turn.{Turn}
use Rattle.model.specs.declared.turn.Turn.TheVariants.{Next}
use Rattle.model.specs.Families.{want_of, ask_of}
use Rattle.model.specs.Refusals.{call_refusal}
use Rattle.model.specs.Turns.{old_of, run_on, attempt_on}
use Rattle.model.specs.World.{Trace, opening, flight_in}

-- a push that is to load the write position does not find the last
abbrev pub IsFresh : ℕ → pushes.PushStage → Type 0
IsFresh write pushes.TheVariants.LoadsWrite = write < 2 ^ 64 - 1
IsFresh write stage = Unit {0}

-- a push of an overflowing queue that is to load the write position does not find the last
abbrev pub IsFreshOver : ℕ → PushStage → Type 0
IsFreshOver write overflow_pushes.LoadsWrite = write < 2 ^ 64 - 1
IsFreshOver write stage = Unit {0}

-- a store that is to load the version does not find the last
abbrev pub IsFreshStore : ℕ → StoreStage → Type 0
IsFreshStore version stores.LoadsVersion = version < 2 ^ 64 - 1
IsFreshStore version stage = Unit {0}

module _ {T : Type 0} where
  -- a call of a queue whose word has this old value is no push that finds the last position
  abbrev pub IsFreshAt : ℕ → QueueFlight T → Type 0
  IsFreshAt found (Indices (rings.Push run)) = IsFresh found run.call.stage
  IsFreshAt found (Values (rings.Push run)) = IsFresh found run.call.stage
  IsFreshAt found (Overflow (overflows.Push run)) = IsFreshOver found run.call.stage
  IsFreshAt found flight = Unit {0}

  -- A call whose word has this old value is no push that finds the last position,
  -- and no store that finds the last version.
  abbrev pub IsFreshCall : ℕ → Flight T → Type 0
  IsFreshCall found (flights.Queues flight) = IsFreshAt found flight
  IsFreshCall found (flights.Atomic (values.Store run)) =
      IsFreshStore found run.call.stage
  IsFreshCall found flight = Unit {0}

  -- the turn is no step of a push that finds the last position, nor of a store that finds the last version
  abbrev pub IsFreshTurn : Trace T → Turn T → Type 0
  IsFreshTurn t (Next p) =
      (flight : Flight T) → flight_in t.world p ≡ Some flight
      → IsFreshCall (old_of t.world.words (ask_of (want_of t.world.coding flight))) flight
  IsFreshTurn t turn = Unit {0}

  -- each of these turns, taken one after another from the run `t`, is refused or satisfies `May`
  abbrev pub AllMay : (Trace T → Turn T → Type 0) → List (Turn T) → Trace T → Type 0
  AllMay May [] t = Unit {0}
  AllMay May (turn ∷ turns) t =
      (call_refusal t.world turn ≡ None → May t turn) × AllMay May turns (attempt_on t turn)

-- the run is from the opening by the turns `turns`, of which none finds the last position or the last version
pub record IsFreshRun {T : Type 0} (t : Trace T) : Type 0 where
  pub turns : List (Turn T)
  pub is : t
      ≡ run_on turns (opening t.world.coding t.world.kind t.world.capacity t.world.parties)
  pub fresh : AllMay IsFreshTurn turns
      (opening t.world.coding t.world.kind t.world.capacity t.world.parties)
