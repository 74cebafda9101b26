-- What a pass knows is a run of the machine, and there is one proof at most that it knows it.
use Rattle.std.proofs.Common.{◌≡◌, ℕ, List, [], ◌∷◌, Option, refl}
use mathlib.Core.HLevel.{Π_prop}
use mathlib.Core.List.{is_set}
use mathlib.Core.Sum.{⊎_set}
use native.Mathlib.Nat.{ℕ_set}
use native.Mathlib.Bridge.{le_prop}
use Rattle.std.specs.Coded.{×_prop, Unit-prop}
use Rattle.steps.specs.declared.enums.UniqueIndexCreationError.{UniqueIndexCreationError}
use Rattle.steps.specs.declared.atomic.StoreStage.{StoreStage}
use Rattle.steps.specs.declared.atomic.StoreStage.TheVariants as stores
use Rattle.steps.specs.declared.queues.ring.PushStage as pushes
use Rattle.steps.specs.declared.queues.overflow.PushStage.{PushStage}
use Rattle.steps.specs.declared.queues.overflow.PushStage.TheVariants as overflow_pushes
use Rattle.model.specs.declared.event.Answer.{Answer}
use Rattle.model.specs.declared.event.Event.{Event}
use Rattle.model.specs.declared.event.Start.{Start}
use Rattle.model.specs.declared.families.Flight.{Flight}
use Rattle.model.specs.declared.families.Flight.TheVariants as flights
use Rattle.model.specs.declared.families.atomic.calls.AtomicFlight.TheVariants as values
use Rattle.model.specs.declared.families.queues.calls.OverflowCall.TheVariants as overflows
use Rattle.model.specs.declared.families.queues.calls.QueueFlight.{QueueFlight}
use Rattle.model.specs.declared.families.queues.calls.QueueFlight.TheVariants.{Indices, Values, Overflow}
use Rattle.model.specs.declared.families.queues.calls.RingCall.TheVariants as rings
use Rattle.model.specs.declared.turn.Kind.{Kind}
use Rattle.model.specs.declared.turn.Refusal.{Refusal}
use Rattle.model.specs.declared.turn.Turn.{Turn}
use Rattle.model.specs.declared.turn.Turn.TheVariants.{Next}
use Rattle.model.specs.Coding.{Coding, IsCoding}
use Rattle.model.specs.Turns.{AreAllowedBy, after_turn, after_turns}
use Rattle.model.specs.World.{World, Trace, opening}
use Rattle.model.specs.Fresh.{IsFreshTurn, IsFreshCall, IsFreshAt, IsFresh, IsFreshOver, IsFreshStore}
use Rattle.history.specs.declared.view.View.{View}
use Rattle.history.specs.History.{AreFresh, IsHistory, IsRun, Knows, HasAsked, others_by, refusal_as, run_of}
use Rattle.history.proofs.Reached.{reached_as_opening, fresh_as_opening}
use Rattle.history.proofs.Turns.{run_more}

module _ {T : Type 0} {code : Coding T} {kind : Kind} {capacity : ℕ} where
  -- from a run, turns that are not refused, and find neither the last position nor the last
  -- version, lead to a run
  run_to : {t : Trace T} (turns : List (Turn T)) → IsRun code kind capacity t → AreAllowedBy (refusal_as kind) t turns → AreFresh t turns
      → IsRun code kind capacity (after_turns t turns)
  run_to [] run allowed fresh = run
  run_to {t} (turn ∷ turns) run allowed fresh =
      run_to {t = (after_turn t turn)} turns (run_more code kind capacity t turn allowed.0 fresh.0 run) allowed.1 fresh.1

  -- the turns that a pass knows lead to a run
  pub known_run : {v : View T} → Knows code kind capacity v → IsRun code kind capacity (run_of code kind capacity v.turns)
  known_run {v} knows =
      run_to v.turns
      (record {
        reached = reached_as_opening code kind capacity 0 knows.coded knows.admitted;
        coded = refl;
        of_kind = refl;
        sized = refl;
        fresh = fresh_as_opening code kind capacity 0;
      })
      knows.allowed knows.fresh

  -- what a pass has seen is a history, where it knows its run
  pub known_history : {v : View T} → Knows code kind capacity v → IsHistory code kind capacity v.seen
  known_history {v} knows = record { trace = run_of code kind capacity v.turns; run = known_run knows; is = knows.is }

-- ---- one proof at most

refusal_set : IsSet (Option Refusal)
refusal_set = Prim.hlevel (⊎_set, ℕ_set)

error_set : IsSet (Option UniqueIndexCreationError)
error_set = Prim.hlevel (⊎_set, ℕ_set)

-- that a push of a queue is fresh has at most one proof
fresh_prop : (found : ℕ) (stage : pushes.PushStage) → IsProp (IsFresh found stage)
fresh_prop found pushes.TheVariants.LoadsWrite = le_prop
fresh_prop found stage = Unit-prop

-- that a push of an overflowing queue is fresh has at most one proof
fresh_over_prop : (found : ℕ) (stage : PushStage) → IsProp (IsFreshOver found stage)
fresh_over_prop found overflow_pushes.LoadsWrite = le_prop
fresh_over_prop found stage = Unit-prop

-- that a store is fresh has at most one proof
fresh_store_prop : (found : ℕ) (stage : StoreStage) → IsProp (IsFreshStore found stage)
fresh_store_prop found stores.LoadsVersion = le_prop
fresh_store_prop found stage = Unit-prop

module _ {T : Type 0} (set : IsSet T) where
  start_set : IsSet (Start T)
  start_set = Prim.hlevel (⊎_set, ℕ_set, set)

  answer_set : IsSet (Answer T)
  answer_set = Prim.hlevel (⊎_set, ℕ_set, set)

  event_set : IsSet (Event T)
  event_set = Prim.hlevel (⊎_set, ℕ_set, set, start_set, answer_set)

  coding_prop : (code : Coding T) → IsProp (IsCoding code)
  coding_prop code = Prim.hlevel (le_prop, ℕ_set, set)

module _ {T : Type 0} where
  -- that none of these turns is refused has at most one proof
  allowed_prop : (refuses : World T → Turn T → Option Refusal) (t : Trace T) (turns : List (Turn T)) → IsProp (AreAllowedBy refuses t turns)
  allowed_prop refuses t [] = Unit-prop
  allowed_prop refuses t (turn ∷ turns) = ×_prop (refusal_set _ _) (allowed_prop refuses (after_turn t turn) turns)

  -- that a queue's call is fresh has at most one proof
  fresh_at_prop : (found : ℕ) (flight : QueueFlight T) → IsProp (IsFreshAt found flight)
  fresh_at_prop found (Indices (rings.Push run)) = fresh_prop found run.call.stage
  fresh_at_prop found (Values (rings.Push run)) = fresh_prop found run.call.stage
  fresh_at_prop found (Overflow (overflows.Push run)) = fresh_over_prop found run.call.stage
  fresh_at_prop found flight = Unit-prop

  -- that any call is fresh has at most one proof
  fresh_call_prop : (found : ℕ) (flight : Flight T) → IsProp (IsFreshCall found flight)
  fresh_call_prop found (flights.Queues flight) = fresh_at_prop found flight
  fresh_call_prop found (flights.Atomic (values.Store run)) = fresh_store_prop found run.call.stage
  fresh_call_prop found flight = Unit-prop

  -- that a turn is fresh has at most one proof
  fresh_turn_prop : (t : Trace T) (turn : Turn T) → IsProp (IsFreshTurn t turn)
  fresh_turn_prop t (Next p) = Π_prop (λ flight. Π_prop (λ is. fresh_call_prop _ flight))
  fresh_turn_prop t turn = Unit-prop

  -- that turns are fresh has at most one proof
  fresh_turns_prop : (t : Trace T) (turns : List (Turn T)) → IsProp (AreFresh t turns)
  fresh_turns_prop t [] = Unit-prop
  fresh_turns_prop t (turn ∷ turns) = ×_prop (fresh_turn_prop t turn) (fresh_turns_prop (after_turn t turn) turns)

  others_prop : (code : Coding T) (kind : Kind) (capacity : ℕ) (v : View T) → IsProp (v.others ≡ others_by (run_of code kind capacity v.turns).world v.party)
  others_prop code kind capacity v = ℕ_set _ _

  asked_prop : (v : View T) (steps : ℕ) → IsProp (HasAsked v steps)
  asked_prop v steps = Prim.hlevel (le_prop, ℕ_set)

-- what a pass knows (`Knows`) has at most one proof, if any two equal values of T are equal in one way
pub knows_prop : {T : Type 0} → IsSet T → (code : Coding T) (kind : Kind) (capacity : ℕ) (v : View T) → IsProp (Knows code kind capacity v)
knows_prop set code kind capacity v =
    Prim.hlevel (coding_prop set, error_set, allowed_prop, fresh_turns_prop, is_set, event_set set, others_prop, asked_prop)
