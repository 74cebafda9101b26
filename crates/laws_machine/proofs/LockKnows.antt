-- What a recovery of the robust set in mode LockIfLastIndex knows of the indices that it has freed; it
-- still knows this after any turn of another party.
use Rattle.std.proofs.Common.{arith}
use Rattle.laws_machine.proofs.Names.{◌≡◌, ℕ, inl, Option, Some, List, ◌++◌, ReleaseMode, Event, Flight}
use Rattle.laws_machine.proofs.Names.{RobustFlight, Frees, set_acts_of, IsOneOf, BeginsNone, LockSays, NoIndex}
use Rattle.laws_machine.proofs.Names.{FilledBut, FoundFilled, filled_then, says_later}
use Rattle.steps.specs.declared.indices.robust.recover.RecoverStage.{RecoverStage}
use Rattle.steps.specs.declared.indices.robust.recover.RecoverStage.TheVariants as recovers
use Rattle.model.specs.declared.families.Flight.TheVariants as flights
use Rattle.model.specs.declared.families.indices.robust.calls.RobustFlight.TheVariants as calls
use Rattle.model.proofs.Locks.{locked_later}

module _ {T : Type 0} where
  -- after each index that the recovery has freed some index was filled, or the set is locked
  abbrev pub Settled : ReleaseMode → ℕ → List (Event T) → Type 0
  Settled mode p events = (owner : ℕ) → FilledBut ⊥ mode p owner NoIndex events

  -- what a recovery knows at each stage of what was filled again after it freed
  abbrev pub StageKnows : ℕ → ReleaseMode → ℕ → RecoverStage → List (Event T) → Type 0
  StageKnows c mode p recovers.LoadsCounter events = Settled mode p events
  StageKnows c mode p (recovers.LoadsCell index) events = Settled mode p events
  StageKnows c mode p (recovers.Asks index owner) events = Settled mode p events
  StageKnows c mode p (recovers.EmptiesCell index owner) events = Settled mode p events
  StageKnows c mode p (recovers.Raises index raise) events = Unit {0}
  StageKnows c mode p (recovers.Locks index lock) events =
      LockSays c (FoundFilled p events) lock
  StageKnows c mode p recovers.LoadsCounterAgain events = Settled mode p events

  -- what a call knows of this: only a recovery has something to know
  abbrev pub CallKnows : ℕ → ℕ → RobustFlight → List (Event T) → Type 0
  CallKnows c p (calls.Recover run) events = StageKnows c run.given p run.call.stage events
  CallKnows c p call events = Unit {0}

  -- what a call of a machine knows of locks, if it is one of a set of owners
  abbrev pub FlightKnows : ℕ → ℕ → Option (Flight T) → List (Event T) → Type 0
  FlightKnows c p (Some (flights.Robust call)) events = CallKnows c p call events
  FlightKnows c p flight events = Unit {0}

  -- ---- after events in which the party frees nothing

  -- with the events `es` the party begins no call, and frees no index that it had not freed
  module _ (p : ℕ) (events es : List (Event T)) (none : BeginsNone p es)
      (frees : (i owner : ℕ) → IsOneOf (Frees i owner) (set_acts_of p (events ++ es)) → IsOneOf (Frees i owner) (set_acts_of p events)) where
    -- what is settled of the party's recovery stays so as events are added
    pub settled_then : (mode : ReleaseMode) → Settled mode p events → Settled mode p (events ++ es)
    settled_then mode settled owner =
        let stays_filled = filled_then p owner ⊥ ⊥ (λ worn. worn) mode NoIndex NoIndex in
        stays_filled events es none
        (λ i was. inl (frees i owner was)) (λ i never. never) (locked_later events es) (settled owner)

  -- ---- after a turn of another party

  -- with the events `es` the party begins no call, and its set acts stay as they were
  module _ (c p : ℕ) (events es : List (Event T)) (none : BeginsNone p es) (same : set_acts_of p (events ++ es) ≡ set_acts_of p events) where
    -- what is settled in a mode stays so as events are added
    still : (mode : ReleaseMode) → Settled mode p events → Settled mode p (events ++ es)
    still = grind (arith, settled_then)

    -- what a recovery knows at a stage it knows after further events
    stage_later : (mode : ReleaseMode) (stage : RecoverStage) → StageKnows c mode p stage events → StageKnows c mode p stage (events ++ es)
    stage_later = grind (arith, still, says_later)

    -- what a call of the set knows of locks it knows after further events
    call_later : (call : RobustFlight) → CallKnows c p call events → CallKnows c p call (events ++ es)
    call_later = grind (arith, stage_later)

    -- what a call knows of locks it knows after further events
    pub flight_later : (o : Option (Flight T)) → FlightKnows c p o events → FlightKnows c p o (events ++ es)
    flight_later (Some (flights.Robust call)) flight_knows = call_later call flight_knows
    flight_later o flight_knows = tt
