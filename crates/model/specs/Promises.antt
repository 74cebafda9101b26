-- What holds of every turn and of every run.
use Rattle.std.specs.Prelude.{ℕ, List, [], ◌∷◌}
use Rattle.model.specs.declared.turn.Turn.{Turn}
use Rattle.model.specs.Promise.{Promise}
use Rattle.model.specs.Reading.{Each, span_of}
use Rattle.model.specs.Turns.{after_turn}
use Rattle.model.specs.World.{Trace, progress_in}
pub mod Bounds
pub mod Families
pub mod Spans
pub mod Turns
use Bounds.{Progresses}
use Families.{promise_of}
use Spans.{StandsRight}
use Turns.{IsOneTurnLater, WritesOneWord, GoesOn, CountsTurn, CountsOthers, WritesDown}

module _ {T : Type 0} where
  -- what holds of a turn that was taken, from the machine before it to the machine after it
  pub record IsTurnBy (promise : Promise T) (old : Trace T) (turn : Turn T) (new : Trace T)
      : Type 0 where
    -- the machine is the same, one turn later
    pub later : IsOneTurnLater old.world new.world
    -- at most one word has changed
    pub word : WritesOneWord old.world turn new.world
    -- the party's call has begun or gone on
    pub call : GoesOn old.world turn new.world
    -- The counts of the party's call have changed as its turn says.
    pub counts : CountsTurn old.world turn new.world
    -- Each call of another party counts at most one change of a word's value.
    pub others : CountsOthers old.world turn new.world
    -- what the turn writes down
    pub events : WritesDown promise old turn new
    -- What the structure's own promise says of the turn.
    pub tells : promise.tells old turn new

  -- what the turn writes down, as its kind promises
  abbrev pub WritesEvents : Trace T → Turn T → Trace T → Type 0
  WritesEvents old turn new = WritesDown (promise_of old.world.kind) old turn new

  -- What the machine's kind promises of the turn beside what every machine's turns do.
  abbrev pub TellsBeside : Trace T → Turn T → Trace T → Type 0
  TellsBeside old turn new = (promise_of old.world.kind).tells old turn new

  -- the turn does what the machine's structure promises of each turn
  abbrev pub IsTurn : Trace T → Turn T → Trace T → Type 0
  IsTurn old turn new = IsTurnBy (promise_of old.world.kind) old turn new

  -- these turns, one after another, do what is promised of each turn
  abbrev pub AreTurns : Trace T → List (Turn T) → Type 0
  AreTurns t [] = Unit {0}
  AreTurns t (turn ∷ turns) = IsTurn t turn (after_turn t turn) × AreTurns (after_turn t turn) turns

  -- What holds after any turns: each event stands where it may,
  -- each call is within its bounds, and the structure keeps its promise.
  pub record IsKeptBy (promise : Promise T) (t : Trace T) : Type 0 where
    -- each event stands where its party's span may have it
    pub spans : Each (StandsRight promise t.world.capacity) t.events
    -- each party's latest call is within its bounds
    pub progress : (p : ℕ)
        → Progresses promise t.world.capacity t.world.coding.size (span_of p t.events)
        (progress_in t.world p)
    -- the structure keeps its promise
    pub promised : promise.holds t

  -- the machine keeps what its structure promises of each run
  abbrev pub IsKept : Trace T → Type 0
  IsKept t = IsKeptBy (promise_of t.world.kind) t
