-- The run that a pass knew goes on to the one that it knows, and how many steps that takes.
use Rattle.std.specs.Prelude.{◌≡◌, ◌≤◌, ◌<◌, ℕ, ◌+◌, ◌-◌, List, length}
use Rattle.model.specs.declared.turn.Kind.{Kind}
use Rattle.model.specs.declared.turn.Turn.{Turn}
use Rattle.model.specs.Fair.{turns_of, StepsInEach, RestsInOne}
use Rattle.model.specs.Loads.{begun, load}
use Rattle.model.specs.LockFree.{AreWithinEnds, Bound, IsDefault, ends, steps_in}
use Rattle.model.specs.World.{opening}
use Rattle.lock_free.specs.Coding.{Coding}
use Rattle.lock_free.specs.History.{Continues, run_of}
use Rattle.lock_free.specs.HistoryView.View.{View}
use Rattle.headline_threads.specs.Ends.{ActOnly, BeginSuch, steps_between}

module _ {T : Type 0} where
  -- What a bound on the steps of one call says of all threads' steps at the table between `old` and `new`: how many there
  -- are at most, by the calls that have ended and by those that have begun.
  pub record EndsWithin (code : Coding T) (kind : Kind) (capacity bound : ℕ) (old new : View T)
      (later : Continues code kind capacity old new) : Type 0 where
    -- in more steps than the bound a call ends
    pub ends_one : bound < steps_between code kind capacity old new later → ends old.seen < ends new.seen
    -- the steps since by the calls that have ended since
    pub ends_since : AreWithinEnds bound (steps_between code kind capacity old new later) (ends old.seen) (ends new.seen)
    -- the steps since by the calls that were under way or have begun since
    pub load_since : steps_between code kind capacity old new later ≤ load bound (begun new.seen - ends old.seen)
    -- if the turns between are cut into more rounds than the bound allows steps, a party that takes a step in
    -- each round has no call under way as one of them begins
    pub rests : (rounds : List (List (Turn T))) → later.first.rest ≡ turns_of rounds
        → (p : ℕ) → StepsInEach p (run_of code kind capacity old.turns) rounds
        → load bound (begun new.seen - ends old.seen) < length rounds
        → RestsInOne p (run_of code kind capacity old.turns) rounds

  -- What it says of all threads' steps at the table since it was opened. `aside` is how many operations of the pass may be
  -- no steps of calls.
  pub record AllWithin (code : Coding T) (kind : Kind) (capacity bound aside : ℕ) (new : View T) : Type 0 where
    -- all steps by all calls that have ended
    pub ends_all : AreWithinEnds bound (steps_in (opening code kind capacity 0) new.turns) 0 (ends new.seen)
    -- all steps by all calls that have begun
    pub load_all : steps_in (opening code kind capacity 0) new.turns ≤ load bound (begun new.seen)
    -- what the pass has asked for, by all calls that have begun
    pub asked : new.asked ≤ aside + load bound (begun new.seen)

  -- The run that the pass knew goes on to the one that it knows. If only these parties have acted in between, the steps in
  -- between are within the bound for so many parties, and if only these have acted since the opening, all steps are.
  pub record GoesOn (code : Coding T) (kind : Kind) (capacity : ℕ) (bound : Bound) (aside : ℕ) (old new : View T) : Type 0 where
    pub later : Continues code kind capacity old new
    pub within : (parties : List ℕ) → ActOnly parties later.first.rest
        → EndsWithin code kind capacity (bound (length parties) capacity code.size) old new later
    pub all : (parties : List ℕ) → ActOnly parties new.turns
        → AllWithin code kind capacity (bound (length parties) capacity code.size) aside new

  -- As `GoesOn`, where the pass has seen no call begin that may lock.
  pub record OwnersGoOn (code : Coding T) (kind : Kind) (capacity : ℕ) (bound : Bound) (aside : ℕ) (old new : View T) : Type 0 where
    pub later : Continues code kind capacity old new
    pub within : BeginSuch IsDefault new.seen → (parties : List ℕ) → ActOnly parties later.first.rest
        → EndsWithin code kind capacity (bound (length parties) capacity code.size) old new later
    pub all : BeginSuch IsDefault new.seen → (parties : List ℕ) → ActOnly parties new.turns
        → AllWithin code kind capacity (bound (length parties) capacity code.size) aside new
