-- How the events of the unique index set are read.
use Rattle.std.specs.Prelude.{ℕ, ◌+◌, ◌-◌, ◌==◌, Bool, true, false, Option, Some, None, List, fold, if◌then◌else◌}
use Rattle.model.specs.declared.event.Answer.TheVariants.{NoIndex}
use Rattle.model.specs.declared.event.Event.{Event}
use Rattle.model.specs.declared.event.Event.TheVariants.{Begun, Claimed, Freed, Locked, Finished}
use Rattle.model.specs.declared.event.Start.TheVariants.{Indices}
use Rattle.model.specs.declared.families.indices.IndexStart.TheVariants.{Acquire, Release}

module _ {T : Type 0} where
  -- ---- holders: an index has one from its Claimed to its next Freed

  -- who holds index i after an event, where this party, or nobody, held it before
  abbrev pub holder_after : ℕ → Option ℕ → Event T → Option ℕ
  holder_after i holder (Claimed p index) = if index == i then Some p else holder
  holder_after i holder (Freed p index) = if index == i then None else holder
  holder_after i holder e = holder

  -- who holds index i after these events
  abbrev pub holder_of : ℕ → List (Event T) → Option ℕ
  holder_of i events = fold (holder_after i) None events

  -- ---- the lock

  -- whether the set is locked after an event
  abbrev pub locked_after : Bool → Event T → Bool
  locked_after locked (Locked p) = true
  locked_after locked e = locked

  -- whether the set is locked after these events
  abbrev pub is_locked : List (Event T) → Bool
  is_locked events = fold locked_after false events

-- ---- numbers

-- how many indices are held, and on their way, at a moment
pub record Tally : Type 0 where
  pub held : ℕ  -- the indices that have a holder
  pub taking : ℕ  -- the acquires under way without a claim
  pub giving : ℕ  -- the releases under way that have freed

module _ {T : Type 0} where
  -- the numbers after an event
  abbrev pub tally_after : Tally → Event T → Tally
  tally_after s (Begun p (Indices Acquire)) = record s { taking = s.taking + 1 }
  tally_after s (Claimed p index) = record s { held = s.held + 1; taking = s.taking - 1 }
  tally_after s (Finished p (Indices Acquire) (NoIndex failure)) =
      record s { taking = s.taking - 1 }
  tally_after s (Freed p index) = record s { held = s.held - 1; giving = s.giving + 1 }
  tally_after s (Finished p (Indices (Release index mode)) answer) =
      record s { giving = s.giving - 1 }
  tally_after s e = s

  -- the numbers after these events
  abbrev pub tally_of : List (Event T) → Tally
  tally_of events = fold tally_after (record { held = 0; taking = 0; giving = 0 }) events

-- the indices that are held, taken or given back
abbrev pub in_use : Tally → ℕ
in_use s = s.held + s.taking + s.giving
