-- What a history of a unique index set says of its events: who may claim, free and lock, and that each call
-- has done what it answers (`IsSound`).
use Rattle.std.specs.Prelude.{◌≡◌, ℕ, zero, suc, ◌+◌, Some, is_some, List, ◌∷◌, ◌++◌}
use Rattle.model.specs.declared.event.Event.{Event}
use Rattle.model.specs.declared.event.Event.TheVariants.{Begun, Finished}
use Rattle.model.specs.declared.event.Start.TheVariants.{Indices}
use Rattle.model.specs.declared.families.indices.IndexStart.{IndexStart}
use Rattle.model.specs.Families.Indices.Promises.{HoldsRight, AnswersRight}
use Rattle.model.specs.Families.Indices.Reading.{holder_of}
use Rattle.model.specs.Families.Indices.Spans.{SetActs, set_acts, done_by}
use Rattle.model.specs.Moments.{BeginsNone}
use Rattle.model.specs.Reading.{Each}
use Rattle.model.specs.Turns.{one_if}
use Rattle.history.specs.Known.{events_by}

module _ {T : Type 0} where
  -- how many of the first indices somebody holds
  abbrev pub held_below : ℕ → List (Event T) → ℕ
  held_below zero events = 0
  held_below (suc n) events = one_if (is_some (holder_of n events)) + held_below n events

  -- the party's latest call is this one, and `IsSo` holds of what the party did to the set
  -- since that call began
  pub record HasDone (p : ℕ) (start : IndexStart) (IsSo : SetActs → Type 0) (events : List (Event T))
      : Type 0 where
    pub before : List (Event T)
    pub since : List (Event T)
    pub is : events ≡ before ++ Begun p (Indices start) ∷ since
    -- the party has begun no call since
    pub within : BeginsNone p since
    -- `IsSo` holds of what it did to the set since
    pub did : IsSo (set_acts (events_by p since))

  -- A call that ends has done what its answer says, and nothing else: one that answers an index has claimed it, one
  -- that answers none has claimed nothing, and a release has freed its index and locked the set where it says so.
  abbrev pub DidAsAnswered : List (Event T) → Event T → Type 0
  DidAsAnswered before (Finished p (Indices start) answer) =
      HasDone p start (λ acts. done_by start answer ≡ Some acts) before
  DidAsAnswered before e = Unit {0}

  -- An index is claimed where nobody holds it and the set is not locked, and is freed by its holder; the set is locked
  -- once, where nobody holds an index. Each call that ends has done what it answers, and each answer is right.
  pub record IsSound (capacity : ℕ) (events : List (Event T)) : Type 0 where
    -- indices are claimed and freed, and the set is locked, only as `HoldsRight` allows
    pub holds : Each (HoldsRight capacity) events
    -- each call that ends has done what it answers
    pub did : Each DidAsAnswered events
    -- each answer is right for the set as it is when the call ends
    pub answers : Each (AnswersRight capacity) events
