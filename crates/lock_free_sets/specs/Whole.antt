-- What a pass with the whole share knows of a structure (`HasWhole`): all that happened was made by it,
-- and no call is under way.
use Rattle.std.specs.Prelude.{◌≡◌, ℕ, ◌==◌, Some, List, sum_by, if◌then◌else◌}
use Rattle.std.specs.List.{AllByRecursion}
use Rattle.model.specs.declared.event.Answer.{Answer}
use Rattle.model.specs.declared.event.Event.{Event}
use Rattle.model.specs.declared.event.Event.TheVariants.{Begun, Finished}
use Rattle.model.specs.declared.event.Start.{Start}
use Rattle.threaded.specs.Shares.{IsAll}
use Rattle.history.specs.declared.view.View.{View}
use Rattle.history.specs.History.{Called}

module _ {T : Type 0} where
  -- 1 for a begin of a call of this party
  abbrev pub begins : ℕ → Event T → ℕ
  begins p (Begun q start) = if q == p then 1 else 0
  begins p e = 0

  -- 1 for an end of a call of this party
  abbrev pub ends : ℕ → Event T → ℕ
  ends p (Finished q start answer) = if q == p then 1 else 0
  ends p e = 0

  -- of these events each call that a party began has ended
  abbrev pub IsDone : List (Event T) → Type 0
  IsDone made = (p : ℕ) → sum_by (begins p) made ≡ sum_by (ends p) made

  -- an event that a call may write between its begin and its end: neither a begin nor an end
  abbrev pub IsInside : Event T → Type 0
  IsInside (Begun p start) = ⊥
  IsInside (Finished p start answer) = ⊥
  IsInside e = Unit {0}

  -- none of these events is a begin or an end of a call
  abbrev pub AllInside : List (Event T) → Type 0
  AllInside es = AllByRecursion IsInside es

  -- The pass has the whole share, it has made all that it has seen, and in what it made each call has ended.
  pub record HasWhole (v : View T) : Type 0 where
    pub share : IsAll v.share
    pub all : (f : Event T → ℕ) → sum_by f v.seen ≡ sum_by f v.made
    pub done : IsDone v.made

  -- a pass that had and has the whole made one call
  pub record CallsWhole (old new : View T) : Type 0 where
    pub had : HasWhole old
    pub has : HasWhole new
    -- the party, the call, its answer, and what it wrote
    pub by : ℕ
    pub start : Start T
    pub answer : Answer T
    pub wrote : List (Event T)
    pub mine : new.party ≡ Some by
    pub called : Called by start answer wrote old new
