-- A finite load ends: the steps of all parties together are bounded by the number of calls under
-- way and begun.
use Rattle.std.specs.Prelude.{◌≡◌, ◌≤◌, ℕ, ◌+◌, ◌*◌, is_some, List, [], ◌∷◌, length}
use Rattle.std.specs.List.{AllByRecursion, sum_by}
use Rattle.model.specs.declared.event.Event.{Event}
use Rattle.model.specs.declared.event.Event.TheVariants.{Begun}
use Rattle.model.specs.declared.event.Start.{Start}
use Rattle.model.specs.declared.turn.Kind.{Kind}
use Rattle.model.specs.declared.turn.Turn.{Turn}
use Rattle.model.specs.declared.turn.Turn.TheVariants.{Begin}
use Rattle.model.specs.LockFree.{Bound, BeginsSuch, IsAmong, parties_below, steps_in}
use Rattle.model.specs.Turns.{one_if, AreAllowed, AreAllowedOn, IsReached, IsReachedOn}
use Rattle.model.specs.World.{World, Trace, flight_in}

module _ {T : Type 0} where
  -- 1 for a turn that begins a call
  abbrev pub begin_in : Turn T → ℕ
  begin_in (Begin p start) = 1
  begin_in turn = 0

  -- how many calls the turns begin
  abbrev pub begins_in : List (Turn T) → ℕ
  begins_in [] = 0
  begins_in (turn ∷ turns) = begin_in turn + begins_in turns

  -- 1 for an event that begins a call
  abbrev pub begun_of : Event T → ℕ
  begun_of (Begun p start) = 1
  begun_of e = 0

  -- how many calls have begun
  abbrev pub begun : List (Event T) → ℕ
  begun events = sum_by begun_of events

  -- how many of these parties have a call under way
  abbrev pub pending : List ℕ → World T → ℕ
  pending [] w = 0
  pending (p ∷ parties) w = pending parties w + one_if (is_some (flight_in w p))

-- The steps that this many calls take at most in all: for each of them the bound of steps before an
-- end, and the step that ends it.
abbrev pub load : (bound calls : ℕ) → ℕ
load bound calls = calls * (bound + 1)

-- Wherever turns have led, and whatever turns these parties take from there: all their steps together are at most the load
-- of the calls that were under way and of those that begin.
abbrev pub EndsLoad : Type 0 → Kind → Bound → Type 0
EndsLoad T kind bound =
    (t : Trace T) → t.world.kind ≡ kind → IsReachedOn t → (parties : List ℕ) (turns : List (Turn T))
    → AreAllowedOn t turns → AllByRecursion (IsAmong parties) turns
    → steps_in t turns
    ≤ load (bound (length parties) t.world.capacity t.world.coding.size) (pending parties t.world + begins_in turns)

-- `EndsLoad` for runs in which `Such` holds for each call that begins, before and during these turns.
abbrev pub EndsLoadOf : (T : Type 0) → Kind → (Start T → Type 0) → Bound → Type 0
EndsLoadOf T kind Such bound =
    (t : Trace T) → t.world.kind ≡ kind → (r : IsReachedOn t) → AllByRecursion (BeginsSuch Such) r.turns
    → (parties : List ℕ) (turns : List (Turn T))
    → AreAllowedOn t turns → AllByRecursion (IsAmong parties) turns → AllByRecursion (BeginsSuch Such) turns
    → steps_in t turns
    ≤ load (bound (length parties) t.world.capacity t.world.coding.size) (pending parties t.world + begins_in turns)

-- `EndsLoad` for a machine as it runs, with all its parties.
abbrev pub EndsLoadRuns : Type 0 → Kind → Bound → Type 0
EndsLoadRuns T kind bound =
    (t : Trace T) → t.world.kind ≡ kind → IsReached t → (turns : List (Turn T)) → AreAllowed t turns
    → steps_in t turns
    ≤ load (bound t.world.parties t.world.capacity t.world.coding.size)
    (pending (parties_below t.world.parties) t.world + begins_in turns)
