-- Who takes more turns than the load of all others and its call has ended it: of machines as they run.
use Rattle.std.specs.Prelude.{◌≡◌, ◌<◌, ℕ, ◌+◌, ◌==◌, true, is_some, List, [], ◌∷◌, if◌then◌else◌}
use Rattle.std.specs.List.{sum_by}
use Rattle.model.specs.declared.event.Event.{Event}
use Rattle.model.specs.declared.event.Event.TheVariants.{Finished}
use Rattle.model.specs.declared.turn.Kind.{Kind}
use Rattle.model.specs.declared.turn.Turn.{Turn}
use Rattle.model.specs.declared.turn.Turn.TheVariants.{Begin, Next}
use Rattle.model.specs.LockFree.{Bound, parties_below}
use Rattle.model.specs.Turns.{after_turns, AreAllowed, IsReached}
use Rattle.model.specs.World.{Trace, flight_in}
use Rattle.model.specs.Loads.{pending, load}

module _ {T : Type 0} where
  -- 1 for a turn in which the party's call goes on
  abbrev pub next_of : ℕ → Turn T → ℕ
  next_of p (Next q) = if q == p then 1 else 0
  next_of p turn = 0

  -- the number of turns in which the party's call goes on
  abbrev pub nexts_in : ℕ → List (Turn T) → ℕ
  nexts_in p [] = 0
  nexts_in p (turn ∷ turns) = next_of p turn + nexts_in p turns

  -- 1 for a turn in which another party begins a call
  abbrev pub begin_of_other : ℕ → Turn T → ℕ
  begin_of_other p (Begin q start) = if q == p then 0 else 1
  begin_of_other p turn = 0

  -- how many calls the turns begin that are not the party's
  abbrev pub begins_of_others : ℕ → List (Turn T) → ℕ
  begins_of_others p [] = 0
  begins_of_others p (turn ∷ turns) = begin_of_other p turn + begins_of_others p turns

  -- 1 for the end of a call of this party
  abbrev pub own_end : ℕ → Event T → ℕ
  own_end p (Finished q start answer) = if q == p then 1 else 0
  own_end p e = 0

  -- how many calls of the party have ended
  abbrev pub own_ends : ℕ → List (Event T) → ℕ
  own_ends p events = sum_by (own_end p) events

-- A party with a call under way, that goes on in more turns than the load of the calls that were under way
-- and of those that others begin, ends its call: more of its calls have ended than before.
abbrev pub EndsByTurns : Type 0 → Kind → Bound → Type 0
EndsByTurns T kind bound =
    (t : Trace T) → t.world.kind ≡ kind → IsReached t → (p : ℕ) → is_some (flight_in t.world p) ≡ true
    → (turns : List (Turn T)) → AreAllowed t turns
    → load (bound t.world.parties t.world.capacity t.world.coding.size)
    (pending (parties_below t.world.parties) t.world + begins_of_others p turns) < nexts_in p turns
    → own_ends p t.events < own_ends p (after_turns t turns).events
