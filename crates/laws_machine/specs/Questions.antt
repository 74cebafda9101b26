-- Which questions a call of the robust set or of a container puts, and that one question is put once.
use Rattle.std.specs.Prelude.{◌≡◌, ℕ, ◌==◌, Bool, false, Option, Some, None, is_some, List, ◌++◌, if◌then◌else◌}
use Rattle.std.specs.List.{AllByRecursion}
use Rattle.steps.specs.declared.ask.Ask.{Ask}
use Rattle.steps.specs.declared.ask.Op.TheVariants.{Load}
use Rattle.steps.specs.Indices.Robust.Parts.{cell_word}
use Rattle.model.specs.declared.event.Event.{Event}
use Rattle.model.specs.declared.event.Event.TheVariants.{Asked}
use Rattle.model.specs.declared.event.Start.TheVariants.{Robust}
use Rattle.model.specs.declared.families.indices.robust.RobustStart.TheVariants.{Find}
use Rattle.model.specs.declared.turn.Turn.{Turn}
use Rattle.model.specs.declared.turn.Turn.TheVariants.{Next, Decide}
use Rattle.model.specs.Families.Container.Questions.{question_at}
use Rattle.model.specs.Families.Indices.Robust.Promises.{IsIn, asked_of, owned_of}
use Rattle.model.specs.Families.Indices.Robust.Reading.{filled_of}
use Rattle.model.specs.Promises.Turns.{ask_in}
use Rattle.model.specs.Refusals.{is_due}
use Rattle.model.specs.World.{World, Trace, flight_in}

-- the index, where the option says that it is filled with this owner, else none
abbrev pub index_if : (owner index : ℕ) → Option ℕ → Option ℕ
index_if owner index None = None
index_if owner index (Some other) = if other == owner then Some index else None

-- the load of the cell of the index
abbrev pub loads_cell : ℕ → Ask
loads_cell index = record { word = cell_word index; op = Load }

module _ {T : Type 0} where
  -- the party's call waits for a decision
  abbrev pub waits_at : Trace T → ℕ → Bool
  waits_at t p = is_due t.world.coding (flight_in t.world p)

  -- a call of a container waits for a decision just where it asks about a value
  abbrev pub WaitsForAnswers : Trace T → Type 0
  WaitsForAnswers t = (p : ℕ) → waits_at t p ≡ is_some (question_at t p)

  -- once a decision is taken for a party, its call waits for no other
  abbrev pub IsAnswered : Turn T → Trace T → Type 0
  IsAnswered turn new = (p : ℕ) (said : Bool) → turn ≡ Decide p said → waits_at new p ≡ false

  -- a recovery of the robust set that writes `Asked` waits for the answer about just that index and owner
  abbrev pub AsksIt : World T → Event T → Type 0
  AsksIt new (Asked p index owner) =
      owned_of new.coding (flight_in new p) ≡ Some (index, owner)
  AsksIt new e = Unit {0}

  -- each `Asked` that a turn writes is what the party asks in the machine that the turn leaves
  abbrev pub AsksAtOnce : (old new : Trace T) → Type 0
  AsksAtOnce old new =
      (wrote : List (Event T)) → new.events ≡ old.events ++ wrote
      → AllByRecursion (AsksIt new.world) wrote

  -- a find of the robust set that loads the cell of an index asks about that index just where it is filled
  -- with the find's owner
  abbrev pub FindsAsking : Trace T → Turn T → Trace T → Type 0
  FindsAsking old turn new =
      (p owner index : ℕ) → turn ≡ Next p → IsIn p (Robust (Find owner)) old
      → ask_in old.world turn ≡ Some (loads_cell index)
      → asked_of new.world.coding (flight_in new.world p)
      ≡ index_if owner index (filled_of index old.events)
