-- The look of a state at its container, one step after another. T is the type of the values, size the number
-- of their words. `look_asks` says what the call asks for at each stage, and `look_takes` where the answer
-- leads: to a next stage (`GoOn`) or to its end (`Done`). `look_kept` says what its room keeps, and
-- `look_goes_back` whether it begins a loop again.
use Rattle.std.specs.Prelude.{ℕ, ◌+◌, ◌==◌, Bool, true, false, not, List, if◌then◌else◌, nat_lt, slice_index_or}
use Rattle.steps.specs.Queues.Ring.{load}
use Rattle.steps.specs.Container.Layout.{change_word, count_word, element_word, is_even, check}
use Rattle.steps.specs.Container.State.{Numbers, Showing, with_change, with_count, with_word, with_value}
use Rattle.steps.specs.declared.ask.Want.{Want}
use Rattle.steps.specs.declared.ask.After.{After}
use Rattle.steps.specs.declared.ask.After.TheVariants.{GoOn, Done}
use Rattle.steps.specs.declared.container.look.Look.{Look}
use Rattle.steps.specs.declared.container.look.LookStage.{LookStage}
use Rattle.steps.specs.declared.container.look.LookStage.TheVariants as looks

-- What the look asks for, step by step: load the number of changes; for each index load the number of its element, load
-- its words, exchange the number for itself.
abbrev pub look_asks : (size capacity : ℕ) → LookStage → Want (Unit {0})
look_asks size capacity looks.LoadsChange = load (change_word capacity)
look_asks size capacity (looks.LoadsCount index) = load (count_word capacity index)
look_asks size capacity (looks.LoadsWord index count at) =
    load (element_word capacity size index at)
look_asks size capacity (looks.ChecksCount index count) = check capacity index count

-- whether the look begins to copy the element again once it is handed this old value: it has changed meanwhile
abbrev pub look_goes_back : LookStage → ℕ → Bool
look_goes_back looks.LoadsChange old = false
look_goes_back (looks.LoadsCount index) old = false
look_goes_back (looks.LoadsWord index count at) old = false
look_goes_back (looks.ChecksCount index count) old = not (old == count)

module _ {T : Type 0} where
  -- the look goes on at this stage
  abbrev pub at_look : Look T → LookStage → After (Look T) Bool
  at_look call stage = GoOn (record call { stage = stage })

  -- a look before its first step
  abbrev pub first_look : ℕ → Look T
  first_look capacity =
      record { capacity = capacity; stage = looks.LoadsChange; of = record {} }

  -- what the look asks for next, at the stage where it stands
  abbrev pub look_want : ℕ → Look T → Want (Unit {0})
  look_want size call = look_asks size call.capacity call.stage

  -- the look goes on to the next element, and after the last one it ends with true
  abbrev pub look_comes_to : Look T → ℕ → After (Look T) Bool
  look_comes_to call index =
      if nat_lt index call.capacity
      then at_look call (looks.LoadsCount index)
      else Done true

  -- the look once it has found another number of the element: where that is odd, the words are read
  abbrev pub look_finds : Look T → (index count : ℕ) → After (Look T) Bool
  look_finds call index count =
      if is_even count
      then look_comes_to call (index + 1)
      else at_look call (looks.LoadsWord index count 0)

  -- Where the look goes on to from the old value of its word:
  -- only an element with another number than the state has seen is copied.
  abbrev pub look_takes : ℕ → Look T → LookStage → Numbers → ℕ → After (Look T) Bool
  look_takes size call looks.LoadsChange seen old =
      if old == seen.change then Done false else look_comes_to call 0
  look_takes size call (looks.LoadsCount index) seen old =
      if old == slice_index_or seen.counts index 0
      then look_comes_to call (index + 1)
      else look_finds call index old
  look_takes size call (looks.LoadsWord index count at) seen old =
      if nat_lt (at + 1) size
      then at_look call (looks.LoadsWord index count (at + 1))
      else at_look call (looks.ChecksCount index count)
  look_takes size call (looks.ChecksCount index count) seen old =
      if old == count then look_comes_to call (index + 1) else look_finds call index old

  -- how the look goes on from the stage at which it is, by the old value of its word
  abbrev pub look_after : ℕ → Look T → Numbers → ℕ → After (Look T) Bool
  look_after size call seen old = look_takes size call call.stage seen old

  -- what the state shows after a step of the look: a number as it was found, a value once its copy is whole
  abbrev pub look_keeps : (List ℕ → T) → ℕ → LookStage → Showing T → ℕ → Showing T
  look_keeps value_of size looks.LoadsChange s old = with_change s old
  look_keeps value_of size (looks.LoadsCount index) s old = with_count s index old
  look_keeps value_of size (looks.LoadsWord index count at) s old = with_word s at old
  look_keeps value_of size (looks.ChecksCount index count) s old =
      if old == count then with_value value_of size s index count else with_count s index old

  -- the room of the look after a step that was handed this old value
  abbrev pub look_kept : (List ℕ → T) → ℕ → Look T → Showing T → ℕ → Showing T
  look_kept value_of size call s old = look_keeps value_of size call.stage s old
