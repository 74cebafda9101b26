-- The add of a container, one step after another. T is the type of the values, size the number of their
-- words. `add_asks` says what the call asks for at each stage, and `add_takes` where the answer leads: to a
-- next stage (`GoOn`) or to its end (`Done`). `add_goes_back` says whether it begins a loop again.
use Rattle.std.specs.Prelude.{ℕ, ◌+◌, Bool, false, List, Result, Ok, Err, if◌then◌else◌, nat_lt, slice_index}
use Rattle.steps.specs.Queues.Ring.{load, store}
use Rattle.steps.specs.Indices.Robust.Acquire.{Acquired, acquire_asks, acquire_takes, acquire_goes_back}
use Rattle.steps.specs.Container.Enums.{add_failure}
use Rattle.steps.specs.Container.Layout.{change_word, count_word, element_word, is_even, add_one, hide}
use Rattle.steps.specs.declared.ask.Want.{Want}
use Rattle.steps.specs.declared.ask.After.{After}
use Rattle.steps.specs.declared.ask.After.TheVariants.{GoOn, Done}
use Rattle.steps.specs.declared.indices.robust.acquire.Acquire.{Acquire}
use Rattle.steps.specs.declared.indices.robust.acquire.AcquireStage.{AcquireStage}
use Rattle.steps.specs.declared.indices.robust.acquire.AcquireStage.TheVariants as acquires
use Rattle.steps.specs.declared.container.enums.ContainerAddFailure.{ContainerAddFailure}
use Rattle.steps.specs.declared.container.add.Add.{Add}
use Rattle.steps.specs.declared.container.add.AddStage.{AddStage}
use Rattle.steps.specs.declared.container.add.AddStage.TheVariants as adds
use Rattle.steps.specs.declared.container.add.Owned.{Owned}

-- what an add ends with: the index, or why there is none
abbrev pub Added : Type 0
Added = Result ℕ ContainerAddFailure

-- the acquire of the set, at this stage
abbrev pub inner_acquire : ℕ → AcquireStage → Acquire
inner_acquire capacity stage = record { capacity = capacity; stage = stage }

-- whether the add begins a loop of its acquire again once it is handed this old value: another has moved the counter
abbrev pub add_goes_back : AddStage → ℕ → Bool
add_goes_back (adds.Acquires stage) old = acquire_goes_back stage old
add_goes_back (adds.LoadsCount index) old = false
add_goes_back (adds.Hides index count) old = false
add_goes_back (adds.Stores index at) old = false
add_goes_back (adds.AddsCount index) old = false
add_goes_back (adds.AddsChange index) old = false

module _ {T : Type 0} where
  -- the add, moved to this stage
  abbrev pub at_add : Add T → AddStage → Add T
  at_add call stage = record call { stage = stage }

  -- an add to a container of this capacity before its first step
  abbrev pub first_add : ℕ → Add T
  first_add capacity =
      record {
        capacity = capacity;
        stage = adds.Acquires acquires.LoadsCounter;
        of = record {};
      }

  -- What the add asks for, step by step: acquire; load the number of the element; hide what stands there; store the
  -- words; add 1 to the number; add 1 to the changes.
  abbrev pub add_asks : (T → List ℕ) → (size capacity : ℕ) → AddStage → Owned T → Want (Unit {0})
  add_asks words_of size capacity (adds.Acquires stage) given =
      acquire_asks stage given.owner
  add_asks words_of size capacity (adds.LoadsCount index) given =
      load (count_word capacity index)
  add_asks words_of size capacity (adds.Hides index count) given =
      hide capacity index count
  add_asks words_of size capacity (adds.Stores index at) given =
      store (element_word capacity size index at) (slice_index (words_of given.value) at)
  add_asks words_of size capacity (adds.AddsCount index) given =
      add_one (count_word capacity index)
  add_asks words_of size capacity (adds.AddsChange index) given =
      add_one (change_word capacity)

  -- what the add asks for next, at the stage where it stands
  abbrev pub add_want : (T → List ℕ) → ℕ → Add T → Owned T → Want (Unit {0})
  add_want words_of size call given = add_asks words_of size call.capacity call.stage given

  -- the add after a step of its acquire: once it has an index it goes on to the element
  abbrev pub add_acquired : Add T → After Acquire Acquired → After (Add T) Added
  add_acquired call (GoOn acquire) =
      GoOn (at_add call (adds.Acquires acquire.stage))
  add_acquired call (Done (Ok index)) = GoOn (at_add call (adds.LoadsCount index))
  add_acquired call (Done (Err failure)) = Done (Err (add_failure failure))

  -- Where the add goes on to from the old value of its word: it acquires an index, hides what still shows there, stores
  -- the words of the value, shows them, and counts the change.
  abbrev pub add_takes : ℕ → Add T → AddStage → ℕ → After (Add T) Added
  add_takes size call (adds.Acquires stage) old =
      add_acquired call (acquire_takes (inner_acquire call.capacity stage) stage old)
  add_takes size call (adds.LoadsCount index) old =
      if is_even old
      then GoOn (at_add call (adds.Stores index 0))
      else GoOn (at_add call (adds.Hides index old))
  add_takes size call (adds.Hides index count) old =
      GoOn (at_add call (adds.Stores index 0))
  add_takes size call (adds.Stores index at) old =
      if nat_lt (at + 1) size
      then GoOn (at_add call (adds.Stores index (at + 1)))
      else GoOn (at_add call (adds.AddsCount index))
  add_takes size call (adds.AddsCount index) old =
      GoOn (at_add call (adds.AddsChange index))
  add_takes size call (adds.AddsChange index) old = Done (Ok index)

  -- how the add goes on from the stage at which it is, by the old value of its word
  abbrev pub add_after : ℕ → Add T → ℕ → After (Add T) Added
  add_after size call old = add_takes size call call.stage old
