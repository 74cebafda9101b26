-- The replace of a container, one step after another. T is the type of the values, size the number of their
-- words. `replace_asks` says what the call asks for at each stage, and `replace_takes` where the answer
-- leads: to a next stage (`GoOn`) or to its end (`Done`). `replace_left` is a number that each step lowers.
use Rattle.std.specs.Prelude.{ℕ, ◌+◌, ◌-◌, ◌==◌, List, Result, Ok, Err, if◌then◌else◌, nat_lt, slice_index}
use Rattle.steps.specs.Queues.Ring.{load, store}
use Rattle.steps.specs.Indices.Robust.Parts.{cell_word}
use Rattle.steps.specs.Container.Layout.{change_word, count_word, element_word, is_even, add_one, hide}
use Rattle.steps.specs.declared.ask.Want.{Want}
use Rattle.steps.specs.declared.ask.Want.TheVariants as wants
use Rattle.steps.specs.declared.ask.After.{After}
use Rattle.steps.specs.declared.ask.After.TheVariants.{GoOn, Done}
use Rattle.steps.specs.declared.container.enums.ContainerRemoveError.{ContainerRemoveError}
use Rattle.steps.specs.declared.container.enums.ContainerRemoveError.TheVariants.{ContainerHandleNotOwnedByContainer}
use Rattle.steps.specs.declared.container.replace.Replace.{Replace}
use Rattle.steps.specs.declared.container.replace.ReplaceStage.{ReplaceStage}
use Rattle.steps.specs.declared.container.replace.ReplaceStage.TheVariants as replaces
use Rattle.steps.specs.declared.container.replace.Replacement.{Replacement}

-- what a replace ends with: that it has replaced, or why not
abbrev pub Replaced : Type 0
Replaced = Result (Unit {0}) ContainerRemoveError

-- a number that each step of the replace lowers
abbrev pub replace_left : ℕ → ReplaceStage → ℕ
replace_left size replaces.Refuses = 0
replace_left size replaces.LoadsCell = size + 5
replace_left size replaces.LoadsCount = size + 4
replace_left size (replaces.Hides count) = size + 3
replace_left size (replaces.Stores at) = size - at + 2
replace_left size replaces.AddsCount = 1
replace_left size replaces.AddsChange = 0

module _ {T : Type 0} where
  -- the replace, moved to this stage
  abbrev pub at_replace : Replace T → ReplaceStage → Replace T
  at_replace call stage = record call { stage = stage }

  -- a replace before its first step: an index past the capacity is refused
  abbrev pub first_replace : (capacity index : ℕ) → Replace T
  first_replace capacity index =
      record {
        capacity = capacity;
        stage = if nat_lt index capacity
            then replaces.LoadsCell
            else replaces.Refuses;
        of = record {};
      }

  -- What the replace asks for, step by step: load the cell; load the number of the element; hide what stands there;
  -- store the words; add 1 to the number; add 1 to the changes.
  abbrev pub replace_asks : (T → List ℕ) → (size capacity : ℕ) → ReplaceStage → Replacement T → Want (Unit {0})
  replace_asks words_of size capacity replaces.Refuses given =
      wants.Nothing
  replace_asks words_of size capacity replaces.LoadsCell given =
      load (cell_word given.index)
  replace_asks words_of size capacity replaces.LoadsCount given =
      load (count_word capacity given.index)
  replace_asks words_of size capacity (replaces.Hides count) given =
      hide capacity given.index count
  replace_asks words_of size capacity (replaces.Stores at) given =
      store (element_word capacity size given.index at) (slice_index (words_of given.value) at)
  replace_asks words_of size capacity replaces.AddsCount given =
      add_one (count_word capacity given.index)
  replace_asks words_of size capacity replaces.AddsChange given =
      add_one (change_word capacity)

  -- what the replace asks for next, at the stage where it stands
  abbrev pub replace_want : (T → List ℕ) → ℕ → Replace T → Replacement T → Want (Unit {0})
  replace_want words_of size call given = replace_asks words_of size call.capacity call.stage given

  -- Where the replace goes on to from the old value of its word: it ends where the cell has not
  -- the given owner, and else hides what stands there, stores the words of the value, shows them,
  -- and counts the change.
  abbrev pub replace_takes : ℕ → Replace T → ReplaceStage → Replacement T → ℕ
      → After (Replace T) Replaced
  replace_takes size call replaces.Refuses given old =
      Done (Err ContainerHandleNotOwnedByContainer)
  replace_takes size call replaces.LoadsCell given old =
      if old == given.owner
      then GoOn (at_replace call replaces.LoadsCount)
      else Done (Err ContainerHandleNotOwnedByContainer)
  replace_takes size call replaces.LoadsCount given old =
      if is_even old
      then GoOn (at_replace call (replaces.Stores 0))
      else GoOn (at_replace call (replaces.Hides old))
  replace_takes size call (replaces.Hides count) given old =
      GoOn (at_replace call (replaces.Stores 0))
  replace_takes size call (replaces.Stores at) given old =
      if nat_lt (at + 1) size
      then GoOn (at_replace call (replaces.Stores (at + 1)))
      else GoOn (at_replace call replaces.AddsCount)
  replace_takes size call replaces.AddsCount given old =
      GoOn (at_replace call replaces.AddsChange)
  replace_takes size call replaces.AddsChange given old = Done (Ok tt)

  -- how the replace goes on from the stage at which it is, by the old value of its word
  abbrev pub replace_after : ℕ → Replace T → Replacement T → ℕ → After (Replace T) Replaced
  replace_after size call given old = replace_takes size call call.stage given old
