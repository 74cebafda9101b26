-- The remove of a container, one step after another. `remove_asks` says what the call asks for at each stage,
-- and `remove_takes` where the answer leads: to a next stage (`GoOn`) or to its end (`Done`).
-- `remove_goes_back` says whether it begins a loop again.
use Rattle.std.specs.Prelude.{ℕ, Bool, false, Result, Ok, Err, if◌then◌else◌, nat_lt}
use Rattle.steps.specs.Queues.Ring.{load}
use Rattle.steps.specs.Indices.Robust.Release.{Released, release_asks, release_takes, release_goes_back}
use Rattle.steps.specs.Container.Layout.{change_word, count_word, is_even, add_one, hide}
use Rattle.steps.specs.declared.ask.Want.{Want}
use Rattle.steps.specs.declared.ask.Want.TheVariants as wants
use Rattle.steps.specs.declared.ask.After.{After}
use Rattle.steps.specs.declared.ask.After.TheVariants.{GoOn, Done}
use Rattle.steps.specs.declared.indices.enums.ReleaseState.{ReleaseState}
use Rattle.steps.specs.declared.indices.robust.release.Release.{Release}
use Rattle.steps.specs.declared.indices.robust.release.GiveBack.{GiveBack}
use Rattle.steps.specs.declared.indices.robust.release.ReleaseStage.{ReleaseStage}
use Rattle.steps.specs.declared.indices.robust.release.ReleaseStage.TheVariants as releases
use Rattle.steps.specs.declared.container.enums.ContainerRemoveError.{ContainerRemoveError}
use Rattle.steps.specs.declared.container.enums.ContainerRemoveError.TheVariants.{ContainerHandleNotOwnedByContainer}
use Rattle.steps.specs.declared.container.remove.Remove.{Remove}
use Rattle.steps.specs.declared.container.remove.RemoveStage.{RemoveStage}
use Rattle.steps.specs.declared.container.remove.RemoveStage.TheVariants as removes

-- what a remove ends with: the state of the set, or why nothing was removed
abbrev pub Removed : Type 0
Removed = Result ReleaseState ContainerRemoveError

-- a remove before its first step: an index past the capacity is refused
abbrev pub first_remove : (capacity index : ℕ) → Remove
first_remove capacity index =
    record {
      capacity = capacity;
      stage = if nat_lt index capacity
          then removes.LoadsCount
          else removes.Refuses;
    }

-- the remove, moved to this stage
abbrev pub at_remove : Remove → RemoveStage → Remove
at_remove call stage = record call { stage = stage }

-- the release of the set, at this stage
abbrev pub inner_release : ℕ → ReleaseStage → Release
inner_release capacity stage = record { capacity = capacity; stage = stage }

-- What the remove asks for, step by step: load the number of the element;
-- release; hide what stands there; add 1 to the changes.
abbrev pub remove_asks : ℕ → RemoveStage → GiveBack → Want (Unit {0})
remove_asks capacity removes.Refuses given = wants.Nothing
remove_asks capacity removes.LoadsCount given = load (count_word capacity given.index)
remove_asks capacity (removes.Releases count stage) given = release_asks stage given
remove_asks capacity (removes.Hides count state) given =
    hide capacity given.index count
remove_asks capacity (removes.AddsChange state) given = add_one (change_word capacity)

-- what the remove asks for next, at the stage where it stands
abbrev pub remove_want : Remove → GiveBack → Want (Unit {0})
remove_want call given = remove_asks call.capacity call.stage given

-- the remove after a step of its release: a failed release ends it; where nothing stood there, nothing is hidden
abbrev pub remove_released : Remove → ℕ → After Release Released → After Remove Removed
remove_released call count (GoOn release) =
    GoOn (at_remove call (removes.Releases count release.stage))
remove_released call count (Done (Ok state)) =
    if is_even count
    then GoOn (at_remove call (removes.AddsChange state))
    else GoOn (at_remove call (removes.Hides count state))
remove_released call count (Done (Err failure)) = Done (Err ContainerHandleNotOwnedByContainer)

-- Where the remove goes on to from the old value of its word: it loads the number of the element, releases the index,
-- hides the value, and counts the change.
abbrev pub remove_takes : Remove → RemoveStage → GiveBack → ℕ → After Remove Removed
remove_takes call removes.Refuses given old =
    Done (Err ContainerHandleNotOwnedByContainer)
remove_takes call removes.LoadsCount given old =
    GoOn (at_remove call (removes.Releases old releases.EmptiesCell))
remove_takes call (removes.Releases count stage) given old =
    remove_released call count
    (release_takes (inner_release call.capacity stage) stage given old)
remove_takes call (removes.Hides count state) given old =
    GoOn (at_remove call (removes.AddsChange state))
remove_takes call (removes.AddsChange state) given old = Done (Ok state)

-- how the remove goes on from the stage at which it is, by the old value of its word
abbrev pub remove_after : Remove → GiveBack → ℕ → After Remove Removed
remove_after call given old = remove_takes call call.stage given old

-- whether the remove begins a loop of its release again once it is handed this old value: another has moved the counter
abbrev pub remove_goes_back : RemoveStage → ℕ → Bool
remove_goes_back removes.Refuses old = false
remove_goes_back removes.LoadsCount old = false
remove_goes_back (removes.Releases count stage) old = release_goes_back stage old
remove_goes_back (removes.Hides count state) old = false
remove_goes_back (removes.AddsChange state) old = false
