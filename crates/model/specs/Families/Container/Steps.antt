-- What a step of a call of the container writes down.
use Rattle.std.specs.Prelude.{ℕ, ◌==◌, Option, Some, None, List, [], ◌∷◌, ◌++◌, if◌then◌else◌}
use Rattle.steps.specs.declared.container.add.AddStage.{AddStage}
use Rattle.steps.specs.declared.container.add.AddStage.TheVariants as adds
use Rattle.steps.specs.declared.container.add.Owned.{Owned}
use Rattle.steps.specs.declared.container.find.FindStage.{FindStage}
use Rattle.steps.specs.declared.container.find.FindStage.TheVariants as finds
use Rattle.steps.specs.declared.container.look.LookStage.{LookStage}
use Rattle.steps.specs.declared.container.look.LookStage.TheVariants as looks
use Rattle.steps.specs.declared.container.recover.DeadOwner.{DeadOwner}
use Rattle.steps.specs.declared.container.recover.RecoverStage.{RecoverStage}
use Rattle.steps.specs.declared.container.recover.RecoverStage.TheVariants as recovers
use Rattle.steps.specs.declared.container.remove.RemoveStage.{RemoveStage}
use Rattle.steps.specs.declared.container.remove.RemoveStage.TheVariants as removes
use Rattle.steps.specs.declared.container.replace.ReplaceStage.{ReplaceStage}
use Rattle.steps.specs.declared.container.replace.ReplaceStage.TheVariants as replaces
use Rattle.steps.specs.declared.container.replace.Replacement.{Replacement}
use Rattle.steps.specs.declared.container.state.ContainerState.{ContainerState}
use Rattle.steps.specs.declared.indices.robust.release.GiveBack.{GiveBack}
use Rattle.steps.specs.Container.Layout.{is_even}
use Rattle.steps.specs.Copied.{value_in}
use Rattle.model.specs.declared.event.Event.{Event}
use Rattle.model.specs.declared.event.Event.TheVariants.{Asked, Told, Placed, Hidden, Copied, Shown}
use Rattle.model.specs.declared.families.container.calls.ContainerFlight.{ContainerFlight}
use Rattle.model.specs.declared.families.container.calls.ContainerFlight.TheVariants.{Add, Remove, Replace, Find, Recover, Look}
use Rattle.model.specs.Coding.{Coding}
use Rattle.model.specs.Families.Container.Calls.{after, goes_back, states_after}
use Rattle.model.specs.Families.Container.States.{state_of}
use Rattle.model.specs.Families.Indices.Robust.Steps as robust
use Rattle.model.specs.Families.Queues.Calls.{read_in}
use Rattle.model.specs.Step.{Step}

module _ {T : Type 0} where
  -- an addition of 1 to an even count places the value at the index
  abbrev pub placed : (p index : ℕ) → T → ℕ → List (Event T)
  placed p index value old = if is_even old then Placed p index value ∷ [] else []

  -- an exchange of an odd count for the next one hides the value at the index
  abbrev pub hidden : (p index count old : ℕ) → List (Event T)
  hidden p index count old = if old == count then Hidden p index ∷ [] else []

  -- an exchange of a count for itself shows that the value was copied whole
  abbrev pub copied : (p index count : ℕ) → T → ℕ → List (Event T)
  copied p index count value old = if old == count then Copied p index value ∷ [] else []

  -- a recovery that finds an even count is shown that nothing stands at the index
  abbrev pub shown : (p index old : ℕ) → List (Event T)
  shown p index old = if is_even old then Shown p index ∷ [] else []

  -- what an add's step writes down, where its word has this old value
  abbrev pub add_effects : ℕ → Owned T → AddStage → ℕ → List (Event T)
  add_effects p given (adds.Acquires stage) old =
      robust.acquire_effects p given.owner stage old
  add_effects p given (adds.LoadsCount index) old = []
  add_effects p given (adds.Hides index count) old = hidden p index count old
  add_effects p given (adds.Stores index at) old = []
  add_effects p given (adds.AddsCount index) old = placed p index given.value old
  add_effects p given (adds.AddsChange index) old = []

  -- what a remove's step writes down, where its word has this old value
  abbrev pub remove_effects : ℕ → GiveBack → RemoveStage → ℕ → List (Event T)
  remove_effects p given removes.Refuses old = []
  remove_effects p given removes.LoadsCount old = []
  remove_effects p given (removes.Releases count stage) old =
      robust.release_effects p given stage old
  remove_effects p given (removes.Hides count state) old =
      hidden p given.index count old
  remove_effects p given (removes.AddsChange state) old = []

  -- what a replace's step writes down, where its word has this old value
  abbrev pub replace_effects : ℕ → Replacement T → ReplaceStage → ℕ → List (Event T)
  replace_effects p given replaces.Refuses old = []
  replace_effects p given replaces.LoadsCell old = []
  replace_effects p given replaces.LoadsCount old = []
  replace_effects p given (replaces.Hides count) old = hidden p given.index count old
  replace_effects p given (replaces.Stores at) old = []
  replace_effects p given replaces.AddsCount old = placed p given.index given.value old
  replace_effects p given replaces.AddsChange old = []

  -- what a find's step writes down, where its word has this old value and the words in its room make this value
  abbrev pub find_effects : ℕ → T → FindStage → ℕ → List (Event T)
  find_effects p value (finds.LoadsCell index found) old = []
  find_effects p value (finds.LoadsCount index found) old = []
  find_effects p value (finds.LoadsWord index found count at) old = []
  find_effects p value (finds.ChecksCount index found count) old =
      copied p index count value old
  find_effects p value (finds.Asks index found) old = []

  -- what a recovery finds at the number of an element: the copy, whole, or that nothing stands there
  abbrev pub checked : (p index count : ℕ) → T → ℕ → List (Event T)
  checked p index count value old =
      if old == count then Copied p index value ∷ [] else shown p index old

  -- What a recovery's step writes down, where its word has this
  -- old value and the words that it has copied make this value.
  abbrev pub recover_effects : ℕ → DeadOwner → T → RecoverStage → ℕ → List (Event T)
  recover_effects p given value recovers.LoadsCounter old = []
  recover_effects p given value (recovers.LoadsCell index) old = []
  recover_effects p given value (recovers.LoadsCount index) old = shown p index old
  recover_effects p given value (recovers.LoadsWord index count at) old = []
  recover_effects p given value (recovers.ChecksCount index count) old =
      checked p index count value old
  recover_effects p given value (recovers.Asks index count) old =
      if old == 0 then [] else Told p index given.owner ∷ []
  recover_effects p given value (recovers.EmptiesCell index count) old =
      robust.freed p index given.owner old
  recover_effects p given value (recovers.Hides index count) old =
      hidden p index count old
  recover_effects p given value (recovers.Raises index raise) old = []
  recover_effects p given value (recovers.Locks index lock) old =
      robust.locked_by p lock old
  recover_effects p given value recovers.LoadsCounterAgain old = []
  recover_effects p given value (recovers.AddsChange state) old = []

  -- What a look's step writes down, where its word has this old value: that it has copied a value, once the element's
  -- number is the same.
  abbrev pub look_effects : ℕ → T → LookStage → ℕ → List (Event T)
  look_effects p value looks.LoadsChange old = []
  look_effects p value (looks.LoadsCount index) old = []
  look_effects p value (looks.LoadsWord index count at) old = []
  look_effects p value (looks.ChecksCount index count) old =
      copied p index count value old

  -- the value whose words the state's look has read
  abbrev pub copy_in : Coding T → ContainerState T → T
  copy_in code state = value_in code.value_of code.size state.shown.copy

  -- what a look's step writes down, if its party has a state
  abbrev pub look_effects_of : Coding T → ℕ → LookStage → ℕ → Option (ContainerState T)
      → List (Event T)
  look_effects_of code p stage old None = []
  look_effects_of code p stage old (Some state) = look_effects p (copy_in code state) stage old

  -- what a step of a party does that has this state; counts and the look at the lock do nothing
  abbrev pub effects : Coding T → ℕ → Option (ContainerState T) → ContainerFlight T → ℕ
      → List (Event T)
  effects code p state (Add run) old = add_effects p run.given run.call.stage old
  effects code p state (Remove run) old = remove_effects p run.given run.call.stage old
  effects code p state (Replace run) old = replace_effects p run.given run.call.stage old
  effects code p state (Find run) old = find_effects p (read_in code run.room) run.call.stage old
  effects code p state (Recover run) old =
      recover_effects p run.given (read_in code run.room) run.call.stage old
  effects code p state (Look which call) old = look_effects_of code p call.stage old state
  effects code p state flight old = []

  -- the question of a recovery, which its copy puts
  abbrev pub question_of : ℕ → DeadOwner → RecoverStage → ℕ → List (Event T)
  question_of p given (recovers.ChecksCount index count) old =
      if old == count then Asked p index given.owner ∷ [] else []
  question_of p given stage old = []

  -- the question that a recovery puts with its step
  abbrev pub questions : ℕ → ContainerFlight T → ℕ → List (Event T)
  questions p (Recover run) old = question_of p run.given run.call.stage old
  questions p flight old = []

  -- all that a step comes to, beside who has died and the parties' states
  abbrev pub step : Coding T → ℕ → ContainerFlight T → ℕ → List ℕ → List (ℕ × ContainerState T)
      → Step (ContainerFlight T) (List ℕ × List (ℕ × ContainerState T)) T
  step code p flight old dead states =
      record {
        after = after code (state_of p states) flight old;
        back = goes_back flight old;
        wrote = effects code p (state_of p states) flight old ++ questions p flight old;
        kept = (dead, states_after code p flight old states);
      }
