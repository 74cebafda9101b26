-- What an operation of a call of a container makes of the counter of its set, which is the first word, and
-- what it is handed. `Counter` of `laws_robust` says the same of the calls of a robust set.
use Rattle.std.proofs.Common.{◌≡◌, ℕ, ◌<◌, true, Some, List, length, get_or, refl, arith}
use Rattle.steps.specs.Container.Add.{add_asks}
use Rattle.steps.specs.Container.Find.{find_asks}
use Rattle.steps.specs.Container.Layout.{change_word, count_word, element_word}
use Rattle.steps.specs.Container.Look.{look_asks}
use Rattle.steps.specs.Container.Recover.{recover_asks}
use Rattle.steps.specs.Container.Remove.{remove_asks}
use Rattle.steps.specs.Container.Replace.{replace_asks}
use Rattle.steps.specs.Indices.Robust.Parts.{cell_word, empty, one_more}
use Rattle.steps.specs.declared.ask.Op.{Op}
use Rattle.steps.specs.declared.ask.Op.TheVariants.{Load, Store, Add as AddBy, Exchange}
use Rattle.steps.specs.declared.container.add.AddStage.{AddStage}
use Rattle.steps.specs.declared.container.add.AddStage.TheVariants as adds
use Rattle.steps.specs.declared.container.add.Owned.{Owned}
use Rattle.steps.specs.declared.container.find.FindStage.{FindStage}
use Rattle.steps.specs.declared.container.find.FindStage.TheVariants as finds
use Rattle.steps.specs.declared.container.look.LookStage.{LookStage}
use Rattle.steps.specs.declared.container.look.LookStage.TheVariants as looks
use Rattle.steps.specs.declared.container.recover.RecoverStage.{RecoverStage}
use Rattle.steps.specs.declared.container.recover.RecoverStage.TheVariants as recovers
use Rattle.steps.specs.declared.container.remove.RemoveStage.{RemoveStage}
use Rattle.steps.specs.declared.container.remove.RemoveStage.TheVariants as removes
use Rattle.steps.specs.declared.container.replace.ReplaceStage.{ReplaceStage}
use Rattle.steps.specs.declared.container.replace.ReplaceStage.TheVariants as replaces
use Rattle.steps.specs.declared.container.replace.Replacement.{Replacement}
use Rattle.steps.specs.declared.indices.robust.release.GiveBack.{GiveBack}
use Rattle.model.specs.declared.families.container.calls.ContainerFlight.{ContainerFlight}
use Rattle.model.specs.declared.families.container.calls.ContainerFlight.TheVariants.{Add, Remove, Replace, Find, Recover, Look, Count, IsLocked}
use Rattle.model.specs.Coding.{Coding}
use Rattle.model.specs.Families.{ask_of, is_question}
use Rattle.model.specs.Families.Container.Calls.{want}
use Rattle.model.specs.Turns.{old_of, words_after}
use Rattle.laws_robust.proofs.Counter.{count_old}
use Rattle.laws_robust.proofs.Counter.{counter_of, count_finds, lock_finds, acquire_finds, release_finds, raise_finds}
use Rattle.laws_robust.proofs.Counter.{first_then, other_then, count_leaves, lock_leaves, acquire_leaves, release_leaves, raise_leaves}
use Rattle.laws_robust.proofs.Counter.{raise_then, lock_then, lock_old, count_then, acquire_then, acquire_old, release_then, release_old}

-- the counter after an operation of an add: only the acquire of the set moves it
abbrev pub add_then : AddStage → ℕ → ℕ
add_then (adds.Acquires stage) n = acquire_then stage n
add_then stage n = n

-- what an add is handed: the counter where its acquire reads it, and else the value of its word
abbrev pub add_old : AddStage → ℕ → ℕ → ℕ
add_old (adds.Acquires stage) n cell = acquire_old stage n cell
add_old stage n cell = cell

-- the counter after an operation of a remove: only the release of the set moves it
abbrev pub remove_then : RemoveStage → ℕ → ℕ
remove_then (removes.Releases count stage) n = release_then stage n
remove_then stage n = n

-- what a remove is handed: the counter where its release reads it, and else the value of its word
abbrev pub remove_old : RemoveStage → ℕ → ℕ → ℕ
remove_old (removes.Releases count stage) n cell = release_old stage n cell
remove_old stage n cell = cell

-- the counter after an operation of a recovery: only its raise and its lock move it
abbrev pub recover_then : RecoverStage → ℕ → ℕ
recover_then (recovers.Raises index raise) n = raise_then raise n
recover_then (recovers.Locks index lock) n = lock_then lock n
recover_then stage n = n

-- what a recovery is handed: the counter where it reads it, and else the value of its word
abbrev pub recover_old : RecoverStage → ℕ → ℕ → ℕ
recover_old (recovers.Raises index raise) n cell = n
recover_old (recovers.Locks index lock) n cell = lock_old lock n cell
recover_old stage n cell = cell

module _ {T : Type 0} where
  -- the counter after a step of any call
  abbrev pub container_then : ContainerFlight T → ℕ → ℕ
  container_then (Add run) n = add_then run.call.stage n
  container_then (Remove run) n = remove_then run.call.stage n
  container_then (Recover run) n = recover_then run.call.stage n
  container_then (Count which run) n = count_then run.call.count n
  container_then flight n = n

  -- what a step of any call is handed, where its cell has this value
  abbrev pub container_old : ContainerFlight T → ℕ → ℕ → ℕ
  container_old (Add run) n cell = add_old run.call.stage n cell
  container_old (Remove run) n cell = remove_old run.call.stage n cell
  container_old (Recover run) n cell = recover_old run.call.stage n cell
  container_old (Count which run) n cell = count_old run.call.count n cell
  container_old flight n cell = cell

module _ {T : Type 0} (code : Coding T) (words : List ℕ) where
  -- what a call is handed by its operation is what `container_old` says of its stage: the counter where the
  -- operation is on it, and else the value of the operation's own word
  pub container_finds : (flight : ContainerFlight T)
      → old_of words (ask_of (want code flight)) ≡ container_old flight (counter_of words) (old_of words (ask_of (want code flight)))
  container_finds (Add run) = add_finds run.call.stage
    where
      -- an add is handed what `add_old` says of its stage
      add_finds : (stage : AddStage)
          → old_of words (ask_of (add_asks code.words_of code.size run.call.capacity stage run.given))
          ≡ add_old stage (counter_of words) (old_of words (ask_of (add_asks code.words_of code.size run.call.capacity stage run.given)))
      add_finds (adds.Acquires stage) = acquire_finds words stage run.given.owner
      add_finds (adds.LoadsCount index) = refl
      add_finds (adds.Hides index count) = refl
      add_finds (adds.Stores index at) = refl
      add_finds (adds.AddsCount index) = refl
      add_finds (adds.AddsChange index) = refl
  container_finds (Remove run) = remove_finds run.call.stage
    where
      -- a remove is handed what `remove_old` says of its stage
      remove_finds : (stage : RemoveStage)
          → old_of words (ask_of (remove_asks run.call.capacity stage run.given))
          ≡ remove_old stage (counter_of words) (old_of words (ask_of (remove_asks run.call.capacity stage run.given)))
      remove_finds removes.Refuses = refl
      remove_finds removes.LoadsCount = refl
      remove_finds (removes.Releases count stage) = release_finds words stage run.given
      remove_finds (removes.Hides count state) = refl
      remove_finds (removes.AddsChange state) = refl
  container_finds (Replace run) = refl
  container_finds (Find run) = refl
  container_finds (Recover run) = recover_finds run.call.stage
    where
      -- a recovery is handed what `recover_old` says of its stage
      recover_finds : (stage : RecoverStage)
          → old_of words (ask_of (recover_asks code.size run.call.capacity stage run.given.owner))
          ≡ recover_old stage (counter_of words) (old_of words (ask_of (recover_asks code.size run.call.capacity stage run.given.owner)))
      recover_finds recovers.LoadsCounter = refl
      recover_finds (recovers.LoadsCell index) = refl
      recover_finds (recovers.LoadsCount index) = refl
      recover_finds (recovers.LoadsWord index count at) = refl
      recover_finds (recovers.ChecksCount index count) = refl
      recover_finds (recovers.Asks index count) = refl
      recover_finds (recovers.EmptiesCell index count) = refl
      recover_finds (recovers.Hides index count) = refl
      recover_finds (recovers.Raises index raise) = raise_finds words raise
      recover_finds (recovers.Locks index lock) = lock_finds words lock
      recover_finds recovers.LoadsCounterAgain = refl
      recover_finds (recovers.AddsChange state) = refl
  container_finds (Look which call) = refl
  container_finds (Count which run) = count_finds words run.call.count
  container_finds (IsLocked run) = refl

  module _ (some : 0 < length words) (c : ℕ) where
    -- adding 1 to the number of changes leaves the counter
    change_leaves : counter_of (words_after words (Some (record { word = change_word c; op = AddBy 1 }))) ≡ counter_of words
    change_leaves = other_then words some (change_word c) (AddBy 1) (omega arith)

    -- an operation on the number of an element leaves the counter
    count_leaves_it : (index : ℕ) (op : Op) → counter_of (words_after words (Some (record { word = count_word c index; op = op }))) ≡ counter_of words
    count_leaves_it index op = other_then words some (count_word c index) op (omega arith)

    -- an operation on a data word of an element leaves the counter
    element_leaves : (size index at : ℕ) (op : Op)
        → counter_of (words_after words (Some (record { word = element_word c size index at; op = op }))) ≡ counter_of words
    element_leaves size index at op = other_then words some (element_word c size index at) op (omega arith)

    -- after an operation of an add the counter is what `add_then` says of its stage
    add_leaves : (stage : AddStage) (given : Owned T)
        → counter_of (words_after words (ask_of (add_asks code.words_of code.size c stage given))) ≡ add_then stage (counter_of words)
    add_leaves (adds.Acquires stage) given = acquire_leaves words some stage given.owner
    add_leaves (adds.LoadsCount index) given = count_leaves_it index Load
    add_leaves (adds.Hides index count) given = count_leaves_it index (Exchange count (one_more count))
    add_leaves (adds.Stores index at) given = element_leaves code.size index at (Store (get_or (code.words_of given.value) at 0))
    add_leaves (adds.AddsCount index) given = count_leaves_it index (AddBy 1)
    add_leaves (adds.AddsChange index) given = change_leaves

    -- after an operation of a remove the counter is what `remove_then` says of its stage
    remove_leaves : (stage : RemoveStage) (given : GiveBack)
        → counter_of (words_after words (ask_of (remove_asks c stage given))) ≡ remove_then stage (counter_of words)
    remove_leaves removes.Refuses given = refl
    remove_leaves removes.LoadsCount given = count_leaves_it given.index Load
    remove_leaves (removes.Releases count stage) given = release_leaves words some stage given
    remove_leaves (removes.Hides count state) given = count_leaves_it given.index (Exchange count (one_more count))
    remove_leaves (removes.AddsChange state) given = change_leaves

    -- no operation of a replace changes the counter
    replace_leaves : (stage : ReplaceStage) (given : Replacement T)
        → counter_of (words_after words (ask_of (replace_asks code.words_of code.size c stage given))) ≡ counter_of words
    replace_leaves replaces.Refuses given = refl
    replace_leaves replaces.LoadsCell given = other_then words some (cell_word given.index) Load (omega arith)
    replace_leaves replaces.LoadsCount given = count_leaves_it given.index Load
    replace_leaves (replaces.Hides count) given = count_leaves_it given.index (Exchange count (one_more count))
    replace_leaves (replaces.Stores at) given = element_leaves code.size given.index at (Store (get_or (code.words_of given.value) at 0))
    replace_leaves replaces.AddsCount given = count_leaves_it given.index (AddBy 1)
    replace_leaves replaces.AddsChange given = change_leaves

    -- no operation of a find changes the counter
    find_leaves : (stage : FindStage) → counter_of (words_after words (ask_of (find_asks code.size c stage))) ≡ counter_of words
    find_leaves (finds.LoadsCell index found) = other_then words some (cell_word index) Load (omega arith)
    find_leaves (finds.LoadsCount index found) = count_leaves_it index Load
    find_leaves (finds.LoadsWord index found count at) = element_leaves code.size index at Load
    find_leaves (finds.ChecksCount index found count) = count_leaves_it index (Exchange count count)
    find_leaves (finds.Asks index found) = refl

    -- after an operation of a recovery the counter is what `recover_then` says of its stage
    recover_leaves : (stage : RecoverStage) (owner : ℕ)
        → counter_of (words_after words (ask_of (recover_asks code.size c stage owner))) ≡ recover_then stage (counter_of words)
    recover_leaves recovers.LoadsCounter owner = first_then words some Load
    recover_leaves (recovers.LoadsCell index) owner = other_then words some (cell_word index) Load (omega arith)
    recover_leaves (recovers.LoadsCount index) owner = count_leaves_it index Load
    recover_leaves (recovers.LoadsWord index count at) owner = element_leaves code.size index at Load
    recover_leaves (recovers.ChecksCount index count) owner = count_leaves_it index (Exchange count count)
    recover_leaves (recovers.Asks index count) owner = refl
    recover_leaves (recovers.EmptiesCell index count) owner = other_then words some (cell_word index) (Exchange owner empty) (omega arith)
    recover_leaves (recovers.Hides index count) owner = count_leaves_it index (Exchange count (one_more count))
    recover_leaves (recovers.Raises index raise) owner = raise_leaves words some raise
    recover_leaves (recovers.Locks index lock) owner = lock_leaves words some lock
    recover_leaves recovers.LoadsCounterAgain owner = first_then words some Load
    recover_leaves (recovers.AddsChange state) owner = change_leaves

    -- no operation of a look changes the counter
    look_leaves : (stage : LookStage) → counter_of (words_after words (ask_of (look_asks code.size c stage))) ≡ counter_of words
    look_leaves looks.LoadsChange = other_then words some (change_word c) Load (omega arith)
    look_leaves (looks.LoadsCount index) = count_leaves_it index Load
    look_leaves (looks.LoadsWord index count at) = element_leaves code.size index at Load
    look_leaves (looks.ChecksCount index count) = count_leaves_it index (Exchange count count)

  -- after an operation of any call the counter is what `container_then` says of its stage
  pub container_leaves : 0 < length words → (flight : ContainerFlight T)
      → counter_of (words_after words (ask_of (want code flight))) ≡ container_then flight (counter_of words)
  container_leaves some (Add run) = add_leaves some run.call.capacity run.call.stage run.given
  container_leaves some (Remove run) = remove_leaves some run.call.capacity run.call.stage run.given
  container_leaves some (Replace run) = replace_leaves some run.call.capacity run.call.stage run.given
  container_leaves some (Find run) = find_leaves some run.call.capacity run.call.stage
  container_leaves some (Recover run) = recover_leaves some run.call.capacity run.call.stage run.given.owner
  container_leaves some (Look which call) = look_leaves some call.capacity call.stage
  container_leaves some (Count which run) = count_leaves words some run.call.count
  container_leaves some (IsLocked run) = first_then words some Load

module _ {T : Type 0} (code : Coding T) where
  -- at a question a call leaves the counter, and is handed the decision
  pub container_asks : (flight : ContainerFlight T) (n cell : ℕ) → is_question (want code flight) ≡ true
      → (n ≡ container_then flight n) × (cell ≡ container_old flight n cell)
  container_asks flight n cell due = grind arith
