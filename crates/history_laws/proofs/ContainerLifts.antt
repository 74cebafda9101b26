-- What a step of a call of a container adds to the number of an element, or to the number of changes: no more than what the
-- call may still add, and what it writes of it.
use Rattle.std.proofs.Common.{◌≡◌, ◌≢◌, ℕ, ◌+◌, ◌<◌, ◌≤◌, ◌==◌, ⊎_elim, Bool, true, false, Option, Some, None, List, [], ◌∷◌, length, get_or}
use Rattle.std.proofs.Common.{sym, subst, arith, if◌then◌else◌, get_or-set_same, get_or-set_other}
use Rattle.std.proofs.lemmas.Bool.{cases_eq}
use Rattle.steps.specs.Ask.{written}
use Rattle.steps.specs.Container.Add.{Added, add_asks, add_after}
use Rattle.steps.specs.Container.Find.{find_asks}
use Rattle.steps.specs.Container.Layout.{change_word, count_word, element_word}
use Rattle.steps.specs.Container.Look.{look_asks, look_after}
use Rattle.steps.specs.Container.Recover.{recover_asks}
use Rattle.steps.specs.Container.Remove.{Removed, remove_asks, remove_after}
use Rattle.steps.specs.Container.Replace.{Replaced, replace_asks, replace_after}
use Rattle.steps.specs.Indices.Robust.Acquire.{acquire_asks}
use Rattle.steps.specs.Indices.Robust.Parts.{cell_word, empty, locked, one_more, raise_want, count_want, lock_want, count_after}
use Rattle.steps.specs.Indices.Robust.Release.{release_asks}
use Rattle.steps.specs.Indices.Robust.Looks.{borrowed_counted}
use Rattle.steps.specs.Routine.{went_on}
use Rattle.steps.specs.declared.ask.After.{After}
use Rattle.steps.specs.declared.ask.After.TheVariants.{GoOn, Done}
use Rattle.steps.specs.declared.ask.Ask.{Ask}
use Rattle.steps.specs.declared.ask.Op.{Op}
use Rattle.steps.specs.declared.ask.Op.TheVariants.{Load, Store, Add as AddBy, Exchange}
use Rattle.steps.specs.declared.container.add.Add as adding
use Rattle.steps.specs.declared.container.add.AddStage.{AddStage}
use Rattle.steps.specs.declared.container.add.AddStage.TheVariants as adds
use Rattle.steps.specs.declared.container.add.Owned.{Owned}
use Rattle.steps.specs.declared.container.find.Find as finding
use Rattle.steps.specs.declared.container.find.FindStage.{FindStage}
use Rattle.steps.specs.declared.container.find.FindStage.TheVariants as finds
use Rattle.steps.specs.declared.container.look.Look as looking
use Rattle.steps.specs.declared.container.look.LookStage.{LookStage}
use Rattle.steps.specs.declared.container.look.LookStage.TheVariants as looks
use Rattle.steps.specs.declared.container.recover.DeadOwner.{DeadOwner}
use Rattle.steps.specs.declared.container.recover.Recover as recovering
use Rattle.steps.specs.declared.container.recover.RecoverStage.{RecoverStage}
use Rattle.steps.specs.declared.container.recover.RecoverStage.TheVariants as recovers
use Rattle.steps.specs.declared.container.remove.Remove as removing
use Rattle.steps.specs.declared.container.remove.RemoveStage.{RemoveStage}
use Rattle.steps.specs.declared.container.remove.RemoveStage.TheVariants as removes
use Rattle.steps.specs.declared.container.replace.Replace as replacing
use Rattle.steps.specs.declared.container.replace.Replacement.{Replacement}
use Rattle.steps.specs.declared.container.replace.ReplaceStage.{ReplaceStage}
use Rattle.steps.specs.declared.container.replace.ReplaceStage.TheVariants as replaces
use Rattle.steps.specs.declared.container.state.ContainerState.{ContainerState}
use Rattle.steps.specs.declared.copied.Buffer.{Buffer}
use Rattle.steps.specs.declared.indices.enums.ReleaseState.{ReleaseState}
use Rattle.steps.specs.declared.indices.robust.acquire.AcquireStage.{AcquireStage}
use Rattle.steps.specs.declared.indices.robust.acquire.AcquireStage.TheVariants as acquires
use Rattle.steps.specs.declared.indices.robust.looks.BorrowedIndices as counting
use Rattle.steps.specs.declared.indices.robust.parts.Count as counts
use Rattle.steps.specs.declared.indices.robust.parts.Counted.{Counted}
use Rattle.steps.specs.declared.indices.robust.parts.Counted.TheVariants as ends
use Rattle.steps.specs.declared.indices.robust.parts.Lock.{Lock}
use Rattle.steps.specs.declared.indices.robust.parts.Lock.TheVariants as locks
use Rattle.steps.specs.declared.indices.robust.parts.Raise.{Raise}
use Rattle.steps.specs.declared.indices.robust.parts.Raise.TheVariants as raises
use Rattle.steps.specs.declared.indices.robust.release.GiveBack.{GiveBack}
use Rattle.steps.specs.declared.indices.robust.release.ReleaseStage.{ReleaseStage}
use Rattle.steps.specs.declared.indices.robust.release.ReleaseStage.TheVariants as releases
use Rattle.model.specs.declared.event.Answer.{Answer}
use Rattle.model.specs.declared.event.Answer.TheVariants as answers
use Rattle.model.specs.declared.event.Event.TheVariants.{Begun, Hidden}
use Rattle.model.specs.declared.event.Start.TheVariants.{Container}
use Rattle.model.specs.declared.families.container.ContainerStart.{ContainerStart}
use Rattle.model.specs.declared.families.container.ContainerStart.TheVariants as starts
use Rattle.model.specs.declared.families.container.calls.ContainerFlight.{ContainerFlight}
use Rattle.model.specs.declared.families.container.calls.ContainerFlight.TheVariants.{Add, Remove, Replace, Find, Recover, Look, Count, IsLocked}
use Rattle.model.specs.declared.families.container.calls.CountOf.{CountOf}
use Rattle.model.specs.declared.families.container.calls.LookOf.{LookOf}
use Rattle.model.specs.Coding.{Coding}
use Rattle.model.specs.Families.{ask_of}
use Rattle.model.specs.Families.Container.Calls.{want, after, added, removed, replaced, counted, look_came, look_goes, look_shows, first}
use Rattle.model.specs.Families.Container.Reading.{Act}
use Rattle.model.specs.Families.Container.Steps.{effects}
use Rattle.model.specs.Families.Indices.Robust.Reading.{SetAct}
use Rattle.model.specs.Families.Queues.Calls.{as_it_is}
use Rattle.model.specs.Step.{as_call}
use Rattle.model.specs.Turns.{old_of, words_after}
use Rattle.laws_container.proofs.CallProgress.{At, place_is}
use Rattle.history_laws.specs.Containers.{rise, rises}

-- ---- what a call may still add

-- by how much an add may still raise a number: by 2, or by 1 once only the count of changes is left
abbrev pub add_lifts : AddStage → ℕ
add_lifts (adds.AddsChange index) = 1
add_lifts stage = 2

-- by how much a replace may still raise a number: by 2, or by 1 once only the count of changes is left
abbrev pub replace_lifts : ReplaceStage → ℕ
replace_lifts replaces.AddsChange = 1
replace_lifts stage = 2

module _ {T : Type 0} where
  -- By how much a call of a container may still raise a word that counts an element's changes or all changes:
  -- such numbers go up by its steps alone.
  abbrev pub container_lifts : ContainerFlight T → ℕ
  container_lifts (Add run) = add_lifts run.call.stage
  container_lifts (Replace run) = replace_lifts run.call.stage
  container_lifts (Remove run) = 1
  container_lifts (Recover run) = 1
  container_lifts flight = 0

  -- by how much the call may still raise a number after a step: not at all once it has ended
  abbrev pub lifts_left : After (ContainerFlight T) (Answer T) → ℕ
  lifts_left (GoOn flight) = container_lifts flight
  lifts_left (Done answer) = 0

-- ---- what a step of a call adds

abbrev hides : ℕ → ℕ → ℕ
hides count old = if old == count then 1 else 0

-- by how much a step of an add raises a number, where it finds the word `old`
abbrev add_adds : AddStage → ℕ → ℕ
add_adds (adds.Hides index count) old = hides count old
add_adds (adds.AddsCount index) old = 1
add_adds (adds.AddsChange index) old = 1
add_adds stage old = 0

-- by how much a step of a replace raises a number, where it finds the word `old`
abbrev replace_adds : ReplaceStage → ℕ → ℕ
replace_adds (replaces.Hides count) old = hides count old
replace_adds replaces.AddsCount old = 1
replace_adds replaces.AddsChange old = 1
replace_adds stage old = 0

-- by how much a step of a remove raises a number, where it finds the word `old`
abbrev remove_adds : RemoveStage → ℕ → ℕ
remove_adds (removes.Hides count state) old = hides count old
remove_adds (removes.AddsChange state) old = 1
remove_adds stage old = 0

-- by how much a step of a recovery raises a number, where it finds the word `old`
abbrev recover_adds : RecoverStage → ℕ → ℕ
recover_adds (recovers.Hides index count) old = hides count old
recover_adds (recovers.AddsChange state) old = 1
recover_adds stage old = 0

-- by how much a step of a container's call raises the number of an element or of changes, where
-- it finds the word `old`
abbrev pub container_adds : {T : Type 0} → ContainerFlight T → ℕ → ℕ
container_adds (Add run) old = add_adds run.call.stage old
container_adds (Replace run) old = replace_adds run.call.stage old
container_adds (Remove run) old = remove_adds run.call.stage old
container_adds (Recover run) old = recover_adds run.call.stage old
container_adds flight old = 0

-- ---- the cells that a call writes are cells of the set

-- the cell that an acquire fills is one of the set's
abbrev AcquireWithin : ℕ → AcquireStage → Type 0
AcquireWithin c (acquires.FillsCell counter index) = index < c
AcquireWithin c stage = Unit {0}

-- the cell that an add fills is one of the set's
abbrev AddWithin : ℕ → AddStage → Type 0
AddWithin c (adds.Acquires stage) = AcquireWithin c stage
AddWithin c stage = Unit {0}

-- the cell that a remove empties is one of the set's
abbrev RemoveWithin : ℕ → GiveBack → RemoveStage → Type 0
RemoveWithin c given (removes.Releases count stage) = given.index < c
RemoveWithin c given stage = Unit {0}

-- the cell that a recovery empties is one of the set's
abbrev RecoverWithin : ℕ → RecoverStage → Type 0
RecoverWithin c (recovers.EmptiesCell index count) = index < c
RecoverWithin c stage = Unit {0}

-- the call is of a container of this capacity, and the cell that its stage writes lies below that
abbrev pub IsWithin : {T : Type 0} → ℕ → ContainerFlight T → Type 0
IsWithin c (Add run) = (run.call.capacity ≡ c) × AddWithin c run.call.stage
IsWithin c (Remove run) = (run.call.capacity ≡ c) × RemoveWithin c run.given run.call.stage
IsWithin c (Replace run) = run.call.capacity ≡ c
IsWithin c (Find run) = run.call.capacity ≡ c
IsWithin c (Recover run) = (run.call.capacity ≡ c) × RecoverWithin c run.call.stage
IsWithin c (Look which call) = call.capacity ≡ c
IsWithin c (Count which run) = Unit {0}
IsWithin c (IsLocked run) = Unit {0}

module _ {T : Type 0} (c z : ℕ) (all : List SetAct) (done : List (Act T)) where
  add_within : (owner : ℕ) (value : T) (run : _) → At c z all done (starts.Add value owner) (Add run) → IsWithin c (Add run)
  add_within owner value run at = grind arith

  -- a remove that stands as the container's laws say is within the container
  remove_within : (index owner : ℕ) (mode : _) (run : _) → At c z all done (starts.Remove index owner mode) (Remove run)
      → IsWithin {T = T} c (Remove run)
  remove_within index owner mode run at = let placed = place_is c index in grind arith

  -- a recovery that stands as the container's laws say is within the container
  recover_within : (owner : ℕ) (mode : _) (run : _) → At c z all done (starts.Recover owner mode) (Recover run)
      → IsWithin {T = T} c (Recover run)
  recover_within owner mode run at = grind arith

  -- a call that stands as the container's laws say is within the container
  pub is_within : (start : ContainerStart T) (flight : ContainerFlight T) → At c z all done start flight → IsWithin c flight
  is_within (starts.Add value owner) (Add run) at = add_within owner value run at
  is_within (starts.Remove index owner mode) (Remove run) at = remove_within index owner mode run at
  is_within (starts.Recover owner mode) (Recover run) at = recover_within owner mode run at
  is_within start flight at = grind arith

-- ---- the words

one_more_most : (n : ℕ) → one_more n ≤ n + 1
one_more_most n = grind arith

hides_most : (count old : ℕ) → written (Exchange count (one_more count)) old ≤ old + hides count old
hides_most count old = let most = one_more_most count in grind arith

check_keeps : (count old : ℕ) → written (Exchange count count) old ≤ old
check_keeps count old = grind arith

-- the word stands behind those of the set and before those of values
module _ (words : List ℕ) (n : ℕ) (inside : n < length words) where
  -- the step raises word n by at most k
  abbrev pub Lifts : Option Ask → ℕ → Type 0
  Lifts ask k = get_or (words_after words ask) n 0 ≤ get_or words n 0 + k

  other : (word : ℕ) (op : Op) (k : ℕ) → word ≢ n → Lifts (Some (record { word = word; op = op })) k
  other word op k ne =
      let same : get_or (words_after words (Some (record { word = word; op = op }))) n 0 ≡ get_or words n 0 =
      get_or-set_other words word n (written op (get_or words word 0)) 0 (λ e. absurd (ne (omega arith))) in
      omega arith

  most : (word : ℕ) (op : Op) (k : ℕ) → written op (get_or words word 0) ≤ get_or words word 0 + k → Lifts (Some (record { word = word; op = op })) k
  most word op k low = ⊎_elim here (λ ne. other word op k ne) (cases_eq word n)
    where
      -- where the step writes this very word, it rises by at most k
      here : word ≡ n → Lifts (Some (record { word = word; op = op })) k
      here e =
          let is : get_or (words_after words (Some (record { word = word; op = op }))) word 0 ≡ written op (get_or words word 0) =
          get_or-set_same words word (written op (get_or words word 0)) 0 (omega arith) in
          let all : get_or (words_after words (Some (record { word = word; op = op }))) word 0 ≤ get_or words word 0 + k = omega arith in
          subst (λ i. get_or (words_after words (Some (record { word = word; op = op }))) i 0 ≤ get_or words i 0 + k) e all

  loaded : (word : ℕ) → Lifts (Some (record { word = word; op = Load })) 0
  loaded word = most word Load 0 (omega arith)

  checked : (word count : ℕ) → Lifts (Some (record { word = word; op = Exchange count count })) 0
  checked word count = most word (Exchange count count) 0 (omega (arith, check_keeps count (get_or words word 0)))

  hidden : (word count : ℕ) → Lifts (Some (record { word = word; op = Exchange count (one_more count) })) (hides count (get_or words word 0))
  hidden word count = most word (Exchange count (one_more count)) (hides count (get_or words word 0)) (hides_most count (get_or words word 0))

  counted_on : (word : ℕ) → Lifts (Some (record { word = word; op = AddBy 1 })) 1
  counted_on word = most word (AddBy 1) 1 (one_more_most (get_or words word 0))

  module _ (c : ℕ) (past : 1 + c ≤ n) (before : n < 2 + (c + c)) where
    -- the set's

    counter_op : (op : Op) → Lifts (Some (record { word = 0; op = op })) 0
    counter_op op = other 0 op 0 (λ e. absurd (omega arith))

    cell_op : (index : ℕ) (op : Op) → index < c → Lifts (Some (record { word = cell_word index; op = op })) 0
    cell_op index op below = other (cell_word index) op 0 (λ e. absurd (omega arith))

    element_op : (size index at : ℕ) (op : Op) → Lifts (Some (record { word = element_word c size index at; op = op })) 0
    element_op size index at op = other (element_word c size index at) op 0 (λ e. absurd (omega arith))

    raise_keeps : (raise : Raise) → Lifts (ask_of (raise_want raise)) 0
    raise_keeps raises.LoadsCounter = counter_op Load
    raise_keeps (raises.ExchangesCounter k) = counter_op (Exchange k (one_more k))

    count_keeps : (count : counts.Count) → Lifts (ask_of (count_want count)) 0
    count_keeps counts.TheVariants.LoadsCounter = counter_op Load
    count_keeps (counts.TheVariants.LoadsCell counter index filled) = loaded (cell_word index)
    count_keeps (counts.TheVariants.ExchangesCounter k filled) = counter_op (Exchange k (one_more k))

    lock_keeps : (lock : Lock) → Lifts (ask_of (lock_want lock)) 0
    lock_keeps (locks.Counts count) = count_keeps count
    lock_keeps (locks.ExchangesCounter k) = counter_op (Exchange k locked)

    -- a step of an acquire leaves word n
    acquire_keeps : (stage : AcquireStage) (owner : ℕ) → AcquireWithin c stage → Lifts (ask_of (acquire_asks stage owner)) 0
    acquire_keeps acquires.LoadsCounter owner within = counter_op Load
    acquire_keeps (acquires.FillsCell counter index) owner within = cell_op index (Exchange empty owner) within
    acquire_keeps (acquires.ChecksCounter k) owner within = counter_op (Exchange k k)
    acquire_keeps (acquires.Raises index raise) owner within = raise_keeps raise

    -- a step of a release leaves word n
    release_keeps : (stage : ReleaseStage) (given : GiveBack) → given.index < c → Lifts (ask_of (release_asks stage given)) 0
    release_keeps releases.EmptiesCell given within = cell_op given.index (Exchange given.owner empty) within
    release_keeps (releases.Raises raise) given within = raise_keeps raise
    release_keeps (releases.Locks lock) given within = lock_keeps lock

    -- the container's

    -- the step raises word n by at most what the call's step adds, where it finds the word
    abbrev LiftsBy : Option Ask → (ℕ → ℕ) → Type 0
    LiftsBy ask adds = Lifts ask (adds (old_of words ask))

    -- a step of a remove raises the word by no more than it adds
    remove_lift : (stage : RemoveStage) (given : GiveBack) → RemoveWithin c given stage
        → LiftsBy (ask_of (remove_asks c stage given)) (remove_adds stage)
    remove_lift removes.Refuses given within = omega arith
    remove_lift removes.LoadsCount given within = loaded (count_word c given.index)
    remove_lift (removes.Releases count stage) given within = release_keeps stage given within
    remove_lift (removes.Hides count state) given within = hidden (count_word c given.index) count
    remove_lift (removes.AddsChange state) given within = counted_on (change_word c)

    -- a step of a recovery raises the word by no more than it adds
    recover_lift : (size : ℕ) (stage : RecoverStage) (owner : ℕ) → RecoverWithin c stage
        → LiftsBy (ask_of (recover_asks size c stage owner)) (recover_adds stage)
    recover_lift size recovers.LoadsCounter owner within = counter_op Load
    recover_lift size (recovers.LoadsCell index) owner within = loaded (cell_word index)
    recover_lift size (recovers.LoadsCount index) owner within = loaded (count_word c index)
    recover_lift size (recovers.LoadsWord index count at) owner within = element_op size index at Load
    recover_lift size (recovers.ChecksCount index count) owner within = checked (count_word c index) count
    recover_lift size (recovers.Asks index count) owner within = omega arith
    recover_lift size (recovers.EmptiesCell index count) owner within = cell_op index (Exchange owner empty) within
    recover_lift size (recovers.Hides index count) owner within = hidden (count_word c index) count
    recover_lift size (recovers.Raises index raise) owner within = raise_keeps raise
    recover_lift size (recovers.Locks index lock) owner within = lock_keeps lock
    recover_lift size recovers.LoadsCounterAgain owner within = counter_op Load
    recover_lift size (recovers.AddsChange state) owner within = counted_on (change_word c)

    -- a step of a find does not raise the word
    find_keeps : (size : ℕ) (stage : FindStage) → Lifts (ask_of (find_asks size c stage)) 0
    find_keeps size (finds.LoadsCell index found) = loaded (cell_word index)
    find_keeps size (finds.LoadsCount index found) = loaded (count_word c index)
    find_keeps size (finds.LoadsWord index found count at) = element_op size index at Load
    find_keeps size (finds.ChecksCount index found count) = checked (count_word c index) count
    find_keeps size (finds.Asks index found) = omega arith

    -- a step of a look does not raise word n
    look_keeps : (size : ℕ) (stage : LookStage) → Lifts (ask_of (look_asks size c stage)) 0
    look_keeps size looks.LoadsChange = loaded (change_word c)
    look_keeps size (looks.LoadsCount index) = loaded (count_word c index)
    look_keeps size (looks.LoadsWord index count at) = element_op size index at Load
    look_keeps size (looks.ChecksCount index count) = checked (count_word c index) count

    module _ {T : Type 0} (code : Coding T) where
      -- a step of an add raises the word by no more than it adds
      add_lift : (stage : AddStage) (given : Owned T) → AddWithin c stage
          → LiftsBy (ask_of (add_asks code.words_of code.size c stage given)) (add_adds stage)
      add_lift (adds.Acquires stage) given within = acquire_keeps stage given.owner within
      add_lift (adds.LoadsCount index) given within = loaded (count_word c index)
      add_lift (adds.Hides index count) given within = hidden (count_word c index) count
      add_lift (adds.Stores index at) given within = element_op code.size index at (Store (get_or (code.words_of given.value) at 0))
      add_lift (adds.AddsCount index) given within = counted_on (count_word c index)
      add_lift (adds.AddsChange index) given within = counted_on (change_word c)

      -- a step of a replace raises the word by no more than it adds
      replace_lift : (stage : ReplaceStage) (given : Replacement T)
          → LiftsBy (ask_of (replace_asks code.words_of code.size c stage given)) (replace_adds stage)
      replace_lift replaces.Refuses given = omega arith
      replace_lift replaces.LoadsCell given = loaded (cell_word given.index)
      replace_lift replaces.LoadsCount given = loaded (count_word c given.index)
      replace_lift (replaces.Hides count) given = hidden (count_word c given.index) count
      replace_lift (replaces.Stores at) given = element_op code.size given.index at (Store (get_or (code.words_of given.value) at 0))
      replace_lift replaces.AddsCount given = counted_on (count_word c given.index)
      replace_lift replaces.AddsChange given = counted_on (change_word c)

  -- a step of any call of a container raises the word by no more than it adds
  pub container_lift : {T : Type 0} (code : Coding T) (c : ℕ) → 1 + c ≤ n → n < 2 + (c + c) → (flight : ContainerFlight T) → IsWithin c flight
      → Lifts (ask_of (want code flight)) (container_adds flight (old_of words (ask_of (want code flight))))
  container_lift code c past before (Add run) within =
      let e = within.0 in
      add_lift run.call.capacity (omega arith) (omega arith) code run.call.stage run.given
      (subst (λ k. AddWithin k run.call.stage) (sym e) within.1)
  container_lift code c past before (Remove run) within =
      let e = within.0 in
      remove_lift run.call.capacity (omega arith) (omega arith) run.call.stage run.given
      (subst (λ k. RemoveWithin k run.given run.call.stage) (sym e) within.1)
  container_lift code c past before (Replace run) within =
      let e : run.call.capacity ≡ c = within in
      replace_lift run.call.capacity (omega arith) (omega arith) code run.call.stage run.given
  container_lift code c past before (Find run) within =
      let e : run.call.capacity ≡ c = within in
      find_keeps run.call.capacity (omega arith) (omega arith) code.size run.call.stage
  container_lift code c past before (Recover run) within =
      let e = within.0 in
      recover_lift run.call.capacity (omega arith) (omega arith) code.size run.call.stage run.given.owner
      (subst (λ k. RecoverWithin k run.call.stage) (sym e) within.1)
  container_lift code c past before (Look which call) within =
      let e : call.capacity ≡ c = within in
      look_keeps call.capacity (omega arith) (omega arith) code.size call.stage
  container_lift code c past before (Count which run) within = count_keeps c past before run.call.count
  container_lift code c past before (IsLocked run) within = counter_op c past before Load

-- ---- where the step leads

-- an add may still raise a number by at most 2
add_most : (stage : AddStage) → add_lifts stage ≤ 2
add_most (adds.AddsChange index) = omega arith
add_most stage = omega arith

-- a replace may still raise a number by at most 2
replace_most : (stage : ReplaceStage) → replace_lifts stage ≤ 2
replace_most replaces.AddsChange = omega arith
replace_most stage = omega arith

module _ (T : Type 0) where
  hidden_writes : (p index : ℕ) (b : Bool) → (if b then 1 else 0) ≤ rises {T = T} (if b then Hidden p index ∷ [] else [])
  hidden_writes p index true = omega arith
  hidden_writes p index false = omega arith

  remove_leads : (given : GiveBack) (room : Unit {0}) (a : After removing.Remove Removed)
      → lifts_left {T = T} (as_call Remove removed (went_on as_it_is given room a)) ≤ 1
  remove_leads given room (GoOn run) = omega arith
  remove_leads given room (Done answer) = omega arith

  count_leads : (which : CountOf) (given room : Unit {0}) (call : counting.BorrowedIndices) (a : After counts.Count Counted)
      → lifts_left {T = T} (as_call (λ r. Count which r) (counted which) (went_on as_it_is given room (borrowed_counted call a))) ≤ 0
  count_leads which given room call (GoOn count) = omega arith
  count_leads which given room call (Done ends.Locked) = omega arith
  count_leads which given room call (Done (ends.Filled filled counter)) = omega arith

module _ {T : Type 0} where
  add_leads : (given : Owned T) (room : Unit {0}) (a : After (adding.Add T) Added)
      → lifts_left (as_call Add added (went_on as_it_is given room a)) ≤ 2
  add_leads given room (GoOn run) = add_most run.stage
  add_leads given room (Done answer) = omega arith

  replace_leads : (given : Replacement T) (room : Unit {0}) (a : After (replacing.Replace T) Replaced)
      → lifts_left (as_call Replace replaced (went_on as_it_is given room a)) ≤ 2
  replace_leads given room (GoOn run) = replace_most run.stage
  replace_leads given room (Done answer) = omega arith

  recover_leads : (given : DeadOwner) (room : Buffer 128) (a : After (recovering.Recover T (Buffer 128)) ReleaseState)
      → lifts_left (as_call Recover answers.State (went_on as_it_is given room a)) ≤ 1
  recover_leads given room (GoOn run) = omega arith
  recover_leads given room (Done answer) = omega arith

  find_leads : (given : ℕ) (room : Buffer 128) (a : After (finding.Find T (Buffer 128)) ℕ)
      → lifts_left (as_call Find answers.Number (went_on as_it_is given room a)) ≤ 0
  find_leads given room (GoOn run) = omega arith
  find_leads given room (Done number) = omega arith

  -- after a step of a look the call raises no number
  look_leads : (which : LookOf) (state : ContainerState T) (a : After (looking.Look T) Bool) → lifts_left (look_came which state a) ≤ 0
  look_leads which state (GoOn call) = omega arith
  look_leads which state (Done changed) = omega arith

  -- a look raises no number after a step, whatever state its party has
  looks_lead : (code : Coding T) (which : LookOf) (call : looking.Look T) (state : Option (ContainerState T)) (old : ℕ)
      → lifts_left (look_goes code which call state old) ≤ 0
  looks_lead code which call None old = omega arith
  looks_lead code which call (Some state) old = look_leads which (look_shows code call state old) (look_after code.size call state.seen old)

  module _ (code : Coding T) (p : ℕ) (state : Option (ContainerState T)) where
    -- What a step adds and what the call may still add after it is at most what it could add before, with the
    -- rises that the step writes.
    abbrev pub Keeps : ContainerFlight T → ℕ → Type 0
    Keeps flight old =
        container_adds flight old + lifts_left (after code state flight old) ≤ container_lifts flight + rises (effects code p state flight old)

    -- what a step of an add adds, and what is left to add, is no more than was left before, with the
    -- rises that the step writes
    add_keeps : (run : _) (stage : AddStage) (old : ℕ) → Keeps (Add (record run { call = record run.call { stage = stage } })) old
    add_keeps run (adds.Hides index count) old = omega (arith, hidden_writes T p index (old == count))
    add_keeps run (adds.AddsCount index) old = omega arith
    add_keeps run (adds.AddsChange index) old = omega arith
    add_keeps run stage old =
        let r = record run { call = record run.call { stage = stage } } in
        omega (arith, add_leads r.given r.room (add_after code.size r.call old))

    -- what a step of a replace adds, and what is left to add, is no more than was left before, with the
    -- rises that the step writes
    replace_keeps : (run : _) (stage : ReplaceStage) (old : ℕ) → Keeps (Replace (record run { call = record run.call { stage = stage } })) old
    replace_keeps run (replaces.Hides count) old = omega (arith, hidden_writes T p run.given.index (old == count))
    replace_keeps run replaces.AddsCount old = omega arith
    replace_keeps run replaces.AddsChange old = omega arith
    replace_keeps run stage old =
        let r = record run { call = record run.call { stage = stage } } in
        omega (arith, replace_leads r.given r.room (replace_after code.size r.call r.given old))

    -- what a step of a remove adds, and what is left to add, is no more than was left before, with the
    -- rises that the step writes
    remove_keeps : (run : _) (stage : RemoveStage) (old : ℕ) → Keeps (Remove (record run { call = record run.call { stage = stage } })) old
    remove_keeps run (removes.Hides count state) old = omega (arith, hidden_writes T p run.given.index (old == count))
    remove_keeps run (removes.AddsChange state) old = omega arith
    remove_keeps run stage old =
        let r = record run { call = record run.call { stage = stage } } in
        omega (arith, remove_leads T r.given r.room (remove_after r.call r.given old))

    recover_keeps : (run : _) (stage : RecoverStage) (old : ℕ) → Keeps (Recover (record run { call = record run.call { stage = stage } })) old
    recover_keeps run stage old = grind arith

    -- what a step of a call adds, and what is left to add, is no more than was left before, with the
    -- rises that the step writes
    pub keeps : (flight : ContainerFlight T) (old : ℕ) → Keeps flight old
    keeps (Add run) old = add_keeps run run.call.stage old
    keeps (Replace run) old = replace_keeps run run.call.stage old
    keeps (Remove run) old = remove_keeps run run.call.stage old
    keeps (Recover run) old = recover_keeps run run.call.stage old
    keeps (Find run) old = let leads = find_leads run.given in grind arith
    keeps (Look which call) old = omega (arith, looks_lead code which call state old)
    keeps (Count which run) old =
        omega (arith, count_leads T which run.given run.room run.call (count_after run.call.capacity run.call.count old))
    keeps (IsLocked run) old = grind arith

  -- ---- a begin

  -- a call may raise a number by at most what its begin lets it rise
  pub begins : (c p : ℕ) (start : ContainerStart T) → container_lifts (first c start) ≤ rise (Begun p (Container start))
  begins c p (starts.Replace index value owner) = replace_most _
  begins c p start = omega arith
