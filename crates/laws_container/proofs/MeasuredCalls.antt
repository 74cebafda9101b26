-- A measure of the calls of a container that do not lock: how many steps each has left at each stage, and how
-- often it may add to the steps of others. Then, which changes of a word give no call more steps.
use Rattle.std.proofs.Common.{◌≡◌, ◌≢◌, ℕ, ◌+◌, ◌-◌, ◌*◌, ◌%◌, ◌^◌, ◌<◌, ◌≤◌, ◌==◌, nat_lt, max, ⊎_elim, Bool, true, false, cond}
use Rattle.std.proofs.Common.{is_some, List, length, get_or, set, get_or-set_same, get_or-set_other, refl, sym, subst, arith}
use Rattle.std.proofs.lemmas.Bool.{cases_eq, cases_lt}
use Rattle.std.proofs.lemmas.List.{get_or_past}
use Rattle.std.proofs.lemmas.Bool.Decides.{nat_tests}
use Rattle.steps.specs.Container.Layout.{count_word, is_even}
use Rattle.steps.specs.Indices.Robust.Parts.{cell_word, one_more}
use Rattle.steps.specs.declared.container.add.AddStage.{AddStage}
use Rattle.steps.specs.declared.container.add.AddStage.TheVariants as adds
use Rattle.steps.specs.declared.container.find.FindStage.{FindStage}
use Rattle.steps.specs.declared.container.find.FindStage.TheVariants as finds
use Rattle.steps.specs.declared.container.look.LookStage.{LookStage}
use Rattle.steps.specs.declared.container.look.LookStage.TheVariants as looks
use Rattle.steps.specs.declared.container.recover.RecoverStage.{RecoverStage}
use Rattle.steps.specs.declared.container.recover.RecoverStage.TheVariants as recovers
use Rattle.steps.specs.declared.container.remove.RemoveStage.{RemoveStage}
use Rattle.steps.specs.declared.container.remove.RemoveStage.TheVariants as removes
use Rattle.steps.specs.declared.container.replace.ReplaceStage.{ReplaceStage}
use Rattle.steps.specs.declared.container.replace.ReplaceStage.TheVariants as replaces
use Rattle.steps.specs.declared.indices.enums.ReleaseMode.TheVariants.{Default}
use Rattle.steps.specs.declared.indices.robust.acquire.AcquireStage.{AcquireStage}
use Rattle.steps.specs.declared.indices.robust.acquire.AcquireStage.TheVariants as acquires
use Rattle.model.specs.declared.event.Start.{Start}
use Rattle.model.specs.declared.event.Start.TheVariants as starts
use Rattle.model.specs.declared.families.Flight.{Flight}
use Rattle.model.specs.declared.families.Flight.TheVariants as flights
use Rattle.model.specs.declared.families.Registry.{Registry}
use Rattle.model.specs.declared.families.Registry.TheVariants as registries
use Rattle.model.specs.declared.families.container.calls.ContainerFlight.{ContainerFlight}
use Rattle.model.specs.declared.families.container.calls.ContainerFlight.TheVariants as calls
use Rattle.model.specs.declared.turn.Kind.TheVariants as kinds
use Rattle.model.specs.Coding.{Coding}
use Rattle.model.specs.Families.Container.States.{state_of}
use Rattle.model.specs.LockFree.{IsDefault}
use Rattle.model.proofs.LockFree.Falls.{load_leaves, LeavesAll}
use Rattle.model.proofs.LockFree.Measure.{WordMeasure}
use Rattle.model.proofs.LockFree.Own.{Outline}
use Rattle.laws_robust.proofs.Measured.{raise_left, acquire_left, count_left, release_left, ReleaseStands}
use Rattle.lemmas.proofs.Cases.{by_bool, on_bool}

-- ---- how many steps a call takes at most before its last one, while the counter stays and no element is placed

-- the steps to copy an element again, if another element stands there than the one with number `count`
abbrev pub again : ℕ → ℕ → ℕ → ℕ
again size stands count = cond (stands == count) 0 (cond (is_even stands) 0 (size - 1 + 2))

-- a container of capacity `c` whose values have `size` words
module _ (size c : ℕ) where
  -- the steps to copy the element at `index` again, if its number is not `count` any more
  abbrev pub again_at : List ℕ → ℕ → ℕ → ℕ
  again_at words index count = cond (nat_lt index c) (again size (get_or words (count_word c index) 0) count) 0

  -- the steps of the indices behind this one, where each index takes `each`
  abbrev pub behind : ℕ → ℕ → ℕ
  behind each index = (c - (index + 1)) * each

  -- the steps left to an add, where the counter has the value `now`
  abbrev pub add_left : ℕ → AddStage → ℕ
  add_left now (adds.Acquires stage) = acquire_left c now stage + (size - 1 + 5)
  add_left now (adds.LoadsCount index) = size - 1 + 4
  add_left now (adds.Hides index count) = size - 1 + 3
  add_left now (adds.Stores index at) = size - (at + 1) + 2
  add_left now (adds.AddsCount index) = 1
  add_left now (adds.AddsChange index) = 0

  -- the steps left to a remove, where the counter has the value `now`
  abbrev pub remove_left : ℕ → RemoveStage → ℕ
  remove_left now removes.Refuses = 0
  remove_left now removes.LoadsCount = 5
  remove_left now (removes.Releases count stage) = release_left c now stage + 2
  remove_left now (removes.Hides count state) = 1
  remove_left now (removes.AddsChange state) = 0

  -- the steps left to a replace
  abbrev pub replace_left : ReplaceStage → ℕ
  replace_left replaces.Refuses = 0
  replace_left replaces.LoadsCell = size - 1 + 5
  replace_left replaces.LoadsCount = size - 1 + 4
  replace_left (replaces.Hides count) = size - 1 + 3
  replace_left (replaces.Stores at) = size - (at + 1) + 2
  replace_left replaces.AddsCount = 1
  replace_left replaces.AddsChange = 0

  -- the steps left to a find
  abbrev pub find_left : FindStage → ℕ
  find_left (finds.LoadsCell index found) = behind (size - 1 + 4) index + (size - 1 + 4)
  find_left (finds.LoadsCount index found) = behind (size - 1 + 4) index + (size - 1 + 3)
  find_left (finds.LoadsWord index found count at) = behind (size - 1 + 4) index + (size - (at + 1) + 2)
  find_left (finds.ChecksCount index found count) = behind (size - 1 + 4) index + 1
  find_left (finds.Asks index found) = behind (size - 1 + 4) index

  -- the steps left to a recovery that does not lock
  abbrev pub recover_left : List ℕ → RecoverStage → ℕ
  recover_left words recovers.LoadsCounter = behind (size - 1 + 8) 0 + (size - 1 + 10)
  recover_left words (recovers.LoadsCell index) = behind (size - 1 + 8) index + (size - 1 + 9)
  recover_left words (recovers.LoadsCount index) = behind (size - 1 + 8) index + (size - 1 + 8)
  recover_left words (recovers.LoadsWord index count at) =
      behind (size - 1 + 8) index + (size - (at + 1) + 7 + again_at words index count)
  recover_left words (recovers.ChecksCount index count) = behind (size - 1 + 8) index + (6 + again_at words index count)
  recover_left words (recovers.Asks index count) = behind (size - 1 + 8) index + 5
  recover_left words (recovers.EmptiesCell index count) = behind (size - 1 + 8) index + 5
  recover_left words (recovers.Hides index count) = behind (size - 1 + 8) index + 4
  recover_left words (recovers.Raises index raise) = behind (size - 1 + 8) index + (2 + raise_left (get_or words 0 0) raise)
  recover_left words (recovers.Locks index lock) = 0
  recover_left words recovers.LoadsCounterAgain = 1
  recover_left words (recovers.AddsChange state) = 0

  -- the steps left to a look
  abbrev pub look_left : List ℕ → LookStage → ℕ
  look_left words looks.LoadsChange = behind (size - 1 + 3) 0 + (size - 1 + 3)
  look_left words (looks.LoadsCount index) = behind (size - 1 + 3) index + (size - 1 + 2)
  look_left words (looks.LoadsWord index count at) =
      behind (size - 1 + 3) index + (size - (at + 1) + 1 + again_at words index count)
  look_left words (looks.ChecksCount index count) = behind (size - 1 + 3) index + again_at words index count

  -- the steps left to any call of the container that does not lock
  abbrev call_left : {T : Type 0} → List ℕ → ContainerFlight T → ℕ
  call_left words (calls.Add run) = add_left (get_or words 0 0) run.call.stage
  call_left words (calls.Remove run) = remove_left (get_or words 0 0) run.call.stage
  call_left words (calls.Replace run) = replace_left run.call.stage
  call_left words (calls.Find run) = find_left run.call.stage
  call_left words (calls.Recover run) = recover_left words run.call.stage
  call_left words (calls.Look which call) = look_left words call.stage
  call_left words (calls.Count which run) = count_left c (get_or words 0 0) run.call.count
  call_left words (calls.IsLocked run) = 0

-- ---- how many changes it makes at most before its last step that can add to the steps of others

-- an add raises the counter once, and places one element
abbrev pub add_pays : AddStage → ℕ
add_pays (adds.Acquires stage) = 2
add_pays (adds.AddsChange index) = 0
add_pays stage = 1

-- a remove raises the counter once
abbrev pub remove_pays : RemoveStage → ℕ
remove_pays removes.LoadsCount = 1
remove_pays (removes.Releases count stage) = 1
remove_pays stage = 0

-- a replace places one element
abbrev pub replace_pays : ReplaceStage → ℕ
replace_pays replaces.AddsChange = 0
replace_pays stage = 1

-- a recovery raises the counter at most once at the index where it is, and once at each index behind it
abbrev pub recover_pays : ℕ → RecoverStage → ℕ
recover_pays c recovers.LoadsCounter = c - 1 + 1
recover_pays c (recovers.LoadsCell index) = c - (index + 1) + 1
recover_pays c (recovers.LoadsCount index) = c - (index + 1) + 1
recover_pays c (recovers.LoadsWord index count at) = c - (index + 1) + 1
recover_pays c (recovers.ChecksCount index count) = c - (index + 1) + 1
recover_pays c (recovers.Asks index count) = c - (index + 1) + 1
recover_pays c (recovers.EmptiesCell index count) = c - (index + 1) + 1
recover_pays c (recovers.Hides index count) = c - (index + 1) + 1
recover_pays c (recovers.Raises index raise) = c - (index + 1) + 1
recover_pays c (recovers.Locks index lock) = 0
recover_pays c recovers.LoadsCounterAgain = 0
recover_pays c (recovers.AddsChange state) = 0

-- any call of the container; a find, a look and the calls on the length and the lock add to nobody's steps
abbrev call_pays : {T : Type 0} → ℕ → ContainerFlight T → ℕ
call_pays c (calls.Add run) = add_pays run.call.stage
call_pays c (calls.Remove run) = remove_pays run.call.stage
call_pays c (calls.Replace run) = replace_pays run.call.stage
call_pays c (calls.Recover run) = recover_pays c run.call.stage
call_pays c flight = 0

-- ---- where a call stands that does not lock

-- the place that an acquire has found is one of the set
abbrev pub AcquireStands : ℕ → AcquireStage → Type 0
AcquireStands c (acquires.FillsCell counter index) = index < c
AcquireStands c stage = Unit {0}

-- what the measure needs of an add: the place that it has found is one of the set, and it
-- hides under an odd number
abbrev pub AddStands : ℕ → AddStage → Type 0
AddStands c (adds.Acquires stage) = AcquireStands c stage
AddStands c (adds.Hides index count) = is_even count ≡ false
AddStands c stage = Unit {0}

-- what the measure needs of a remove: how its release stands, and that it hides under an odd number
abbrev pub RemoveStands : RemoveStage → Type 0
RemoveStands (removes.Releases count stage) = ReleaseStands stage
RemoveStands (removes.Hides count state) = is_even count ≡ false
RemoveStands stage = Unit {0}

-- what the measure needs of a replace: it hides under an odd number
abbrev pub ReplaceStands : ReplaceStage → Type 0
ReplaceStands (replaces.Hides count) = is_even count ≡ false
ReplaceStands stage = Unit {0}

-- what the measure needs of a recovery that does not lock: its index is below the capacity, and it hides
-- under an odd number
abbrev pub RecoverStands : ℕ → RecoverStage → Type 0
RecoverStands c (recovers.LoadsCell index) = index < c
RecoverStands c (recovers.LoadsCount index) = index < c
RecoverStands c (recovers.LoadsWord index count at) = index < c
RecoverStands c (recovers.ChecksCount index count) = index < c
RecoverStands c (recovers.Asks index count) = index < c
RecoverStands c (recovers.EmptiesCell index count) = index < c
RecoverStands c (recovers.Hides index count) = is_even count ≡ false
RecoverStands c (recovers.Locks index lock) = ⊥
RecoverStands c stage = Unit {0}

-- what the measure needs of a look: its index is below the capacity
abbrev pub LookStands : ℕ → LookStage → Type 0
LookStands c looks.LoadsChange = Unit {0}
LookStands c (looks.LoadsCount index) = index < c
LookStands c (looks.LoadsWord index count at) = index < c
LookStands c (looks.ChecksCount index count) = index < c

-- what the measure needs of any call of the container that does not lock: the capacity,
-- the mode, and its stage
abbrev pub CallStands : {T : Type 0} → ℕ → ContainerFlight T → Type 0
CallStands c (calls.Add run) = (run.call.capacity ≡ c) × AddStands c run.call.stage
CallStands c (calls.Remove run) =
    (run.call.capacity ≡ c) × (run.given.mode ≡ Default) × (run.given.index ≤ c) × RemoveStands run.call.stage
CallStands c (calls.Replace run) = (run.call.capacity ≡ c) × ReplaceStands run.call.stage
CallStands c (calls.Find run) = run.call.capacity ≡ c
CallStands c (calls.Recover run) = (run.call.capacity ≡ c) × (run.given.mode ≡ Default) × RecoverStands c run.call.stage
CallStands c (calls.Look which call) = (call.capacity ≡ c) × LookStands c call.stage
CallStands c (calls.Count which run) = run.call.capacity ≡ c
CallStands c (calls.IsLocked run) = Unit {0}

module _ {T : Type 0} where
  -- the steps left to a call; calls of other families have none
  abbrev pub left : ℕ → ℕ → List ℕ → Flight T → ℕ
  left size c words (flights.Container flight) = call_left size c words flight
  left size c words flight = 0

  -- how often a call may add to the steps of others; calls of other families never do
  abbrev pub pays : ℕ → Flight T → ℕ
  pays c (flights.Container flight) = call_pays c flight
  pays c flight = 0

  -- the measure, with its bounds when a call begins
  abbrev pub measure : ℕ → ℕ → WordMeasure T
  measure size c = record { left = left size c; pays = pays c; alone = c * (size + 7) + max 2 size; changes = max 2 c }

  -- the begin and the call are of a container, and `Stands` holds of the call
  abbrev pub AreOfContainer : (ContainerFlight T → Type 0) → Start T → Flight T → Type 0
  AreOfContainer Stands (starts.Container start) (flights.Container flight) = Stands flight
  AreOfContainer Stands start flight = ⊥

  -- the call is one of the container, at a stage where the measure needs it
  abbrev pub At : Coding T → ℕ → Start T → Flight T → Type 0
  At code c start flight = AreOfContainer (CallStands c) start flight

  -- the registry is a container's
  abbrev pub Kept : Registry T → Type 0
  Kept (registries.Container dead states) = Unit {0}
  Kept kept = ⊥

  -- the party of a look has a state
  abbrev pub Known : ℕ → Registry T → Flight T → Type 0
  Known p (registries.Container dead states) (flights.Container (calls.Look which call)) =
      is_some (state_of p states) ≡ true
  Known p kept flight = Unit {0}

  -- the calls that do not lock, with this measure, in the form that the frame of lock-freedom asks
  abbrev pub outline : Outline T
  outline =
      record {
        kind = kinds.Container;
        Such = IsDefault;
        Kept = Kept;
        At = At;
        Known = Known;
        measure = λ code c. measure code.size c;
      }

-- ---- what costs nobody a step

-- words `new` with the counter of `old`, in which no copy takes more steps to be made again
module _ (size c : ℕ) (old new : List ℕ) (same : get_or new 0 0 ≡ get_or old 0 0)
    (fewer : (index count : ℕ) → again_at size c new index count ≤ again_at size c old index count) where
  -- a recovery has no more steps left in the new words
  recover_fewer : (stage : RecoverStage) → recover_left size c new stage ≤ recover_left size c old stage
  recover_fewer (recovers.LoadsWord index count at) = let here = fewer index count in omega arith
  recover_fewer (recovers.ChecksCount index count) = let here = fewer index count in omega arith
  recover_fewer (recovers.Raises index raise) = rw same (omega arith)
  recover_fewer stage = omega arith

  -- a look has no more steps left in the new words
  look_fewer : (stage : LookStage) → look_left size c new stage ≤ look_left size c old stage
  look_fewer looks.LoadsChange = omega arith
  look_fewer (looks.LoadsCount index) = omega arith
  look_fewer (looks.LoadsWord index count at) = let here = fewer index count in omega arith
  look_fewer (looks.ChecksCount index count) = let here = fewer index count in omega arith

  -- words with the same counter, in which no copy takes more steps to be made again, leave no call more steps
  leaves : {T : Type 0} → LeavesAll (measure {T = T} size c) old new
  leaves (flights.Container (calls.Add run)) = rw same (omega arith)
  leaves (flights.Container (calls.Remove run)) = rw same (omega arith)
  leaves (flights.Container (calls.Recover run)) = recover_fewer run.call.stage
  leaves (flights.Container (calls.Look which call)) = look_fewer call.stage
  leaves (flights.Container (calls.Count which run)) = rw same (omega arith)
  leaves flight = omega arith

-- the number behind an odd one is even
next_even : (count : ℕ) → is_even count ≡ false → is_even (one_more count) ≡ true
next_even count odd =
    let one : count % 2 ≡ 1 = grind (arith, nat_tests) in
    let none : ((count + 1) % 2 ^ 64) % 2 ≡ 0 = omega arith in
    rw none refl

-- where nothing stands, nothing is copied again
again_none : (size stands n : ℕ) → is_even stands ≡ true → again size stands n ≡ 0
again_none size stands n even = go (stands == n)
  where
    -- the cases are whether the number that stands is the one of the copy
    go : (t : Bool) → cond t 0 (cond (is_even stands) 0 (size - 1 + 2)) ≡ 0
    go true = refl
    go false = rw even refl

none_at : (t : Bool) → {n : ℕ} → cond t 0 0 ≤ n
none_at true = omega arith
none_at false = omega arith

module _ (size c : ℕ) (words : List ℕ) where
  -- a store to a word that is neither the counter nor the number of an element gives no call more steps
  pub apart_leaves : {T : Type 0} → (word new : ℕ) → 1 ≤ word → ((index : ℕ) → index < c → word ≢ count_word c index)
      → LeavesAll (measure {T = T} size c) words (set words word new)
  apart_leaves word new some apart =
      leaves size c words (set words word new) (get_or-set_other words word 0 new 0 (λ e. absurd (omega arith))) fewer
    where
      -- after a store to a word that is no number of an element no copy takes more steps to be made again
      fewer : (index count : ℕ) → again_at size c (set words word new) index count ≤ again_at size c words index count
      fewer index count =
          by_bool (nat_lt index c)
          (λ t.
          let less : index < c = grind (arith, nat_tests) in
          let stays = get_or-set_other words word (count_word c index) new 0 (λ e. apart index less (sym e)) in
          rw (t, stays) (omega arith))
          (λ t. rw t (omega arith))

  -- a store to a cell gives no call more steps
  pub cell_leaves : {T : Type 0} → (index new : ℕ) → index ≤ c → LeavesAll (measure {T = T} size c) words (set words (cell_word index) new)
  cell_leaves index new within = apart_leaves (cell_word index) new (omega arith) (λ other less e. absurd (omega arith))

  -- the element at `index`, with the odd number `count`, is hidden if its number is still that one
  module _ (index count : ℕ) (odd : is_even count ≡ false) where
    abbrev stood : ℕ
    stood = get_or words (count_word c index) 0

    abbrev hidden : List ℕ
    hidden = set words (count_word c index) (one_more count)

    -- the number of the element lies within the words, since it is odd
    inside : (stood == count) ≡ true → count_word c index < length words
    inside found = ⊎_elim (λ less. less) past (cases_lt (count_word c index) (length words))
      where
        -- a word that is not there reads as an even number, so an odd one is there
        past : length words ≤ count_word c index → count_word c index < length words
        past far =
            let none : get_or words (count_word c index) 0 ≡ 0 = get_or_past words (count_word c index) 0 far in
            let zero : count ≡ 0 = grind (arith, nat_tests) in
            let even : is_even count ≡ true = rw zero refl in
            absurd (cc)

    -- where the element at `index` is hidden, no copy takes more steps to be made again
    hidden_fewer : (stood == count) ≡ true → (i n : ℕ) → again_at size c hidden i n ≤ again_at size c words i n
    hidden_fewer found i n = ⊎_elim here there (cases_eq i index)
      where
        -- at the index itself nothing is copied again
        here : i ≡ index → again_at size c hidden i n ≤ again_at size c words i n
        here same_index =
            let stands : get_or hidden (count_word c index) 0 ≡ one_more count =
            get_or-set_same words (count_word c index) (one_more count) 0 (inside found) in
            let none = again_none size (one_more count) n (next_even count odd) in
            rw (same_index, stands, none) (none_at (nat_lt index c))

        -- at another index the number stays
        there : i ≢ index → again_at size c hidden i n ≤ again_at size c words i n
        there ne =
            let stays = get_or-set_other words (count_word c index) (count_word c i) (one_more count) 0 (λ e. ne (omega arith)) in
            rw stays (omega arith)

    -- the exchange that hides an element gives no call more steps, whether it finds the
    -- loaded number or another
    pub hide_leaves : {T : Type 0} → LeavesAll (measure {T = T} size c) words (set words (count_word c index) (cond (stood == count) (one_more count) stood))
    hide_leaves {T} =
        on_bool (λ t. LeavesAll (measure {T = T} size c) words (set words (count_word c index) (cond t (one_more count) stood))) (stood == count)
        (λ t.
        leaves size c words hidden
        (get_or-set_other words (count_word c index) 0 (one_more count) 0 (λ e. absurd (omega arith))) (hidden_fewer t))
        (λ t. λ other. subst (λ ws. left size c ws other ≤ left size c words other) (sym (load_leaves words (count_word c index))) (omega arith))
