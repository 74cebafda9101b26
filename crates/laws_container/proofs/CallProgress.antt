-- Where a call of the container stands at each stage: how many steps it has taken at most, and what it has
-- done to the set and to elements. `Invariant` keeps this of each call under way.
use Rattle.laws_container.proofs.Names.{◌≡◌, ◌⊎◌, ℕ, ◌+◌, ◌*◌, ◌%◌, ◌<◌, ◌≤◌, List, [], ◌∷◌, arith, AllByRecursion}
use Rattle.laws_container.proofs.Names.{AddStage, FindStage, LookStage, RecoverStage, RemoveStage, ReplaceStage}
use Rattle.laws_container.proofs.Names.{ReleaseMode, LockIfLastIndex, Default, Counting, empty, State, ContainerStart}
use Rattle.laws_container.proofs.Names.{ContainerFlight, Count, IsLocked, CountOf, LookOf, place_of, Act, Hides, Sees}
use Rattle.laws_container.proofs.Names.{seen_in, HasDone, SetAct, Fills, Grants, Frees, Asks, Yes, IsOneOf, IsLatest}
use Rattle.laws_container.proofs.Names.{asked_in, HasJustFreed, raise_number, count_number, lock_number}
use Rattle.laws_container.proofs.Names.{acquire_number, release_number, AcquireAt, CountAt, LockAt, ReleaseAt}
use Rattle.steps.specs.declared.container.add.AddStage.TheVariants as adds
use Rattle.steps.specs.declared.container.find.FindStage.TheVariants as finds
use Rattle.steps.specs.declared.container.look.LookStage.TheVariants as looks
use Rattle.steps.specs.declared.container.recover.RecoverStage.TheVariants as recovers
use Rattle.steps.specs.declared.container.remove.RemoveStage.TheVariants as removes
use Rattle.steps.specs.declared.container.replace.ReplaceStage.TheVariants as replaces
use Rattle.steps.specs.declared.copied.Buffer as buffers
use Rattle.model.specs.declared.families.container.ContainerStart.TheVariants as starts
use Rattle.model.specs.declared.families.container.calls.ContainerFlight.TheVariants.{Add, Remove, Replace, Find}
use Rattle.model.specs.declared.families.container.calls.ContainerFlight.TheVariants.{Recover, Look}
use Rattle.model.specs.declared.families.container.calls.CountOf.TheVariants as counts
use Rattle.model.specs.declared.families.container.calls.LookOf.TheVariants as kinds
use Rattle.model.specs.declared.families.indices.robust.RobustStart.TheVariants as set_starts
use Rattle.model.specs.Families.Indices.Robust.Bounds as set_bounds

-- ---- the calls at their stages, as calls of the container

module _ {T : Type 0} where
  -- an add at a stage
  abbrev pub add_at : ℕ → T → ℕ → AddStage → ContainerFlight T
  add_at c value owner stage =
      Add
      (record {
        call = record { capacity = c; stage = stage; of = record {} };
        given = record { value = value; owner = owner };
        room = tt;
      })

  -- a remove at a stage
  abbrev pub remove_at : ℕ → ℕ → ℕ → ReleaseMode → RemoveStage → ContainerFlight T
  remove_at c index owner mode stage =
      Remove
      (record {
        call = record { capacity = c; stage = stage };
        given = record { index = index; owner = owner; mode = mode };
        room = tt;
      })

  -- a replace at a stage
  abbrev pub replace_at : ℕ → ℕ → T → ℕ → ReplaceStage → ContainerFlight T
  replace_at c index value owner stage =
      Replace
      (record {
        call = record { capacity = c; stage = stage; of = record {} };
        given = record { index = index; owner = owner; value = value };
        room = tt;
      })

  -- a find at a stage
  abbrev pub find_at : ℕ → ℕ → buffers.Buffer 128 → FindStage → ContainerFlight T
  find_at c owner room stage =
      Find
      (record {
        call = record { capacity = c; stage = stage; of = record {} };
        given = owner;
        room = room;
      })

  -- a recovery at a stage
  abbrev pub recover_at : ℕ → ℕ → ReleaseMode → buffers.Buffer 128 → RecoverStage → ContainerFlight T
  recover_at c owner mode room stage =
      Recover
      (record {
        call = record { capacity = c; stage = stage; of = record {} };
        given = record { owner = owner; mode = mode };
        room = room;
      })

  -- a look at a stage
  abbrev pub look_at : LookOf → ℕ → LookStage → ContainerFlight T
  look_at which c stage = Look which (record { capacity = c; stage = stage; of = record {} })

  -- a call on the length at a stage
  abbrev pub count_at : CountOf → ℕ → Counting → ContainerFlight T
  count_at which c count =
      Count which
      (record { call = record { capacity = c; count = count }; given = tt; room = tt })

  -- a call that asks whether the container is locked
  abbrev pub lock_at : ContainerFlight T
  lock_at = IsLocked (record { call = record {}; given = tt; room = tt })

-- ---- how many steps they have taken at most, where a value has z words

-- how many steps an add has taken at most at its stage, where it has turned back `backs` times; here as below
-- `c` is the capacity and `z` the words of a value
abbrev pub add_number : ℕ → ℕ → AddStage → ℕ → ℕ
add_number c z (adds.Acquires stage) backs = acquire_number c stage backs
add_number c z (adds.LoadsCount index) backs = c + 3 + backs * (c + 1)
add_number c z (adds.Hides index count) backs = c + 4 + backs * (c + 1)
add_number c z (adds.Stores index at) backs = c + 5 + at + backs * (c + 1)
add_number c z (adds.AddsCount index) backs = c + 5 + z + backs * (c + 1)
add_number c z (adds.AddsChange index) backs = c + 6 + z + backs * (c + 1)

-- how many steps a whole release takes at most, where it has turned back `backs` times
abbrev pub release_total : ℕ → ℕ → ℕ → ReleaseMode → ℕ → ℕ
release_total c index owner mode backs =
    set_bounds.most_steps c (set_starts.Release index owner mode) backs

-- how many steps a remove has taken at most at its stage, where its release has turned back `backs` times
abbrev pub remove_number : ℕ → ℕ → ℕ → ReleaseMode → RemoveStage → ℕ → ℕ
remove_number c index owner mode removes.Refuses backs = 0
remove_number c index owner mode removes.LoadsCount backs = 0
remove_number c index owner mode (removes.Releases count stage) backs =
    1 + release_number c mode stage backs
remove_number c index owner mode (removes.Hides count state) backs =
    1 + release_total c index owner mode backs
remove_number c index owner mode (removes.AddsChange state) backs =
    2 + release_total c index owner mode backs

-- how many steps a replace has taken at most at its stage; it never turns back
abbrev pub replace_number : ℕ → ReplaceStage → ℕ
replace_number z replaces.Refuses = 0
replace_number z replaces.LoadsCell = 0
replace_number z replaces.LoadsCount = 1
replace_number z (replaces.Hides count) = 2
replace_number z (replaces.Stores at) = 3 + at
replace_number z replaces.AddsCount = 3 + z
replace_number z replaces.AddsChange = 4 + z

-- how many steps a find has taken at most at its stage; it never turns back
abbrev pub find_number : ℕ → FindStage → ℕ
find_number z (finds.LoadsCell index found) = index * (z + 3)
find_number z (finds.LoadsCount index found) = 1 + index * (z + 3)
find_number z (finds.LoadsWord index found count at) = 2 + at + index * (z + 3)
find_number z (finds.ChecksCount index found count) = 2 + z + index * (z + 3)
find_number z (finds.Asks index found) = 3 + z + index * (z + 3)

-- how many steps a turn back costs a recovery at most
abbrev pub for_back : ℕ → ℕ → ReleaseMode → ℕ
for_back c z Default = z + 1
for_back c z LockIfLastIndex = z + c + 4

-- how many steps an index costs a recovery at most
abbrev pub for_index : ℕ → ℕ → ReleaseMode → ℕ
for_index c z Default = z + 7
for_index c z LockIfLastIndex = z + c + 10

-- how many steps a recovery has taken at most at its stage, where it has turned back `backs` times
abbrev pub recover_number : ℕ → ℕ → ReleaseMode → RecoverStage → ℕ → ℕ
recover_number c z mode recovers.LoadsCounter backs = 0
recover_number c z mode (recovers.LoadsCell index) backs =
    1 + index * for_index c z mode + backs * for_back c z mode
recover_number c z mode (recovers.LoadsCount index) backs =
    2 + index * for_index c z mode + backs * for_back c z mode
recover_number c z mode (recovers.LoadsWord index count at) backs =
    3 + at + index * for_index c z mode + backs * for_back c z mode
recover_number c z mode (recovers.ChecksCount index count) backs =
    3 + z + index * for_index c z mode + backs * for_back c z mode
recover_number c z mode (recovers.Asks index count) backs =
    4 + z + index * for_index c z mode + backs * for_back c z mode
recover_number c z mode (recovers.EmptiesCell index count) backs =
    4 + z + index * for_index c z mode + backs * for_back c z mode
recover_number c z mode (recovers.Hides index count) backs =
    5 + z + index * for_index c z mode + backs * for_back c z mode
recover_number c z mode (recovers.Raises index raise) backs =
    6 + z + raise_number raise + index * for_index c z mode + backs * for_back c z mode
recover_number c z mode (recovers.Locks index lock) backs =
    8 + z + lock_number c lock + index * for_index c z mode + backs * for_back c z mode
recover_number c z mode recovers.LoadsCounterAgain backs =
    1 + c * for_index c z mode + backs * for_back c z mode
recover_number c z mode (recovers.AddsChange state) backs =
    2 + c * for_index c z mode + backs * for_back c z mode

-- how many steps a look has taken at most at its stage, where it has turned back `backs` times
abbrev pub look_number : ℕ → LookStage → ℕ → ℕ
look_number z looks.LoadsChange backs = 0
look_number z (looks.LoadsCount index) backs = 1 + index * (z + 2) + backs * (z + 1)
look_number z (looks.LoadsWord index count at) backs =
    2 + at + index * (z + 2) + backs * (z + 1)
look_number z (looks.ChecksCount index count) backs =
    2 + z + index * (z + 2) + backs * (z + 1)

-- how many steps a call has taken at most at its stage, where it has turned back `backs` times
abbrev pub number_of : {T : Type 0} → ℕ → ℕ → ContainerFlight T → ℕ → ℕ
number_of c z (Add run) backs = add_number c z run.call.stage backs
number_of c z (Remove run) backs =
    remove_number c run.given.index run.given.owner run.given.mode run.call.stage backs
number_of c z (Replace run) backs = replace_number z run.call.stage
number_of c z (Find run) backs = find_number z run.call.stage
number_of c z (Recover run) backs = recover_number c z run.given.mode run.call.stage backs
number_of c z (Look which call) backs = look_number z call.stage backs
number_of c z (Count which run) backs = count_number c run.call.count + backs * (c + 2)
number_of c z (IsLocked run) backs = 0

-- ---- where they stand, and what they have done to the set and to elements

-- each of these indices is below the bound
abbrev pub AreBelow : ℕ → List ℕ → Type 0
AreBelow bound indices = AllByRecursion (λ i. i < bound) indices

-- `c` is the capacity, `z` the words of a value; the call has done `all` to the set, and `done` to elements
module _ {T : Type 0} (c z : ℕ) (all : List SetAct) (done : List (Act T)) where
  -- the call has done nothing to elements but perhaps to hide what an earlier owner left at the index
  abbrev pub MayHaveHidden : ℕ → Type 0
  MayHaveHidden index = (done ≡ []) ⊎ (done ≡ Hides index ∷ [])

  -- the call was granted the index for the owner, and has done nothing else to the set
  abbrev pub IsGranted : ℕ → ℕ → Type 0
  IsGranted owner index = (index < c) × (all ≡ Fills index owner ∷ Grants index owner ∷ [])

  -- an add at its stage: which index it was granted, and whether it may have hidden something
  abbrev pub AddAt : ℕ → AddStage → Type 0
  AddAt owner (adds.Acquires stage) = AcquireAt c owner all stage × (done ≡ [])
  AddAt owner (adds.LoadsCount index) = IsGranted owner index × (done ≡ [])
  AddAt owner (adds.Hides index count) =
      IsGranted owner index × (done ≡ []) × (count % 2 ≡ 1)
  AddAt owner (adds.Stores index at) =
      IsGranted owner index × MayHaveHidden index × (at < z)
  AddAt owner (adds.AddsCount index) = IsGranted owner index × MayHaveHidden index
  AddAt owner (adds.AddsChange index) = IsGranted owner index

  -- a remove at its stage: whether the index is one of the container, and how far its release is
  abbrev pub RemoveAt : ℕ → ℕ → ReleaseMode → RemoveStage → Type 0
  RemoveAt index owner mode removes.Refuses = (c ≤ index) × (all ≡ [])
  RemoveAt index owner mode removes.LoadsCount =
      (index < c) × (all ≡ []) × (done ≡ [])
  RemoveAt index owner mode (removes.Releases count stage) =
      (index < c) × ReleaseAt c index owner mode all stage × (done ≡ [])
  RemoveAt index owner mode (removes.Hides count state) =
      (index < c) × HasDone {T = T} (starts.Remove index owner mode) (State state) all []
      × IsOneOf (Frees index owner) all × (done ≡ []) × (count % 2 ≡ 1)
  RemoveAt index owner mode (removes.AddsChange state) =
      (index < c) × HasDone {T = T} (starts.Remove index owner mode) (State state) all []

  -- a replace at its stage: whether the index is one of the container, and whether it may have hidden something
  abbrev pub ReplaceAt : ℕ → ReplaceStage → Type 0
  ReplaceAt index replaces.Refuses = (c ≤ index) × (all ≡ []) × (done ≡ [])
  ReplaceAt index replaces.LoadsCell = (index < c) × (all ≡ []) × (done ≡ [])
  ReplaceAt index replaces.LoadsCount = (index < c) × (all ≡ []) × (done ≡ [])
  ReplaceAt index (replaces.Hides count) =
      (index < c) × (all ≡ []) × (done ≡ []) × (count % 2 ≡ 1)
  ReplaceAt index (replaces.Stores at) =
      (index < c) × (all ≡ []) × MayHaveHidden index × (at < z)
  ReplaceAt index replaces.AddsCount = (index < c) × (all ≡ []) × MayHaveHidden index
  ReplaceAt index replaces.AddsChange = (index < c) × (all ≡ [])

  -- the call copies the element at `index`, of which `at` words are read under the odd number `count`
  abbrev pub CopiesAt : ℕ → ℕ → ℕ → Type 0
  CopiesAt index count at = (index < c) × AreBelow index (seen_in done) × (count % 2 ≡ 1)

  -- a find at its stage: it has come to indices below the one where it is, and has done nothing to the set
  abbrev pub FindAt : FindStage → Type 0
  FindAt (finds.LoadsCell index found) =
      (all ≡ []) × (index < c) × AreBelow index (seen_in done)
  FindAt (finds.LoadsCount index found) =
      (all ≡ []) × (index < c) × AreBelow index (seen_in done)
  FindAt (finds.LoadsWord index found count at) =
      (all ≡ []) × CopiesAt index count at × (at < z)
  FindAt (finds.ChecksCount index found count) = (all ≡ []) × CopiesAt index count z
  FindAt (finds.Asks index found) =
      (all ≡ []) × (index < c) × AreBelow (index + 1) (seen_in done)

  -- the call has asked about the index, or was shown that nothing stood there
  abbrev pub AskedOrShown : ℕ → ℕ → Type 0
  AskedOrShown owner index = IsOneOf (Asks index owner) all ⊎ IsOneOf (Sees index) done

  -- a recovery is at `index`, has seen and asked about indices below `bound`, and has asked about each that
  -- it has freed, or was shown it
  pub record IsInCourse (owner index bound : ℕ) : Type 0 where
    -- the index is below the capacity, and those seen and asked about are below `bound`
    pub within : index < c
    pub seen : AreBelow bound (seen_in done)
    pub asked : AreBelow bound (asked_in all)
    -- each index that the recovery has freed it has asked about, or was shown
    pub freed : (i : ℕ) → IsOneOf (Frees i owner) all → AskedOrShown owner i

  -- a recovery at its stage: how far it has come, and what it has asked, freed or hidden last
  abbrev pub RecoverAt : ℕ → ReleaseMode → RecoverStage → Type 0
  RecoverAt owner mode recovers.LoadsCounter = (all ≡ []) × (done ≡ [])
  RecoverAt owner mode (recovers.LoadsCell index) = IsInCourse owner index index
  RecoverAt owner mode (recovers.LoadsCount index) = IsInCourse owner index index
  RecoverAt owner mode (recovers.LoadsWord index count at) =
      IsInCourse owner index index × (count % 2 ≡ 1) × (at < z)
  RecoverAt owner mode (recovers.ChecksCount index count) =
      IsInCourse owner index index × (count % 2 ≡ 1)
  RecoverAt owner mode (recovers.Asks index count) =
      IsInCourse owner index (index + 1) × (count % 2 ≡ 1) × IsLatest (Asks index owner) all
  RecoverAt owner mode (recovers.EmptiesCell index count) =
      IsInCourse owner index (index + 1)
      × ((IsLatest (Yes index owner) all × IsOneOf (Asks index owner) all)
      ⊎ IsLatest (Sees index) done)
  RecoverAt owner mode (recovers.Hides index count) =
      IsInCourse owner index (index + 1) × (count % 2 ≡ 1) × IsLatest (Frees index owner) all
  RecoverAt owner mode (recovers.Raises index raise) =
      IsInCourse owner index (index + 1) × HasJustFreed all
  RecoverAt owner mode (recovers.Locks index lock) =
      IsInCourse owner index (index + 1) × HasJustFreed all × (mode ≡ LockIfLastIndex) × LockAt c lock
  RecoverAt owner mode recovers.LoadsCounterAgain =
      (i : ℕ) → IsOneOf (Frees i owner) all → AskedOrShown owner i
  RecoverAt owner mode (recovers.AddsChange state) = Unit {0}

  -- a look at its stage: it has come to indices below the one where it is, and has done nothing to the set
  abbrev pub LookAt : LookStage → Type 0
  LookAt looks.LoadsChange = (all ≡ []) × (done ≡ [])
  LookAt (looks.LoadsCount index) =
      (all ≡ []) × (index < c) × AreBelow index (seen_in done)
  LookAt (looks.LoadsWord index count at) =
      (all ≡ []) × CopiesAt index count at × (at < z)
  LookAt (looks.ChecksCount index count) = (all ≡ []) × CopiesAt index count z

  -- where a call of each name stands: it is that call, of the right arguments, and at its stage it has done
  -- what the stage says
  abbrev pub At : ContainerStart T → ContainerFlight T → Type 0
  At (starts.Add value owner) (Add run) =
      (run.call.capacity ≡ c) × (run.given ≡ record { value = value; owner = owner })
      × (owner < empty) × AddAt owner run.call.stage
  At (starts.Remove index owner mode) (Remove run) =
      (run.call.capacity ≡ c)
      × (run.given ≡ record { index = place_of c index; owner = owner; mode = mode })
      × (owner < empty) × RemoveAt index owner mode run.call.stage
  At (starts.Replace index value owner) (Replace run) =
      (run.call.capacity ≡ c)
      × (run.given ≡ record { index = place_of c index; owner = owner; value = value })
      × (owner < empty) × ReplaceAt index run.call.stage
  At (starts.Find owner) (Find run) =
      (run.call.capacity ≡ c) × (run.given ≡ owner) × (owner < empty) × FindAt run.call.stage
  At (starts.Recover owner mode) (Recover run) =
      (run.call.capacity ≡ c) × (run.given ≡ record { owner = owner; mode = mode })
      × (owner < empty) × RecoverAt owner mode run.call.stage
  At starts.GetState (Look which call) =
      (call.capacity ≡ c) × (which ≡ kinds.GetState) × LookAt call.stage
  At starts.UpdateState (Look which call) =
      (call.capacity ≡ c) × (which ≡ kinds.UpdateState) × LookAt call.stage
  At starts.Len (Count which run) =
      (run.call.capacity ≡ c) × (which ≡ counts.Len) × CountAt c run.call.count
      × (all ≡ [])
  At starts.IsEmpty (Count which run) =
      (run.call.capacity ≡ c) × (which ≡ counts.IsEmpty) × CountAt c run.call.count
      × (all ≡ [])
  At starts.IsLocked (IsLocked run) = all ≡ []
  At start flight = ⊥

-- the place of an index below the capacity is the index itself
pub place_is : (c index : ℕ) → index < c → place_of c index ≡ index
place_is c index below = grind arith
