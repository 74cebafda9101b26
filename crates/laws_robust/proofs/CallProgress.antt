-- Where a call of the robust index set stands: its stages, how many steps it has taken at most, and what it has done.
use Rattle.laws_robust.proofs.Names.{◌≡◌, ℕ, ◌+◌, ◌*◌, ◌<◌, ◌≤◌, List, [], ◌∷◌, arith, AllByRecursion, ReleaseMode}
use Rattle.laws_robust.proofs.Names.{LockIfLastIndex, Default, AcquireStage, FindStage, Count, Lock, Raise}
use Rattle.laws_robust.proofs.Names.{RecoverStage, ReleaseStage, empty, RobustStart, RobustFlight, SetAct, Fills}
use Rattle.laws_robust.proofs.Names.{Frees, Asks, Yes, IsOneOf, IsLatest, asked_in, HasJustFreed}
use Rattle.steps.specs.declared.indices.robust.acquire.AcquireStage.TheVariants as acquires
use Rattle.steps.specs.declared.indices.robust.find.FindStage.TheVariants as finds
use Rattle.steps.specs.declared.indices.robust.parts.Count.TheVariants as counts
use Rattle.steps.specs.declared.indices.robust.parts.Lock.TheVariants as locks
use Rattle.steps.specs.declared.indices.robust.parts.Raise.TheVariants as raises
use Rattle.steps.specs.declared.indices.robust.recover.RecoverStage.TheVariants as recovers
use Rattle.steps.specs.declared.indices.robust.release.ReleaseStage.TheVariants as releases
use Rattle.model.specs.declared.families.indices.robust.RobustStart.TheVariants as starts
use Rattle.model.specs.declared.families.indices.robust.calls.RobustFlight.TheVariants.{Acquire, Release, Find}
use Rattle.model.specs.declared.families.indices.robust.calls.RobustFlight.TheVariants.{Recover, BorrowedIndices}
use Rattle.model.specs.declared.families.indices.robust.calls.RobustFlight.TheVariants.{IsLocked}

-- ---- the calls by their stages

-- an acquire at a stage
abbrev pub acquire_at : ℕ → ℕ → AcquireStage → RobustFlight
acquire_at c owner stage =
    Acquire (record { call = record { capacity = c; stage = stage }; given = owner; room = tt })

-- a release at a stage
abbrev pub release_at : ℕ → ℕ → ℕ → ReleaseMode → ReleaseStage → RobustFlight
release_at c index owner mode stage =
    Release
    (record {
      call = record { capacity = c; stage = stage };
      given = record { index = index; owner = owner; mode = mode };
      room = tt;
    })

-- a find at a stage
abbrev pub find_at : ℕ → ℕ → FindStage → RobustFlight
find_at c owner stage =
    Find (record { call = record { capacity = c; stage = stage }; given = owner; room = tt })

-- a recovery at a stage
abbrev pub recover_at : ℕ → ReleaseMode → RecoverStage → RobustFlight
recover_at c mode stage =
    Recover (record { call = record { capacity = c; stage = stage }; given = mode; room = tt })

-- a count of borrowed indices at a stage
abbrev pub borrowed_at : ℕ → Count → RobustFlight
borrowed_at c count =
    BorrowedIndices (record { call = record { capacity = c; count = count }; given = tt; room = tt })

abbrev pub looking : RobustFlight
looking = IsLocked (record { call = record {}; given = tt; room = tt })

-- ---- how many steps they have taken at most

-- how many steps a raise of the counter has taken at most
abbrev pub raise_number : Raise → ℕ
raise_number raises.LoadsCounter = 0
raise_number (raises.ExchangesCounter counter) = 1

-- how many steps a count of filled cells has taken at most
abbrev pub count_number : ℕ → Count → ℕ
count_number c counts.LoadsCounter = 0
count_number c (counts.LoadsCell counter index filled) = 1 + index
count_number c (counts.ExchangesCounter counter filled) = 1 + c

-- how many steps a lock has taken at most
abbrev pub lock_number : ℕ → Lock → ℕ
lock_number c (locks.Counts count) = count_number c count
lock_number c (locks.ExchangesCounter counter) = 2 + c

-- how many steps an acquire has taken at most at its stage, where it has turned back `backs` times
abbrev pub acquire_number : ℕ → AcquireStage → ℕ → ℕ
acquire_number c acquires.LoadsCounter backs = 0
acquire_number c (acquires.FillsCell counter index) backs =
    1 + index + backs * (c + 1)
acquire_number c (acquires.ChecksCounter counter) backs = 1 + c + backs * (c + 1)
acquire_number c (acquires.Raises index raise) backs =
    1 + c + raise_number raise + backs * (c + 1)

-- how many steps a turn back costs, and how many an index of a recovery
abbrev pub for_back : ℕ → ReleaseMode → ℕ
for_back c Default = 1
for_back c LockIfLastIndex = c + 3

-- how many steps a recovery takes at most for each index
abbrev pub for_index : ℕ → ReleaseMode → ℕ
for_index c Default = 4
for_index c LockIfLastIndex = c + 7

-- in either mode a recovery takes at least one step for each turn back
pub at_least_one : (c : ℕ) (mode : ReleaseMode) → 1 ≤ for_back c mode
at_least_one c Default = omega arith
at_least_one c LockIfLastIndex = omega arith

-- in either mode a recovery takes at least four steps for each index
pub at_least_four : (c : ℕ) (mode : ReleaseMode) → 4 ≤ for_index c mode
at_least_four c Default = omega arith
at_least_four c LockIfLastIndex = omega arith

-- how many steps a release has taken at most at its stage, where it has turned back `backs` times
abbrev pub release_number : ℕ → ReleaseMode → ReleaseStage → ℕ → ℕ
release_number c mode releases.EmptiesCell backs = 0
release_number c mode (releases.Raises raise) backs =
    1 + raise_number raise + backs * for_back c mode
release_number c mode (releases.Locks lock) backs =
    3 + lock_number c lock + backs * for_back c mode

-- how many steps a recovery has taken at most at its stage, where it has turned back `backs` times
abbrev pub recover_number : ℕ → ReleaseMode → RecoverStage → ℕ → ℕ
recover_number c mode recovers.LoadsCounter backs = 0
recover_number c mode (recovers.LoadsCell index) backs =
    1 + index * for_index c mode + backs * for_back c mode
recover_number c mode (recovers.Asks index owner) backs =
    2 + index * for_index c mode + backs * for_back c mode
recover_number c mode (recovers.EmptiesCell index owner) backs =
    2 + index * for_index c mode + backs * for_back c mode
recover_number c mode (recovers.Raises index raise) backs =
    3 + raise_number raise + index * for_index c mode + backs * for_back c mode
recover_number c mode (recovers.Locks index lock) backs =
    5 + lock_number c lock + index * for_index c mode + backs * for_back c mode
recover_number c mode recovers.LoadsCounterAgain backs =
    1 + c * for_index c mode + backs * for_back c mode

-- how many steps a find has taken at most at its stage
abbrev pub find_number : FindStage → ℕ
find_number (finds.LoadsCell index found) = index
find_number (finds.Asks index found) = index + 1

-- how many steps a call has taken at most at its stage, where it has turned back `backs` times
abbrev pub number_of : ℕ → RobustFlight → ℕ → ℕ
number_of c (Acquire run) backs = acquire_number c run.call.stage backs
number_of c (Release run) backs = release_number c run.given.mode run.call.stage backs
number_of c (Find run) backs = find_number run.call.stage
number_of c (Recover run) backs = recover_number c run.given run.call.stage backs
number_of c (BorrowedIndices run) backs = count_number c run.call.count + backs * (c + 2)
number_of c (IsLocked run) backs = 0

-- ---- where they stand, and what they have done

-- an acquire at its stage: it has filled its index once it raises the counter, and nothing before
abbrev pub AcquireAt : ℕ → ℕ → List SetAct → AcquireStage → Type 0
AcquireAt c owner all acquires.LoadsCounter = all ≡ []
AcquireAt c owner all (acquires.FillsCell counter index) = (index < c) × (all ≡ [])
AcquireAt c owner all (acquires.ChecksCounter counter) = all ≡ []
AcquireAt c owner all (acquires.Raises index raise) =
    (index < c) × (all ≡ Fills index owner ∷ [])

-- a count has come to a cell of the set, and has found at most the cells before it filled
abbrev pub CountAt : ℕ → Count → Type 0
CountAt c counts.LoadsCounter = Unit {0}
CountAt c (counts.LoadsCell counter index filled) = (index < c) × (filled ≤ index)
CountAt c (counts.ExchangesCounter counter filled) = filled ≤ c

-- where a lock stands: its count stands, or its count is done
abbrev pub LockAt : ℕ → Lock → Type 0
LockAt c (locks.Counts count) = CountAt c count
LockAt c (locks.ExchangesCounter counter) = Unit {0}

-- a release at its stage: it has freed its index once it raises the counter, and nothing before
abbrev pub ReleaseAt : ℕ → ℕ → ℕ → ReleaseMode → List SetAct → ReleaseStage → Type 0
ReleaseAt c index owner mode all releases.EmptiesCell = all ≡ []
ReleaseAt c index owner mode all (releases.Raises raise) = all ≡ Frees index owner ∷ []
ReleaseAt c index owner mode all (releases.Locks lock) =
    (mode ≡ LockIfLastIndex) × LockAt c lock × (all ≡ Frees index owner ∷ [])

-- a find stands at an index within the capacity, and has taken and freed nothing
abbrev pub FindAt : ℕ → List SetAct → FindStage → Type 0
FindAt c all (finds.LoadsCell index found) = (index < c) × (all ≡ [])
FindAt c all (finds.Asks index found) = (index < c) × (all ≡ [])

-- a recovery at an index of the set has asked about lower ones than this, and about each that it has freed
pub record IsInCourse (c index bound : ℕ) (all : List SetAct) : Type 0 where
  pub within : index < c
  pub asked : AllByRecursion (λ i. i < bound) (asked_in all)
  pub freed : (i owner : ℕ) → IsOneOf (Frees i owner) all → IsOneOf (Asks i owner) all

-- a recovery at its stage: how far it has come, and what it has asked or freed last
abbrev pub RecoverAt : ℕ → ReleaseMode → List SetAct → RecoverStage → Type 0
RecoverAt c mode all recovers.LoadsCounter = all ≡ []
RecoverAt c mode all (recovers.LoadsCell index) = IsInCourse c index index all
RecoverAt c mode all (recovers.Asks index owner) =
    IsInCourse c index (index + 1) all × (owner < empty) × IsLatest (Asks index owner) all
RecoverAt c mode all (recovers.EmptiesCell index owner) =
    IsInCourse c index (index + 1) all × (owner < empty) × IsLatest (Yes index owner) all
    × IsOneOf (Asks index owner) all
RecoverAt c mode all (recovers.Raises index raise) =
    IsInCourse c index (index + 1) all × HasJustFreed all
RecoverAt c mode all (recovers.Locks index lock) =
    IsInCourse c index (index + 1) all × HasJustFreed all × (mode ≡ LockIfLastIndex) × LockAt c lock
RecoverAt c mode all recovers.LoadsCounterAgain =
    (i owner : ℕ) → IsOneOf (Frees i owner) all → IsOneOf (Asks i owner) all

-- where the call of a begin stands, in a set of capacity `c`, where it has done `all` to the set
abbrev pub At : ℕ → List SetAct → RobustStart → RobustFlight → Type 0
At c all (starts.Acquire owner) (Acquire run) =
    (run.call.capacity ≡ c) × (run.given ≡ owner) × (owner < empty)
    × AcquireAt c owner all run.call.stage
At c all (starts.Release index owner mode) (Release run) =
    (run.call.capacity ≡ c) × (run.given ≡ record { index = index; owner = owner; mode = mode })
    × (owner < empty) × (index < c) × ReleaseAt c index owner mode all run.call.stage
At c all (starts.Find owner) (Find run) =
    (run.call.capacity ≡ c) × (run.given ≡ owner) × (owner < empty) × FindAt c all run.call.stage
At c all (starts.Recover mode) (Recover run) =
    (run.call.capacity ≡ c) × (run.given ≡ mode) × RecoverAt c mode all run.call.stage
At c all starts.BorrowedIndices (BorrowedIndices run) =
    (run.call.capacity ≡ c) × CountAt c run.call.count × (all ≡ [])
At c all starts.IsLocked (IsLocked run) = all ≡ []
At c all start flight = ⊥
