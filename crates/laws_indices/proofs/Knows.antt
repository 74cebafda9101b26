-- What a call of the unique index set knows at its stage: of the words, of the holders, and of the counts
-- of steps and of changes.
use Rattle.std.proofs.Common.{◌≡◌, ◌≢◌, ℕ, ◌+◌, ◌*◌, ◌<◌, ◌≤◌, ◌⊎◌, true, Option, Some, List, [], ◌∷◌, arith}
use Rattle.std.specs.Prelude.{max}
use Rattle.laws_indices.proofs.Names.{LockIfLastIndex, Default, AcquireStage, ReleaseStage, borrowed, locked, Event}
use Rattle.laws_indices.proofs.Names.{Freed, IndexStart, IndexFlight}
use Rattle.steps.specs.declared.indices.unique.AcquireStage.TheVariants as acquires
use Rattle.steps.specs.declared.indices.unique.ReleaseStage.TheVariants as releases
use Rattle.model.specs.declared.families.indices.IndexStart.TheVariants as starts
use Rattle.model.specs.declared.families.indices.calls.IndexFlight.TheVariants.{Acquire, ReleaseDefault, ReleaseLock, BorrowedIndices, IsLocked}
use Rattle.laws_indices.proofs.Core.{head_of, holder, is_claimed}

-- ---- the calls by their stages

-- an acquire at a stage
abbrev pub acquire_at : ℕ → AcquireStage → IndexFlight
acquire_at c stage =
    Acquire (record { call = record { capacity = c; stage = stage }; given = tt; room = tt })

-- a release in mode Default at a stage
abbrev pub default_at : ℕ → ℕ → ReleaseStage → IndexFlight
default_at c index stage =
    ReleaseDefault
    (record {
      call = record { capacity = c; stage = stage; of = record {} };
      given = index;
      room = tt;
    })

-- a release that may lock at a stage
abbrev pub lock_at : ℕ → ℕ → ReleaseStage → IndexFlight
lock_at c index stage =
    ReleaseLock
    (record {
      call = record { capacity = c; stage = stage; of = record {} };
      given = index;
      room = tt;
    })

-- ---- what they count for

-- an acquire is counted in the head from its exchange to its claim
abbrev pub acquire_counts : AcquireStage → ℕ
acquire_counts acquires.LoadsHead = 0
acquire_counts (acquires.LoadsNext head) = 0
acquire_counts (acquires.ExchangesHead head next) = 0
acquire_counts (acquires.Claims index) = 1
acquire_counts (acquires.Scans index) = 1

-- a release is counted there from its clear to its end
abbrev pub release_counts : ReleaseStage → ℕ
release_counts releases.ClearsFlag = 0
release_counts releases.LoadsHead = 1
release_counts (releases.StoresNext head) = 1
release_counts (releases.ExchangesHead head) = 1
release_counts releases.Subtracts = 1

-- the weight of any call in the head
abbrev pub counts : IndexFlight → ℕ
counts (Acquire run) = acquire_counts run.call.stage
counts (ReleaseDefault run) = release_counts run.call.stage
counts (ReleaseLock run) = release_counts run.call.stage
counts (BorrowedIndices run) = 0
counts (IsLocked run) = 0

-- each acquire takes an index, and a release gives one back once it has freed
abbrev pub takes : IndexFlight → ℕ
takes (Acquire run) = 1
takes (ReleaseDefault run) = 0
takes (ReleaseLock run) = 0
takes (BorrowedIndices run) = 0
takes (IsLocked run) = 0

-- a release gives its index back once it has cleared the flag
abbrev pub gives : IndexFlight → ℕ
gives (Acquire run) = 0
gives (ReleaseDefault run) = release_counts run.call.stage
gives (ReleaseLock run) = release_counts run.call.stage
gives (BorrowedIndices run) = 0
gives (IsLocked run) = 0

-- ---- what they have written, and how many steps they have taken at most

module _ {T : Type 0} where
  -- a release has written that its index is free, once it has cleared the flag
  abbrev pub release_wrote : ℕ → ℕ → ReleaseStage → List (Event T)
  release_wrote p index releases.ClearsFlag = []
  release_wrote p index releases.LoadsHead = Freed p index ∷ []
  release_wrote p index (releases.StoresNext head) = Freed p index ∷ []
  release_wrote p index (releases.ExchangesHead head) = Freed p index ∷ []
  release_wrote p index releases.Subtracts = Freed p index ∷ []

  -- the events that any call has written since its begin
  abbrev pub flight_wrote : ℕ → IndexFlight → List (Event T)
  flight_wrote p (Acquire run) = []
  flight_wrote p (ReleaseDefault run) = release_wrote p run.given run.call.stage
  flight_wrote p (ReleaseLock run) = release_wrote p run.given run.call.stage
  flight_wrote p (BorrowedIndices run) = []
  flight_wrote p (IsLocked run) = []

-- how many steps an acquire has taken at most at its stage, where it has turned back `backs` times
abbrev pub acquire_number : ℕ → AcquireStage → ℕ → ℕ
acquire_number c acquires.LoadsHead backs = 0
acquire_number c (acquires.LoadsNext head) backs = 1 + backs * max 2 c
acquire_number c (acquires.ExchangesHead head next) backs = 2 + backs * max 2 c
acquire_number c (acquires.Claims index) backs = 3 + backs * max 2 c
acquire_number c (acquires.Scans index) backs = 4 + index + backs * max 2 c

-- how many steps a release has taken at most at its stage, where it has turned back `backs` times
abbrev pub release_number : ReleaseStage → ℕ → ℕ
release_number releases.ClearsFlag backs = 0
release_number releases.LoadsHead backs = 1
release_number (releases.StoresNext head) backs = 2 + backs * 2
release_number (releases.ExchangesHead head) backs = 3 + backs * 2
release_number releases.Subtracts backs = 4

-- how many steps a call has taken at most at its stage, where it has turned back `backs` times
abbrev pub number_of : ℕ → IndexFlight → ℕ → ℕ
number_of c (Acquire run) backs = acquire_number c run.call.stage backs
number_of c (ReleaseDefault run) backs = release_number run.call.stage 0
number_of c (ReleaseLock run) backs = release_number run.call.stage backs
number_of c (BorrowedIndices run) backs = 0
number_of c (IsLocked run) backs = 0

-- ---- what they know of the words and of who holds what

-- a head from which an acquire goes on: it is not locked, and counts less than the capacity
abbrev pub IsOpen : ℕ → ℕ → Type 0
IsOpen c head = (borrowed head ≢ locked) × (borrowed head ≢ c)

-- an acquire has an open head up to its exchange, and then an index of the set
abbrev pub AcquireAt : ℕ → AcquireStage → Type 0
AcquireAt c acquires.LoadsHead = Unit {0}
AcquireAt c (acquires.LoadsNext head) = IsOpen c head
AcquireAt c (acquires.ExchangesHead head next) = IsOpen c head
AcquireAt c (acquires.Claims index) = index < c
AcquireAt c (acquires.Scans index) = index < c

-- before it clears the flag, the party of a release holds the index
abbrev pub ReleaseAt : List (Option ℕ) → ℕ → ℕ → ReleaseStage → Type 0
ReleaseAt holders p index releases.ClearsFlag = holder holders index ≡ Some p
ReleaseAt holders p index releases.LoadsHead = Unit {0}
ReleaseAt holders p index (releases.StoresNext head) = Unit {0}
ReleaseAt holders p index (releases.ExchangesHead head) = Unit {0}
ReleaseAt holders p index releases.Subtracts = Unit {0}

-- where a call under way stands: its capacity and index are right, and the stage's condition holds
abbrev pub At : ℕ → List (Option ℕ) → ℕ → IndexStart → IndexFlight → Type 0
At c holders p starts.Acquire (Acquire run) =
    (run.call.capacity ≡ c) × AcquireAt c run.call.stage
At c holders p (starts.Release index Default) (ReleaseDefault run) =
    (run.call.capacity ≡ c) × (run.given ≡ index) × (index < c)
    × ReleaseAt holders p index run.call.stage
At c holders p (starts.Release index LockIfLastIndex) (ReleaseLock run) =
    (run.call.capacity ≡ c) × (run.given ≡ index) × (index < c)
    × ReleaseAt holders p index run.call.stage
At c holders p starts.BorrowedIndices (BorrowedIndices run) = Unit {0}
At c holders p starts.IsLocked (IsLocked run) = Unit {0}
At c holders p start flight = ⊥

-- ---- what they know of the counts

-- each turn back is paid by a change of another party since the call began
abbrev pub IsPaid : ℕ → ℕ → ℕ → Type 0
IsPaid since changes backs = backs + since ≤ changes

-- the turns back are paid, and unless `P` holds one more is paid too
abbrev pub PaidUnless : Type 0 → ℕ → ℕ → ℕ → Type 0
PaidUnless P since changes backs = (P × IsPaid since changes backs) ⊎ (backs + since + 1 ≤ changes)

-- the flags of all indices below this one stand
abbrev pub AllClaimed : ℕ → List ℕ → ℕ → Type 0
AllClaimed c words index = (i : ℕ) → i < index → is_claimed c words i ≡ true

-- an acquire knows that its turns back are paid, and one more if the head has moved, or a flag
-- that it has passed does not stand any more
abbrev pub AcquireKnows : ℕ → List ℕ → ℕ → ℕ → ℕ → AcquireStage → Type 0
AcquireKnows c words since changes backs acquires.LoadsHead = IsPaid since changes backs
AcquireKnows c words since changes backs (acquires.LoadsNext head) =
    PaidUnless (head_of words ≡ head) since changes backs
AcquireKnows c words since changes backs (acquires.ExchangesHead head next) =
    PaidUnless (head_of words ≡ head) since changes backs
AcquireKnows c words since changes backs (acquires.Claims index) =
    IsPaid since changes backs
AcquireKnows c words since changes backs (acquires.Scans index) =
    PaidUnless (AllClaimed c words index) since changes backs

-- a release that may lock knows that its turns back are paid, and one more if the head has moved
abbrev pub LockKnows : List ℕ → ℕ → ℕ → ℕ → ReleaseStage → Type 0
LockKnows words since changes backs releases.ClearsFlag = IsPaid since changes backs
LockKnows words since changes backs releases.LoadsHead = IsPaid since changes backs
LockKnows words since changes backs (releases.StoresNext head) =
    PaidUnless (head_of words ≡ head) since changes backs
LockKnows words since changes backs (releases.ExchangesHead head) =
    PaidUnless (head_of words ≡ head) since changes backs
LockKnows words since changes backs releases.Subtracts = ⊥

-- what a call under way knows of the counts; a call without a loop has not turned back
abbrev pub FlightKnows : ℕ → List ℕ → ℕ → ℕ → ℕ → IndexFlight → Type 0
FlightKnows c words since changes backs (Acquire run) =
    AcquireKnows c words since changes backs run.call.stage
FlightKnows c words since changes backs (ReleaseDefault run) = backs ≡ 0
FlightKnows c words since changes backs (ReleaseLock run) =
    LockKnows words since changes backs run.call.stage
FlightKnows c words since changes backs (BorrowedIndices run) = backs ≡ 0
FlightKnows c words since changes backs (IsLocked run) = backs ≡ 0

-- ---- what a step of another party keeps

-- the words stay, or their changes go up
abbrev pub IsSeen : List ℕ → List ℕ → ℕ → ℕ → Type 0
IsSeen words words' changes changes' =
    ((words' ≡ words) × (changes' ≡ changes)) ⊎ (changes' ≡ changes + 1)

-- what a call knows stays known after a turn of another party
module _ (words words' : List ℕ) (changes changes' since backs : ℕ) (seen : IsSeen words words' changes changes') where
  -- what a call knows it knows after another party's turn
  pub flight_keeps : (c : ℕ) (flight : IndexFlight) → FlightKnows c words since changes backs flight → FlightKnows c words' since changes' backs flight
  flight_keeps = grind arith
