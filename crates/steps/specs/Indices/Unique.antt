-- The calls of the unique index set, one step after another. `.._asks` says what a call asks for at each
-- stage, and `.._takes` where the answer leads: to a next stage (`GoOn`) or to its end (`Done`).
-- `release_left` is a number that each step of a release that may not lock lowers, and `.._goes_back` says
-- whether it begins a loop again.
use Rattle.std.specs.Prelude.{ℕ, ◌+◌, ◌-◌, ◌%◌, ◌^◌, ◌==◌, ◌&&◌, Bool, false, not, Result, Ok, Err, if◌then◌else◌, nat_lt}
use Rattle.steps.specs.Queues.Ring.{load, store}
use Rattle.steps.specs.Indices.Head.{next_word, flag_word, flag, has_flag, proposed, aba, borrowed, locked, says_locked, head_word}
use Rattle.steps.specs.declared.ask.Op.TheVariants.{Sub, And, Or, Exchange}
use Rattle.steps.specs.declared.ask.Want.{Want}
use Rattle.steps.specs.declared.ask.Want.TheVariants as wants
use Rattle.steps.specs.declared.ask.After.{After}
use Rattle.steps.specs.declared.ask.After.TheVariants.{GoOn, Done}
use Rattle.steps.specs.declared.indices.enums.ReleaseState.{ReleaseState}
use Rattle.steps.specs.declared.indices.enums.ReleaseState.TheVariants.{Locked, Unlocked}
use Rattle.steps.specs.declared.indices.enums.UniqueIndexSetAcquireFailure.{UniqueIndexSetAcquireFailure}
use Rattle.steps.specs.declared.indices.enums.UniqueIndexSetAcquireFailure.TheVariants as failures
use Rattle.steps.specs.declared.indices.unique.Acquire.{Acquire}
use Rattle.steps.specs.declared.indices.unique.AcquireStage.{AcquireStage}
use Rattle.steps.specs.declared.indices.unique.AcquireStage.TheVariants as acquires
use Rattle.steps.specs.declared.indices.unique.Release.{Release}
use Rattle.steps.specs.declared.indices.unique.ReleaseStage.{ReleaseStage}
use Rattle.steps.specs.declared.indices.unique.ReleaseStage.TheVariants as releases
use Rattle.steps.specs.declared.indices.looks.BorrowedIndices.{BorrowedIndices}
use Rattle.steps.specs.declared.indices.looks.IsLocked.{IsLocked}

-- an exchange of the head
abbrev pub exchange_head : (from to : ℕ) → Want (Unit {0})
exchange_head from to = wants.Ask (record { word = 0; op = Exchange from to })

-- ---- acquire

-- what an acquire ends with: an index, or why there is none
abbrev pub Acquired : Type 0
Acquired = Result ℕ UniqueIndexSetAcquireFailure

-- an acquire before its first step
abbrev pub first_acquire : ℕ → Acquire
first_acquire capacity =
    record { capacity = capacity; stage = acquires.LoadsHead }

-- the acquire, moved to this stage
abbrev pub at_acquire : Acquire → AcquireStage → Acquire
at_acquire call stage = record call { stage = stage }

-- the head word once one index more is borrowed and the next one is proposed
abbrev pub head_taken : (head next : ℕ) → ℕ
head_taken head next =
    head_word
    (record {
      head = next;
      aba = (aba head + 1) % 2 ^ 16;
      borrowed_indices = borrowed head + 1;
    })

-- a claim of the index: its flag is set
abbrev pub claim : (capacity index : ℕ) → Want (Unit {0})
claim capacity index =
    wants.Ask (record { word = flag_word capacity index; op = Or (flag index) })

-- What the acquire asks for, step by step: load the head;
-- load the next index of the proposed one; exchange the head; claim.
abbrev pub acquire_asks : ℕ → AcquireStage → Want (Unit {0})
acquire_asks capacity acquires.LoadsHead = load 0
acquire_asks capacity (acquires.LoadsNext head) = load (next_word (proposed head))
acquire_asks capacity (acquires.ExchangesHead head next) =
    exchange_head head (head_taken head next)
acquire_asks capacity (acquires.Claims index) = claim capacity index
acquire_asks capacity (acquires.Scans index) = claim capacity index

-- what the acquire asks for next, at the stage where it stands
abbrev pub acquire_want : Acquire → Want (Unit {0})
acquire_want call = acquire_asks call.capacity call.stage

-- how the acquire goes on from a head word: it ends where that says locked or all borrowed, and where that
-- proposes no index of the set the exchange leaves the proposal
abbrev pub acquire_sees : Acquire → ℕ → After Acquire Acquired
acquire_sees call head =
    if says_locked head
    then Done (Err failures.IsLocked)
    else if borrowed head == call.capacity
    then Done (Err failures.OutOfIndices)
    else if nat_lt (proposed head) call.capacity
    then GoOn (at_acquire call (acquires.LoadsNext head))
    else GoOn (at_acquire call (acquires.ExchangesHead head (proposed head)))

-- where the acquire begins to claim: at the proposed index, or at flag 0 where that is no index of the set;
-- from there it tries each flag, again and again
abbrev pub first_claim : (capacity head : ℕ) → AcquireStage
first_claim capacity head =
    if nat_lt (proposed head) capacity
    then acquires.Claims (proposed head)
    else acquires.Scans 0

-- the index after this one; after the last one the first
abbrev pub scanned_next : (capacity index : ℕ) → ℕ
scanned_next capacity index = if nat_lt (index + 1) capacity then index + 1 else 0

-- Where the acquire goes on to from the old value of its word: it moves the head to the next index, then claims the
-- proposed one, and where that is claimed it tries the flags until it claims one.
abbrev pub acquire_takes : Acquire → AcquireStage → ℕ → After Acquire Acquired
acquire_takes call acquires.LoadsHead old = acquire_sees call old
acquire_takes call (acquires.LoadsNext head) old =
    GoOn (at_acquire call (acquires.ExchangesHead head (old % 2 ^ 24)))
acquire_takes call (acquires.ExchangesHead head next) old =
    if old == head
    then GoOn (at_acquire call (first_claim call.capacity head))
    else acquire_sees call old
acquire_takes call (acquires.Claims index) old =
    if has_flag old index
    then GoOn (at_acquire call (acquires.Scans 0))
    else Done (Ok index)
acquire_takes call (acquires.Scans index) old =
    if has_flag old index
    then GoOn (at_acquire call (acquires.Scans (scanned_next call.capacity index)))
    else Done (Ok index)

-- how the acquire goes on from the stage at which it is, by the old value of its word
abbrev pub acquire_after : Acquire → ℕ → After Acquire Acquired
acquire_after call old = acquire_takes call call.stage old

-- Whether the acquire begins a loop again once it is handed this old value: the head has moved, or the last of the
-- flags is found claimed too.
abbrev pub acquire_goes_back : ℕ → AcquireStage → ℕ → Bool
acquire_goes_back capacity acquires.LoadsHead old = false
acquire_goes_back capacity (acquires.LoadsNext head) old = false
acquire_goes_back capacity (acquires.ExchangesHead head next) old = not (old == head)
acquire_goes_back capacity (acquires.Claims index) old = false
acquire_goes_back capacity (acquires.Scans index) old =
    has_flag old index && not (nat_lt (index + 1) capacity)

-- ---- release

-- the head word once one index less is borrowed and this one is proposed
abbrev pub head_given_back : (head index : ℕ) → ℕ
head_given_back head index =
    head_word
    (record {
      head = index;
      aba = (aba head + 1) % 2 ^ 16;
      borrowed_indices = (borrowed head + (2 ^ 32 - 1)) % 2 ^ 32;
    })

-- the head word once the last index is given back and the set is locked
abbrev pub head_locked : (head index : ℕ) → ℕ
head_locked head index =
    head_word
    (record { head = index; aba = (aba head + 1) % 2 ^ 16; borrowed_indices = locked })

-- whether a release that may lock locks the set: its index is the last one that is borrowed
abbrev pub locks : Bool → ℕ → Bool
locks lock head = lock && (borrowed head == 1)

-- the head word that a release leaves where it found this one
abbrev pub head_released : Bool → (head index : ℕ) → ℕ
head_released lock head index =
    if locks lock head then head_locked head index else head_given_back head index

-- What the release asks for, step by step: clear the flag; load the head; store what it proposes as the next index of
-- this one; exchange the head; subtract 1 from the head.
abbrev pub release_asks : Bool → (capacity index : ℕ) → ReleaseStage → Want (Unit {0})
release_asks lock capacity index releases.ClearsFlag =
    wants.Ask
    (record { word = flag_word capacity index; op = And (2 ^ 64 - 1 - flag index) })
release_asks lock capacity index releases.LoadsHead = load 0
release_asks lock capacity index (releases.StoresNext head) =
    store (next_word index) (proposed head)
release_asks lock capacity index (releases.ExchangesHead head) =
    exchange_head head (head_released lock head index)
release_asks lock capacity index releases.Subtracts =
    wants.Ask (record { word = 0; op = Sub 1 })

-- the state that a release answers where it found this head
abbrev pub state_after : Bool → ℕ → ReleaseState
state_after lock head = if locks lock head then Locked else Unlocked

module _ {M : Type 0} where
  -- a release in a set of this capacity before its first step
  abbrev pub first_release : ℕ → Release M
  first_release capacity =
      record {
        capacity = capacity;
        stage = releases.ClearsFlag;
        of = record {};
      }

  -- the release, moved to this stage
  abbrev pub at_release : Release M → ReleaseStage → Release M
  at_release call stage = record call { stage = stage }

  -- what the release asks for next, at the stage where it stands
  abbrev pub release_want : Bool → Release M → ℕ → Want (Unit {0})
  release_want lock call index = release_asks lock call.capacity index call.stage

  -- Where the release goes on to from the old value of its word. Where the head has moved, a release that may
  -- lock goes back to the store with the head found, and one in mode Default only subtracts.
  abbrev pub release_takes : Bool → Release M → ReleaseStage → ℕ
      → After (Release M) ReleaseState
  release_takes lock call releases.ClearsFlag old =
      GoOn (at_release call releases.LoadsHead)
  release_takes lock call releases.LoadsHead old =
      GoOn (at_release call (releases.StoresNext old))
  release_takes lock call (releases.StoresNext head) old =
      GoOn (at_release call (releases.ExchangesHead head))
  release_takes lock call (releases.ExchangesHead head) old =
      if old == head
      then Done (state_after lock head)
      else if lock
      then GoOn (at_release call (releases.StoresNext old))
      else GoOn (at_release call releases.Subtracts)
  release_takes lock call releases.Subtracts old = Done Unlocked

  -- how the release goes on from the stage at which it is, by the old value of its word
  abbrev pub release_after : Bool → Release M → ℕ → After (Release M) ReleaseState
  release_after lock call old = release_takes lock call call.stage old

-- whether the release begins its loop again once it is handed this old value: it may lock, and the head has moved
abbrev pub release_goes_back : Bool → ReleaseStage → ℕ → Bool
release_goes_back lock releases.ClearsFlag old = false
release_goes_back lock releases.LoadsHead old = false
release_goes_back lock (releases.StoresNext head) old = false
release_goes_back lock (releases.ExchangesHead head) old = lock && not (old == head)
release_goes_back lock releases.Subtracts old = false

-- a number that each step of a release that may not lock lowers
abbrev pub release_left : ReleaseStage → ℕ
release_left releases.ClearsFlag = 4
release_left releases.LoadsHead = 3
release_left (releases.StoresNext head) = 2
release_left (releases.ExchangesHead head) = 1
release_left releases.Subtracts = 0

-- ---- the number of borrowed indices, and the lock

-- how many indices are borrowed: none where the set is locked
abbrev pub borrowed_number : ℕ → ℕ
borrowed_number head = if says_locked head then 0 else borrowed head

-- a count ends with its one step
abbrev pub borrowed_after : BorrowedIndices → ℕ → After BorrowedIndices ℕ
borrowed_after call old = Done (borrowed_number old)

-- a look at the lock ends with its one step
abbrev pub locked_after : IsLocked → ℕ → After IsLocked Bool
locked_after call old = Done (says_locked old)
