-- What a queue's call knows at its stage: of the words, of the events, and of the counts of
-- steps and of changes.
use Rattle.laws_queues.proofs.Names.{◌≡◌, ℕ, ◌+◌, ◌-◌, ◌*◌, ◌^◌, ◌<◌, ◌≤◌, Option, Some, None, List, [], ◌∷◌, ◌++◌}
use Rattle.laws_queues.proofs.Names.{length, take, map, Len, LenStage, Running, number_waiting, RoleCall, Acquire}
use Rattle.laws_queues.proofs.Names.{Release, Look, LengthOf, QueueFlight, Role, Indices, Values, Length, Item, Buffer}
use Rattle.laws_queues.proofs.Names.{OneWord, QueueStart, AcquireProducer, ReleaseProducer, AcquireConsumer}
use Rattle.laws_queues.proofs.Names.{ReleaseConsumer, PushIndex, Push, Pop, Peek, HasProducer, HasConsumer, IsEmpty, IsFull, Event, Roles, QueueKind}
use Rattle.laws_queues.proofs.Names.{Coding, one_word, waiting, BeginsNone, HeldSometime, held_later, Flight}
use Rattle.std.proofs.Common.{arith}
use Rattle.steps.specs.declared.queues.lengths.LenStage.TheVariants as lens
use Rattle.model.specs.declared.families.queues.calls.RingCall as rings
use Rattle.model.specs.declared.families.queues.calls.OverflowCall.{OverflowCall}
use Rattle.model.specs.declared.families.queues.calls.OverflowCall.TheVariants as overflows
use Rattle.model.specs.declared.families.queues.calls.LengthOf.TheVariants as measures
use Rattle.model.specs.declared.families.queues.calls.QueueFlight.TheVariants.{Overflow}
use Rattle.model.specs.declared.families.queues.QueueStart.TheVariants as starts
use Rattle.model.specs.declared.families.queues.QueueKind.TheVariants as kinds
use Rattle.laws_queues.proofs.Queues.Core.{Core}
use Rattle.laws_queues.proofs.Queues.Core.{GoesUp}
use Rattle.laws_queues.proofs.Queues.Values.{Val, item}
use Rattle.laws_queues.proofs.Ring.Knows.{ring_number, PushAt, PopAt, PeekAt}
use Rattle.laws_queues.proofs.Overflow.Knows.{KnowsBacks, backs_keep, overflow_wrote, overflow_push_number, overflow_pop_number, OverflowAt}
pub use Rattle.model.specs.Fresh.{IsFreshStore, IsFreshAt, IsFreshCall}

-- ---- the words

-- the word of a role: 1 while the role is free, else 0
abbrev pub free : Option ℕ → ℕ
free None = 1
free (Some p) = 0

-- the words of a queue: the two positions, the words of the two roles, and the cells
abbrev pub layout : {V : Type 0} → Roles → Core V → List ℕ
layout ro k = k.write ∷ k.read ∷ free ro.producer ∷ free ro.consumer ∷ k.cells

-- a length call by its stage
abbrev pub len_at : ℕ → LenStage → Running Len (Unit {0}) (Unit {0})
len_at c stage = record { call = record { capacity = c; stage = stage }; given = tt; room = tt }

-- How many steps a length call has taken at most at each stage, besides four for each time that it turned
-- back. Which of its loads turned it back is not kept.
abbrev pub len_number : LenStage → ℕ
len_number lens.LoadsWrite = 0
len_number (lens.LoadsRead write) = 1
len_number (lens.LoadsWriteAgain write read) = 2
len_number (lens.LoadsReadAgain write read) = 3

-- the words in the room of a call
abbrev pub in_one : OneWord → List ℕ
in_one room = room.0 ∷ []

-- the words of the room into which an element is read
abbrev pub in_cell : Buffer 128 → List ℕ
in_cell room = room.words

-- how many steps a call has taken at most at its stage, where it has turned back `backs` times
abbrev pub number_of : {T : Type 0} → Coding T → QueueFlight T → ℕ → ℕ
number_of en (Role call) backs = 0
number_of en (Indices call) backs = ring_number one_word in_one call
number_of en (Values call) backs = ring_number en in_cell call
number_of en (Overflow (overflows.Push run)) backs = overflow_push_number run.call.stage
number_of en (Overflow (overflows.Pop run)) backs = 2 * backs + overflow_pop_number run.call.stage
number_of en (Length which run) backs = 4 * backs + len_number run.call.stage

-- What a length call knows of its turns back. The positions that it loaded are not above those of now. Each
-- turn back is paid by a change of a word since the call began, and so is each move of a position since it
-- was loaded, which will turn the call back next.
abbrev pub IsPaid : {V : Type 0} → Core V → ℕ → ℕ → ℕ → ℕ → ℕ → Type 0
IsPaid k since changes backs write read =
    (write ≤ k.write) × (read ≤ k.read) × (backs + since + (k.write + k.read) ≤ changes + (write + read))

-- In an overflowing queue at most the capacity waits. While a push has published and not acted, one more waits, its value last.
abbrev pub Hangs : (T : Type 0) (kd : QueueKind) → ℕ → Core (Val T kd) → Option (ℕ × ℕ) → Type 0
Hangs T kinds.IndexQueue c k push = Unit {0}
Hangs T kinds.Overflow c k None = length k.waiting ≤ c
Hangs T kinds.Overflow c k (Some push) = (0 < c) × (others : List ℕ) × (k.waiting ≡ others ++ push.1 ∷ []) × (length others ≡ c)
Hangs T kinds.Queue c k push = Unit {0}

module _ {T : Type 0} where
  -- the list that the calls of a queue answer as: what waits, in an overflowing queue at most the capacity
  abbrev pub listed : (kd : QueueKind) → ℕ → List (Val T kd) → List (Item T)
  listed kinds.IndexQueue c xs = map (item kinds.IndexQueue) xs
  listed kinds.Overflow c xs = map (item kinds.Overflow) (take c xs)
  listed kinds.Queue c xs = map (item kinds.Queue) xs

  -- ---- what a call under way has written since its begin

  -- only a push into an overflowing queue writes before its end
  abbrev pub has_written : {V : Type 0} → ℕ → Core V → ℕ → QueueFlight T → List (Event T)
  has_written c k p (Role call) = []
  has_written c k p (Indices call) = []
  has_written c k p (Values call) = []
  has_written c k p (Overflow (overflows.Push run)) = overflow_wrote c k p run.given run.call.stage
  has_written c k p (Overflow (overflows.Pop call)) = []
  has_written c k p (Length which call) = []

  -- ---- what a length call knows

  -- at a moment of the call as many values waited as these two positions tell
  abbrev pub Waited : ℕ → ℕ → List (Event T) → ℕ → ℕ → Type 0
  Waited c p events write read = HeldSometime p (λ part. length (waiting part) ≡ number_waiting c write read) events

  -- What a length call knows at each stage. The load of the read position is a moment at which as many
  -- values waited as the two positions tell, unless the write position has moved on since it was loaded.
  abbrev pub KnowsLen : {V : Type 0} → ℕ → Core V → ℕ → List (Event T) → ℕ → ℕ → ℕ → LenStage → Type 0
  KnowsLen c k p events since changes backs lens.LoadsWrite = backs + since ≤ changes
  KnowsLen c k p events since changes backs (lens.LoadsRead write) =
      IsPaid k since changes backs write k.read
  KnowsLen c k p events since changes backs (lens.LoadsWriteAgain write read) =
      IsPaid k since changes backs write read × (write ≡ k.write → Waited c p events write read)
  KnowsLen c k p events since changes backs (lens.LoadsReadAgain write read) =
      IsPaid k since changes backs write read × Waited c p events write read

  -- what a call under way knows of the events and the counts; a call without a loop has not turned back
  abbrev pub KnowsFlight : {V : Type 0} → ℕ → Core V → ℕ → List (Event T) → ℕ → ℕ → ℕ → QueueFlight T → Type 0
  KnowsFlight c k p events since changes backs (Role call) = backs ≡ 0
  KnowsFlight c k p events since changes backs (Indices call) = backs ≡ 0
  KnowsFlight c k p events since changes backs (Values call) = backs ≡ 0
  KnowsFlight c k p events since changes backs (Overflow (overflows.Push call)) = backs ≡ 0
  KnowsFlight c k p events since changes backs (Overflow (overflows.Pop run)) =
      KnowsBacks k since changes backs run.call.stage
  KnowsFlight c k p events since changes backs (Length which run) =
      KnowsLen c k p events since changes backs run.call.stage

  -- what a call knows stays known after a turn of another party, with whose events its own
  -- party begins no call
  module _ {V : Type 0} (c : ℕ) (k k' : Core V) (p : ℕ) (events es : List (Event T)) (changes changes' : ℕ)
      (up : GoesUp k k' changes changes') (none : BeginsNone p es) where
    -- turn-backs that are paid for stay so after another party's turn
    paid_keeps : (since backs write read : ℕ) → IsPaid k since changes backs write read → IsPaid k' since changes' backs write read
    paid_keeps = grind arith

    -- what a call of `len` knows it knows after the step of another call
    len_keeps : (since backs : ℕ) (stage : LenStage) → KnowsLen c k p events since changes backs stage
        → KnowsLen c k' p (events ++ es) since changes' backs stage
    len_keeps = grind (arith, paid_keeps, held_later, length, waiting)

    -- what a call of a queue knows it knows after the step of another call
    pub flight_keeps : (since backs : ℕ) (flight : QueueFlight T)
        → KnowsFlight c k p events since changes backs flight
        → KnowsFlight c k' p (events ++ es) since changes' backs flight
    flight_keeps = grind (arith, backs_keep, len_keeps)

  -- ---- a write position, or version, below the last is not found to be the last

  -- below the last write position every call of a queue is fresh
  pub all_fresh : (write : ℕ) (flight : QueueFlight T) → write < 2 ^ 64 - 1 → IsFreshAt write flight
  all_fresh = grind arith

  -- a call that has just found a value below the last of 64 bits is fresh
  pub any_fresh : (found : ℕ) (flight : Flight T) → found < 2 ^ 64 - 1 → IsFreshCall found flight
  any_fresh = grind arith

  -- ---- where a call under way stands

  -- a call on a role is about that role's word, and a release is made by the holder of the role
  abbrev pub RoleAt : Roles → ℕ → QueueStart T → RoleCall → Type 0
  RoleAt ro p AcquireProducer (Acquire run) = run.call.word ≡ 2
  RoleAt ro p ReleaseProducer (Release run) = (run.call.word ≡ 2) × (ro.producer ≡ Some p)
  RoleAt ro p AcquireConsumer (Acquire run) = run.call.word ≡ 3
  RoleAt ro p ReleaseConsumer (Release run) = (run.call.word ≡ 3) × (ro.consumer ≡ Some p)
  RoleAt ro p HasProducer (Look run) = run.call.word ≡ 2
  RoleAt ro p HasConsumer (Look run) = run.call.word ≡ 3
  RoleAt ro p start call = ⊥

  -- a length call has the queue's capacity
  abbrev pub LengthAt : ℕ → QueueStart T → LengthOf → ℕ → Type 0
  LengthAt c starts.Len measures.Len capacity = capacity ≡ c
  LengthAt c IsEmpty measures.IsEmpty capacity = capacity ≡ c
  LengthAt c IsFull measures.IsFull capacity = capacity ≡ c
  LengthAt c start which capacity = ⊥

  -- where a call of the index queue stands; no other kind of queue has such a call
  abbrev pub IndexAt : (kd : QueueKind) → ℕ → Roles → Core (Val T kd) → ℕ → QueueStart T → rings.RingCall ℕ OneWord → Type 0
  IndexAt kinds.IndexQueue c ro k p (PushIndex v) call = PushAt one_word in_one c ro k p v call
  IndexAt kinds.IndexQueue c ro k p Pop call = PopAt one_word in_one c ro k p call
  IndexAt kinds.IndexQueue c ro k p Peek call = PeekAt one_word in_one c ro k p call
  IndexAt kinds.IndexQueue c ro k p start call = ⊥
  IndexAt kinds.Overflow c ro k p start call = ⊥
  IndexAt kinds.Queue c ro k p start call = ⊥

  -- calls on values are of the bounded queue of values alone
  abbrev pub ValueAt : Coding T → (kd : QueueKind) → ℕ → Roles → Core (Val T kd) → ℕ → QueueStart T → rings.RingCall T (Buffer 128) → Type 0
  ValueAt en kinds.IndexQueue c ro k p start call = ⊥
  ValueAt en kinds.Overflow c ro k p start call = ⊥
  ValueAt en kinds.Queue c ro k p (Push v) call = PushAt en in_cell c ro k p v call
  ValueAt en kinds.Queue c ro k p Pop call = PopAt en in_cell c ro k p call
  ValueAt en kinds.Queue c ro k p Peek call = PeekAt en in_cell c ro k p call
  ValueAt en kinds.Queue c ro k p start call = ⊥

  -- where a push or a pop of the overflowing queue stands; no other kind of queue has such a call
  abbrev pub OverAt : (kd : QueueKind) → ℕ → Roles → Core (Val T kd) → ℕ → QueueStart T → OverflowCall → Type 0
  OverAt kinds.IndexQueue c ro k p start call = ⊥
  OverAt kinds.Overflow c ro k p start call = OverflowAt c ro k p start call
  OverAt kinds.Queue c ro k p start call = ⊥

  -- where a queue's call stands: its party has the role that it needs, and it knows what its stage says
  abbrev pub At : Coding T → (kd : QueueKind) → ℕ → Roles → Core (Val T kd) → ℕ → QueueStart T → QueueFlight T → Type 0
  At en kd c ro k p start (Role call) = RoleAt ro p start call
  At en kd c ro k p start (Indices call) = IndexAt kd c ro k p start call
  At en kd c ro k p start (Values call) = ValueAt en kd c ro k p start call
  At en kd c ro k p start (Overflow call) = OverAt kd c ro k p start call
  At en kd c ro k p start (Length which run) = LengthAt c start which run.call.capacity
