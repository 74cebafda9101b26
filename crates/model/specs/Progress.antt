-- Which calls are wait-free and which obstruction-free, with their constants. Steps are operations on words.
use Rattle.std.specs.Prelude.{◌≡◌, ◌≤◌, ℕ, ◌+◌, ◌*◌, max, Option, Some, List}
use Rattle.steps.specs.Bits.Words.{elements}
use Rattle.steps.specs.declared.indices.enums.ReleaseMode.TheVariants.{LockIfLastIndex, Default}
use Rattle.model.specs.declared.event.Start.{Start}
use Rattle.model.specs.declared.event.Start.TheVariants as starts
use Rattle.model.specs.declared.families.Flight.{Flight}
use Rattle.model.specs.declared.families.Flight.TheVariants as flights
use Rattle.model.specs.declared.families.atomic.calls.AtomicFlight.TheVariants as atomic_flights
use Rattle.model.specs.declared.families.atomic.AtomicStart.{AtomicStart}
use Rattle.model.specs.declared.families.atomic.AtomicStart.TheVariants as atomics
use Rattle.model.specs.declared.families.bits.BitsStart.{BitsStart}
use Rattle.model.specs.declared.families.bits.BitsStart.TheVariants as bits
use Rattle.model.specs.declared.families.bits.calls.BitsFlight.TheVariants as bits_flights
use Rattle.model.specs.declared.families.container.ContainerStart.{ContainerStart}
use Rattle.model.specs.declared.families.container.ContainerStart.TheVariants as containers
use Rattle.model.specs.declared.families.indices.IndexStart.{IndexStart}
use Rattle.model.specs.declared.families.indices.IndexStart.TheVariants as indices
use Rattle.model.specs.declared.families.indices.robust.RobustStart.{RobustStart}
use Rattle.model.specs.declared.families.indices.robust.RobustStart.TheVariants as robust
use Rattle.model.specs.declared.families.loan.LoanStart.{LoanStart}
use Rattle.model.specs.declared.families.loan.LoanStart.TheVariants as loans
use Rattle.model.specs.declared.families.queues.calls.QueueFlight.TheVariants as queue_flights
use Rattle.model.specs.declared.families.queues.calls.RingCall.TheVariants as rings
use Rattle.model.specs.declared.families.queues.calls.RoleCall.TheVariants as roles
use Rattle.model.specs.declared.families.queues.QueueKind.{QueueKind}
use Rattle.model.specs.declared.families.queues.QueueKind.TheVariants as queue_kinds
use Rattle.model.specs.declared.families.queues.QueueStart.{QueueStart}
use Rattle.model.specs.declared.families.queues.QueueStart.TheVariants as queues
use Rattle.model.specs.declared.party.Progress.{Progress}
use Rattle.model.specs.declared.turn.Kind.{Kind}
use Rattle.model.specs.declared.turn.Kind.TheVariants.{IndexQueue, Overflow, Queue, Atomic, Bits, Counts, Indices, Robust, Container, Loan}
use Rattle.model.specs.Coding.{Coding}
use Rattle.model.specs.Families.{ask_of, want_of}
use Rattle.model.specs.Promise.{Promise}
use Rattle.model.specs.Promises.Families.{promise_of}
use Rattle.model.specs.Reading.{Span, Open, Ended, span_of}
use Rattle.model.specs.Turns.{words_after}
use Rattle.model.specs.World.{Trace, progress_in}

-- A bound of a call's steps. Wait-free: at most `most`. Obstruction-free: at most `alone` without
-- interference, and `retry` more for each turn back to the start of a loop.
pub data Guarantee : Type 0 where
  WaitFree : (most : ℕ) → Guarantee
  ObstructionFree : (alone retry : ℕ) → Guarantee

module _ {T : Type 0} where
  -- ---- what they say of a call, at this capacity, where a value has so many words

  -- The promised bound of the call is at most `most` however often it begins a loop again
  -- (`backs`): other parties cannot delay it.
  abbrev pub IsWaitFree : Promise T → (capacity size : ℕ) → Start T → ℕ → Type 0
  IsWaitFree promise capacity size start most =
      (backs : ℕ) → promise.most_steps capacity size start backs ≤ most

  -- The promised bound of the call is at most `alone` steps, and `retry` more for each time that it
  -- begins a loop again.
  abbrev pub IsObstructionFree : Promise T → (capacity size : ℕ) → Start T → (alone retry : ℕ) → Type 0
  IsObstructionFree promise capacity size start alone retry =
      (backs : ℕ) → promise.most_steps capacity size start backs ≤ alone + backs * retry

  -- the promised bound of a call's steps is within this guarantee
  abbrev pub IsGuaranteed : Promise T → (capacity size : ℕ) → Start T → Guarantee → Type 0
  IsGuaranteed promise capacity size start (WaitFree most) =
      IsWaitFree promise capacity size start most
  IsGuaranteed promise capacity size start (ObstructionFree alone retry) =
      IsObstructionFree promise capacity size start alone retry

-- ---- which of the two each call has, with its constants

-- the guarantee of a push, by the number of words of a value and the queue's kind
abbrev pub of_push : ℕ → QueueKind → Guarantee
of_push size queue_kinds.IndexQueue = WaitFree 4
of_push size queue_kinds.Overflow = WaitFree 6
of_push size queue_kinds.Queue = WaitFree (3 + size)

-- the guarantee of a peek; an overflowing queue has none
abbrev pub of_peek : ℕ → QueueKind → Guarantee
of_peek size queue_kinds.IndexQueue = WaitFree 3
of_peek size queue_kinds.Overflow = WaitFree 0
of_peek size queue_kinds.Queue = WaitFree (2 + size)

-- the guarantee of a pop: in an overflowing queue it retries where a push has moved the read position
abbrev pub of_pop : ℕ → QueueKind → Guarantee
of_pop size queue_kinds.IndexQueue = WaitFree 4
of_pop size queue_kinds.Overflow = ObstructionFree 4 2
of_pop size queue_kinds.Queue = WaitFree (3 + size)

module _ {T : Type 0} where
  -- the guarantee of each call of a queue, whatever its capacity
  abbrev pub of_queue : ℕ → QueueKind → QueueStart T → Guarantee
  of_queue size kind queues.AcquireProducer = WaitFree 1
  of_queue size kind queues.ReleaseProducer = WaitFree 1
  of_queue size kind queues.AcquireConsumer = WaitFree 1
  of_queue size kind queues.ReleaseConsumer = WaitFree 1
  of_queue size kind (queues.PushIndex index) = of_push size kind
  of_queue size kind (queues.Push value) = of_push size kind
  of_queue size kind queues.Pop = of_pop size kind
  of_queue size kind queues.Peek = of_peek size kind
  of_queue size kind queues.HasProducer = WaitFree 1
  of_queue size kind queues.HasConsumer = WaitFree 1
  of_queue size kind queues.Len = ObstructionFree 4 4
  of_queue size kind queues.IsEmpty = ObstructionFree 4 4
  of_queue size kind queues.IsFull = ObstructionFree 4 4

  -- The guarantee of each call of a single value, by the number of its words:
  -- a load retries where a store has moved the version.
  abbrev pub of_value : ℕ → AtomicStart T → Guarantee
  of_value size atomics.AcquireProducer = WaitFree 1
  of_value size atomics.ReleaseProducer = WaitFree 1
  of_value size atomics.HasProducer = WaitFree 1
  of_value size atomics.Version = WaitFree 1
  of_value size (atomics.Store value) = WaitFree (2 + size)
  of_value size atomics.Load = ObstructionFree (2 + size) (1 + size)

-- The guarantee of each call of a bit set with this many places. A bit set has no counts, so
-- `Count` has the bound 0.
abbrev pub of_bits : ℕ → BitsStart → Guarantee
of_bits capacity (bits.Set bit) = ObstructionFree 2 1
of_bits capacity bits.ResetNext = ObstructionFree (3 + capacity) 1
of_bits capacity bits.ResetAll = WaitFree (elements capacity)
of_bits capacity (bits.IsSet bit) = WaitFree 1
of_bits capacity (bits.Count place) = WaitFree 0

-- The guarantee of each call of a counting bit set with this many places. It has no reset of the
-- next place and no look at a flag, so these have the bound 0.
abbrev pub of_counts : ℕ → BitsStart → Guarantee
of_counts capacity (bits.Set place) = WaitFree 1
of_counts capacity bits.ResetNext = WaitFree 0
of_counts capacity bits.ResetAll = WaitFree capacity
of_counts capacity (bits.IsSet bit) = WaitFree 0
of_counts capacity (bits.Count place) = WaitFree 1

-- The guarantee of each call of a unique index set with this many indices: an acquire and a release that may lock retry
-- where the head has moved, and an acquire also where it has found each flag claimed.
abbrev pub of_indices : ℕ → IndexStart → Guarantee
of_indices capacity indices.Acquire = ObstructionFree (4 + capacity) (max 2 capacity)
of_indices capacity (indices.Release index Default) = WaitFree 5
of_indices capacity (indices.Release index LockIfLastIndex) = ObstructionFree 4 2
of_indices capacity indices.BorrowedIndices = WaitFree 1
of_indices capacity indices.IsLocked = WaitFree 1

-- The guarantee of each call of a robust set with this many indices:
-- they retry where another party has moved the counter.
abbrev pub of_robust : ℕ → RobustStart → Guarantee
of_robust capacity (robust.Acquire owner) = ObstructionFree (capacity + 3) (capacity + 1)
of_robust capacity (robust.Release index owner Default) = ObstructionFree 3 1
of_robust capacity (robust.Release index owner LockIfLastIndex) =
    ObstructionFree (capacity + 6) (capacity + 3)
of_robust capacity (robust.Find owner) = WaitFree capacity
of_robust capacity (robust.Recover Default) = ObstructionFree (2 + capacity * 4) 1
of_robust capacity (robust.Recover LockIfLastIndex) =
    ObstructionFree (2 + capacity * (capacity + 7)) (capacity + 3)
of_robust capacity robust.BorrowedIndices = ObstructionFree (capacity + 2) (capacity + 2)
of_robust capacity robust.IsLocked = WaitFree 1

-- The guarantee of each call of a loan channel with this many slots: a loan retries as an acquire of an index, a
-- receive and a reclaim where the read position of the submission queue has moved.
abbrev pub of_loan : ℕ → LoanStart → Guarantee
of_loan slots loans.Loan = ObstructionFree (4 + slots) (max 2 slots)
of_loan slots (loans.Send index) = WaitFree 11
of_loan slots (loans.GiveUp index) = WaitFree 5
of_loan slots loans.TakeBack = WaitFree 9
of_loan slots loans.Receive = ObstructionFree 4 2
of_loan slots (loans.GiveBack index) = WaitFree 4
of_loan slots loans.Reclaim = ObstructionFree (8 * (slots + 1) + 5 * slots) 2

module _ {T : Type 0} where
  -- The guarantee of each call of a container with this many places, by the number of words of a value: they retry
  -- where another party has moved the counter, or has changed the element that they copy.
  abbrev pub of_container : (capacity size : ℕ) → ContainerStart T → Guarantee
  of_container capacity size (containers.Add value owner) =
      ObstructionFree (capacity + 7 + size) (capacity + 1)
  of_container capacity size (containers.Remove index owner Default) = ObstructionFree 6 1
  of_container capacity size (containers.Remove index owner LockIfLastIndex) =
      ObstructionFree (capacity + 9) (capacity + 3)
  of_container capacity size (containers.Replace index value owner) = WaitFree (5 + size)
  of_container capacity size (containers.Find owner) = WaitFree (capacity * (size + 3))
  of_container capacity size (containers.Recover owner Default) =
      ObstructionFree (3 + capacity * (size + 7)) (size + 1)
  of_container capacity size (containers.Recover owner LockIfLastIndex) =
      ObstructionFree (3 + capacity * (size + capacity + 10)) (size + capacity + 4)
  of_container capacity size containers.GetState =
      ObstructionFree (1 + capacity * (size + 2)) (size + 1)
  of_container capacity size containers.UpdateState =
      ObstructionFree (1 + capacity * (size + 2)) (size + 1)
  of_container capacity size containers.Len = ObstructionFree (capacity + 2) (capacity + 2)
  of_container capacity size containers.IsEmpty = ObstructionFree (capacity + 2) (capacity + 2)
  of_container capacity size containers.IsLocked = WaitFree 1

  -- The guarantee of any call on the machine of a queue. A call of another family takes no step,
  -- since it cannot begin.
  abbrev pub in_queue : ℕ → QueueKind → Start T → Guarantee
  in_queue size kind (starts.Queues start) = of_queue size kind start
  in_queue size kind other = WaitFree 0

  -- The guarantee of any call on the machine of a single value. A call of another family cannot begin.
  abbrev pub in_value : ℕ → Start T → Guarantee
  in_value size (starts.Atomic start) = of_value size start
  in_value size other = WaitFree 0

  -- The guarantee of any call on the machine of a bit set. A call of another family cannot begin.
  abbrev pub in_bits : ℕ → Start T → Guarantee
  in_bits capacity (starts.Bits start) = of_bits capacity start
  in_bits capacity other = WaitFree 0

  -- The guarantee of any call on the machine of a counting bit set. A call of another family cannot begin.
  abbrev pub in_counts : ℕ → Start T → Guarantee
  in_counts capacity (starts.Bits start) = of_counts capacity start
  in_counts capacity other = WaitFree 0

  -- The guarantee of any call on the machine of a unique index set. A call of another family cannot begin.
  abbrev pub in_indices : ℕ → Start T → Guarantee
  in_indices capacity (starts.Indices start) = of_indices capacity start
  in_indices capacity other = WaitFree 0

  -- The guarantee of any call on the machine of a robust set. A call of another family cannot begin.
  abbrev pub in_robust : ℕ → Start T → Guarantee
  in_robust capacity (starts.Robust start) = of_robust capacity start
  in_robust capacity other = WaitFree 0

  -- The guarantee of any call on the machine of a container. A call of another family cannot begin.
  abbrev pub in_container : (capacity size : ℕ) → Start T → Guarantee
  in_container capacity size (starts.Container start) = of_container capacity size start
  in_container capacity size other = WaitFree 0

  -- The guarantee of any call on the machine of a loan channel. A call of another family cannot begin.
  abbrev pub in_loan : ℕ → Start T → Guarantee
  in_loan slots (starts.Loan start) = of_loan slots start
  in_loan slots other = WaitFree 0

  -- The guarantee of a call on a machine of this kind, capacity and number of words in a value (`size`).
  abbrev pub guarantee_of : Kind → (capacity size : ℕ) → Start T → Guarantee
  guarantee_of IndexQueue capacity size start = in_queue size queue_kinds.IndexQueue start
  guarantee_of Overflow capacity size start = in_queue size queue_kinds.Overflow start
  guarantee_of Queue capacity size start = in_queue size queue_kinds.Queue start
  guarantee_of Atomic capacity size start = in_value size start
  guarantee_of Bits capacity size start = in_bits capacity start
  guarantee_of Counts capacity size start = in_counts capacity start
  guarantee_of Indices capacity size start = in_indices capacity start
  guarantee_of Robust capacity size start = in_robust capacity start
  guarantee_of Container capacity size start = in_container capacity size start
  guarantee_of Loan capacity size start = in_loan capacity start

-- Each entry of the table `guarantee_of` follows from the bound of steps that the kind promises for the call.
abbrev pub AreGuaranteed : Type 0 → Kind → Type 0
AreGuaranteed T kind =
    (capacity size : ℕ) (start : Start T)
    → IsGuaranteed (promise_of kind) capacity size start (guarantee_of kind capacity size start)

-- ---- what they say of a run

-- The steps that a call has taken are within its guarantee. For one that is obstruction-free these are
-- `alone` steps, and `retry` more for each change of a word that another party has made while the call
-- was under way.
abbrev pub IsWithin : Guarantee → Progress → Type 0
IsWithin (WaitFree most) g = g.steps ≤ most
IsWithin (ObstructionFree alone retry) g = g.steps ≤ alone + g.others * retry

module _ {T : Type 0} where
  -- the party's latest call has taken no more steps than its guarantee allows
  abbrev pub LatestIsWithin : (Start T → Guarantee) → Span T → Option Progress → Type 0
  LatestIsWithin guarantee (Open start wrote) (Some g) = IsWithin (guarantee start) g
  LatestIsWithin guarantee (Ended start answer wrote) (Some g) = IsWithin (guarantee start) g
  LatestIsWithin guarantee span g = Unit {0}

  -- Each party's latest call, under way or done, has taken no more steps than its guarantee allows.
  abbrev pub KeepsGuarantees : Trace T → Type 0
  KeepsGuarantees t =
      (p : ℕ)
      → LatestIsWithin (guarantee_of t.world.kind t.world.capacity t.world.coding.size)
      (span_of p t.events) (progress_in t.world p)

  -- ---- calls that only look

  -- The calls that only look: the lengths of a queue, the peeks, the looks at roles, the load and the version of the
  -- single value, and the looks at a flag and at a count.
  abbrev pub Looks : Flight T → Type 0
  Looks (flights.Queues (queue_flights.Length which run)) = Unit {0}
  Looks (flights.Queues (queue_flights.Role (roles.Look run))) = Unit {0}
  Looks (flights.Queues (queue_flights.Indices (rings.Peek run))) = Unit {0}
  Looks (flights.Queues (queue_flights.Values (rings.Peek run))) = Unit {0}
  Looks (flights.Atomic (atomic_flights.Load run)) = Unit {0}
  Looks (flights.Atomic (atomic_flights.Look run)) = Unit {0}
  Looks (flights.Atomic (atomic_flights.Version run)) = Unit {0}
  Looks (flights.Bits (bits_flights.IsSet run)) = Unit {0}
  Looks (flights.Bits (bits_flights.CountOf run)) = Unit {0}
  Looks flight = ⊥

  -- The operation that the call asks for next leaves the words as they are, whatever they are.
  abbrev pub ChangesNothing : Coding T → Flight T → Type 0
  ChangesNothing code flight =
      (words : List ℕ) → words_after words (ask_of (want_of code flight)) ≡ words
