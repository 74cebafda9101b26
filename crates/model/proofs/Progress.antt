-- Each call of a run has taken no more steps than its guarantee (wait-free or obstruction-free) allows: the
-- table of guarantees is within the promised bounds, which every run keeps.
use Rattle.model.proofs.Names.{IsKept, Kind, Option, Progresses, Promise, QueueKind, QueueStart, Span, Start, Trace}
use Rattle.model.proofs.Names.{arith, promise_of, ℕ, ◌*◌, ◌+◌, ◌-◌, ◌≡◌, ◌≤◌}
use Rattle.model.specs.declared.event.Start.TheVariants as starts
use Rattle.model.specs.declared.families.queues.QueueKind.TheVariants as queue_kinds
use Rattle.model.specs.declared.families.queues.QueueStart.TheVariants as queues
use Rattle.model.specs.declared.party.Progress.{Progress}
use Rattle.model.specs.Families.Atomic.Promises as value_promises
use Rattle.model.specs.Families.Bits.Promises.{bits_promise, counts_promise}
use Rattle.model.specs.Families.Container.Promises as container_promises
use Rattle.model.specs.Families.Loan.Promises as loan_promises
use Rattle.model.specs.Families.Indices.Promises as index_promises
use Rattle.model.specs.Families.Indices.Robust.Promises as robust_promises
use Rattle.model.specs.Families.Queues.Promises as queue_promises
use Rattle.model.specs.Progress.{Guarantee, IsGuaranteed, of_push, of_pop, of_peek, in_queue}
use Rattle.model.specs.Progress.{in_value, in_bits, in_counts, in_indices, in_robust, in_container, in_loan}
use Rattle.model.specs.Progress.{guarantee_of, IsWithin, LatestIsWithin, KeepsGuarantees}
use Rattle.model.specs.Promises.Bounds.{IsBounded}

-- ---- the table

at_most : (n : ℕ) → n ≤ n
at_most = omega arith

-- more changes pay for more retries
paid : (fewer more each : ℕ) → fewer ≤ more → fewer * each ≤ more * each
paid fewer more each le = let rest : more ≡ fewer + (more - fewer) = omega arith in rw rest (spread fewer (more - fewer) each)
  where
    -- A number times `each` is at most a greater number times `each`.
    spread : (a b each : ℕ) → a * each ≤ (a + b) * each
    spread = omega arith

module _ {T : Type 0} where
  abbrev pushing : ℕ → Start T
  pushing index = starts.Queues (queues.PushIndex index)

  abbrev popping : Start T
  popping = starts.Queues queues.Pop

  abbrev peeking : Start T
  peeking = starts.Queues queues.Peek

  -- The bounds that a queue promises of its calls are within the guarantees of the table.
  queue_guaranteed : (kind : QueueKind) (capacity size : ℕ) (start : Start T)
      → IsGuaranteed (queue_promises.promise kind) capacity size start (in_queue size kind start)
  queue_guaranteed kind capacity size (starts.Queues start) = of_call kind start
    where
      -- The promised bound of a push of an index is within its guarantee in each kind of queue.
      push : (kind : QueueKind) (index : ℕ) → IsGuaranteed (queue_promises.promise kind) capacity size (pushing index) (of_push size kind)
      push queue_kinds.IndexQueue index = λ backs. at_most _
      push queue_kinds.Overflow index = λ backs. at_most _
      push queue_kinds.Queue index = λ backs. at_most _

      -- The promised bound of a push of a value is within its guarantee in each kind of queue.
      push_value : (kind : QueueKind) (value : T)
          → IsGuaranteed (queue_promises.promise kind) capacity size (starts.Queues (queues.Push value)) (of_push size kind)
      push_value queue_kinds.IndexQueue value = λ backs. at_most _
      push_value queue_kinds.Overflow value = λ backs. at_most _
      push_value queue_kinds.Queue value = λ backs. at_most _

      -- The promised bound of a pop is within its guarantee in each kind of queue.
      pop : (kind : QueueKind) → IsGuaranteed (queue_promises.promise kind) capacity size popping (of_pop size kind)
      pop queue_kinds.IndexQueue = λ backs. at_most _
      pop queue_kinds.Overflow = λ backs. omega arith
      pop queue_kinds.Queue = λ backs. at_most _

      -- The promised bound of a peek is within its guarantee in each kind of queue.
      peek : (kind : QueueKind) → IsGuaranteed (queue_promises.promise kind) capacity size peeking (of_peek size kind)
      peek queue_kinds.IndexQueue = λ backs. at_most _
      peek queue_kinds.Overflow = λ backs. at_most _
      peek queue_kinds.Queue = λ backs. at_most _

      -- the promised bound of each call of a queue is within the guarantee that the table states for it
      of_call : (kind : QueueKind) (start : QueueStart T)
          → IsGuaranteed (queue_promises.promise kind) capacity size (starts.Queues start) (in_queue size kind (starts.Queues start))
      of_call kind queues.AcquireProducer = λ backs. at_most _
      of_call kind queues.ReleaseProducer = λ backs. at_most _
      of_call kind queues.AcquireConsumer = λ backs. at_most _
      of_call kind queues.ReleaseConsumer = λ backs. at_most _
      of_call kind (queues.PushIndex index) = push kind index
      of_call kind (queues.Push value) = push_value kind value
      of_call kind queues.Pop = pop kind
      of_call kind queues.Peek = peek kind
      of_call kind queues.HasProducer = λ backs. at_most _
      of_call kind queues.HasConsumer = λ backs. at_most _
      of_call kind queues.Len = λ backs. omega arith
      of_call kind queues.IsEmpty = λ backs. omega arith
      of_call kind queues.IsFull = λ backs. omega arith
  queue_guaranteed kind capacity size other = λ backs. at_most _

  value_guaranteed : (capacity size : ℕ) (start : Start T) → IsGuaranteed value_promises.promise capacity size start (in_value size start)
  value_guaranteed = grind (arith, at_most)

  bits_guaranteed : (capacity size : ℕ) (start : Start T) → IsGuaranteed bits_promise capacity size start (in_bits capacity start)
  bits_guaranteed = grind (arith, at_most)

  counts_guaranteed : (capacity size : ℕ) (start : Start T) → IsGuaranteed counts_promise capacity size start (in_counts capacity start)
  counts_guaranteed = grind (arith, at_most)

  index_guaranteed : (capacity size : ℕ) (start : Start T) → IsGuaranteed index_promises.promise capacity size start (in_indices capacity start)
  index_guaranteed = grind (arith, at_most)

  robust_guaranteed : (capacity size : ℕ) (start : Start T) → IsGuaranteed robust_promises.promise capacity size start (in_robust capacity start)
  robust_guaranteed = grind (arith, at_most)

  container_guaranteed : (capacity size : ℕ) (start : Start T) → IsGuaranteed container_promises.promise capacity size start (in_container capacity size start)
  container_guaranteed = grind (arith, at_most)

  loan_guaranteed : (capacity size : ℕ) (start : Start T) → IsGuaranteed loan_promises.promise capacity size start (in_loan capacity start)
  loan_guaranteed = grind (arith, at_most)

-- the table of guarantees agrees with the bounds of each kind's promise
pub guaranteed : {T : Type 0} (kind : Kind) (capacity size : ℕ) (start : Start T)
    → IsGuaranteed (promise_of kind) capacity size start (guarantee_of kind capacity size start)
guaranteed =
    grind (
      arith,
      queue_guaranteed,
      value_guaranteed,
      bits_guaranteed,
      counts_guaranteed,
      index_guaranteed,
      robust_guaranteed,
      container_guaranteed,
      loan_guaranteed,
    )

module _ {T : Type 0} where
  -- ---- every run

  -- A call that is within the promised bound has taken no more steps than its guarantee allows.
  within : (promise : Promise T) (capacity size : ℕ) (start : Start T) (g : Progress) (guarantee : Guarantee)
      → IsGuaranteed promise capacity size start guarantee → IsBounded promise capacity size start g
      → IsWithin guarantee g
  within = grind (arith, paid)

  -- A party's latest call, if it progresses as promised, has taken no more steps than its
  -- guarantee allows.
  latest_within : (promise : Promise T) (capacity size : ℕ) (guarantee : Start T → Guarantee)
      → ((start : Start T) → IsGuaranteed promise capacity size start (guarantee start))
      → (span : Span T) (g : Option Progress) → Progresses promise capacity size span g
      → LatestIsWithin guarantee span g
  latest_within = grind (arith, within)

  pub keeps_guarantees : (t : Trace T) → IsKept t → KeepsGuarantees t
  keeps_guarantees = grind (arith, latest_within, guaranteed)
