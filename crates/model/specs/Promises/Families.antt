-- What the structure of each kind promises: one line a kind, which passes on to the files of its family.
use Rattle.model.specs.declared.families.queues.QueueKind.TheVariants as queue_kinds
use Rattle.model.specs.declared.turn.Kind.{Kind}
use Rattle.model.specs.declared.turn.Kind.TheVariants.{IndexQueue, Overflow, Queue, Atomic, Bits, Counts, Indices, Robust, Container, Loan}
use Rattle.model.specs.Families.Atomic.Promises as atomic
use Rattle.model.specs.Families.Bits.Promises as bits
use Rattle.model.specs.Families.Container.Promises as container
use Rattle.model.specs.Families.Indices.Promises as indices
use Rattle.model.specs.Families.Indices.Robust.Promises as robust
use Rattle.model.specs.Families.Loan.Promises as loan
use Rattle.model.specs.Families.Queues.Promises as queues
use Rattle.model.specs.Promise.{Promise}

-- what the structure of each kind promises
abbrev pub promise_of : {T : Type 0} → Kind → Promise T
promise_of IndexQueue = queues.promise queue_kinds.IndexQueue
promise_of Overflow = queues.promise queue_kinds.Overflow
promise_of Queue = queues.promise queue_kinds.Queue
promise_of Atomic = atomic.promise
promise_of Bits = bits.bits_promise
promise_of Counts = bits.counts_promise
promise_of Indices = indices.promise
promise_of Robust = robust.promise
promise_of Container = container.promise
promise_of Loan = loan.promise
