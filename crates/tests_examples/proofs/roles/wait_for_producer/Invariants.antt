-- The invariant of the loop of `wait_for_producer` (src/roles.rt).
use Rattle.std.proofs.Common.{◌≡◌}
use Rattle.lock_free.specs.Queues.Calls.{view, queue_of}
use Rattle.lock_free.specs.Queues.Sums.{HasDone}
use Rattle.tests_examples.proofs.roles.wait_for_producer.Given as given

-- A pass that comes back is of the same queue and share, and has pushed and popped nothing.
abbrev pub invariant-loop : given.invariant-loop
invariant-loop g l =
    (queue_of l.waiting ≡ queue_of l.initial.waiting)
    × ((view l.waiting).share ≡ (view l.initial.waiting).share)
    × HasDone 0 0 (view l.initial.waiting) (view l.waiting)
