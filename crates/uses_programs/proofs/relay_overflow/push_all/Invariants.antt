use Rattle.std.proofs.Common.{◌≡◌, ◌<◌, length, take}
use Rattle.lock_free.specs.Queues.Overflowing.{view, queue_of, producer_view, producer_queue}
use Rattle.lock_free.specs.Queues.Merges.{HasPushedUpTo}
use Rattle.uses_programs.proofs.relay_overflow.push_all.Given as given

-- the producer has pushed the numbers before `next`, of which those in `handed_back` came back,
-- if the queue has room
abbrev pub invariant-loop-next : given.invariant-loop-next
invariant-loop-next l =
    (producer_queue l.producer ≡ queue_of l.fn.pass)
    × (l.next-end ≡ length l.numbers)
    × (0 < (queue_of l.fn.pass).capacity → HasPushedUpTo (take l.next l.numbers) l.handed_back.items (view l.fn.pass) (producer_view l.producer))
