-- `pop_waiting` (src/queues/pops.rt): the invariant of its loop holds at the start and after each iteration, and its return meets what
-- it ensures (`Receiving`).
use Rattle.std.proofs.Common.{[], ◌∷◌, Some, None, refl}
use Rattle.lock_free_queues.proofs.Queues.Relays.{receiving_none, receiving_one, receiving_still}
use Rattle.uses_streams.proofs.queues.pops.pop_waiting.Goals as goal

pub loop-init : goal.loop-init
loop-init g c = receiving_none refl

pub loop-preserved : goal.loop-preserved
loop-preserved g c = receiving_still {answer = None} c.loop.invariant c.pop.ensures.same c.in-None-pop.ensures.empty refl

pub returns-in-Some-pop : goal.returns-in-Some-pop
returns-in-Some-pop g c =
    receiving_one {answer = Some c.in-Some-pop.value} [] (c.in-Some-pop.value ∷ []) c.in-Some-pop.value c.loop.invariant c.pop.ensures.same
    c.in-Some-pop.ensures.popped refl refl
