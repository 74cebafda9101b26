-- `join_load` (src/ending.rt): its return meets what it ensures (`StepsAreWithinLoad`).
use Rattle.std.proofs.Common.{◌≡◌, ◌≤◌, ℕ, ◌*◌, ap, length, subst, arith}
use Rattle.model.specs.declared.turn.Kind.TheVariants.{IndexQueue}
use Rattle.model.specs.Loads.{begun, load}
use Rattle.model.specs.LockFree.{steps_in, stretch}
use Rattle.model.specs.World.{opening}
use Rattle.lock_free.specs.Coding.{one_word}
use Rattle.lock_free.specs.History.{Knows}
use Rattle.lock_free.specs.Queues.Calls.{QueueId, queue_of, view}
use Rattle.uses_laws.proofs.ending.join_load.Goals as goal

-- all steps that threads took at the queue are bounded by how many of their calls have begun
pub returns : goal.returns
returns c parties are =
    let new = view c.join.new.self in
    let capacity = (queue_of c.args.pass.now).capacity in
    let size : (queue_of c.join.new.self).capacity ≡ capacity = ap (λ (z : QueueId). z.capacity) c.join.ensures.same.queue in
    let knows : Knows one_word IndexQueue capacity new = subst (λ m. Knows one_word IndexQueue m new) size c.history.ensures.run in
    let steps : ℕ = steps_in (opening one_word IndexQueue capacity 0) new.turns in
    let n = length parties in
    let five : stretch n 0 5 ≡ 5 * n = omega arith in
    let act = c.actors_are_seen.ensures.all one_word IndexQueue capacity new knows parties are in
    let within : steps ≤ load (stretch n 0 5) (begun new.seen) =
    c.passes_end_loads.ensures.known IndexQueue one_word capacity new knows parties act in
    let few : steps ≤ load (5 * n) (begun new.seen) = subst (λ b. steps ≤ load b (begun new.seen)) five within in
    omega (few, arith)
