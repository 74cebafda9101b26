-- `join_both` (src/ending.rt): its return meets what it ensures (`StepsAreWithinEnds`).
use Rattle.std.proofs.Common.{◌≡◌, ℕ, ◌*◌, ap, length, subst, arith}
use Rattle.model.specs.declared.turn.Kind.TheVariants.{IndexQueue}
use Rattle.model.specs.LockFree.{AreWithinEnds, ends, steps_in, stretch}
use Rattle.model.specs.World.{opening}
use Rattle.lock_free.specs.History.{Knows}
use Rattle.lock_free.specs.Coding.{one_word}
use Rattle.lock_free.specs.Queues.Calls.{QueueId, queue_of, view}
use Rattle.uses_laws.proofs.ending.join_both.Goals as goal

-- all steps that threads took at the queue are bounded by how many of their calls have ended
pub returns : goal.returns
returns c parties are =
    let new = view c.join.new.self in
    let capacity = (queue_of c.args.pass.now).capacity in
    let size : (queue_of c.join.new.self).capacity ≡ capacity = ap (λ (z : QueueId). z.capacity) c.join.ensures.same.queue in
    let knows : Knows one_word IndexQueue capacity new = subst (λ m. Knows one_word IndexQueue m new) size c.history.ensures.run in
    let steps : ℕ = steps_in (opening one_word IndexQueue capacity 0) new.turns in
    let n = length parties in
    let five : stretch n 0 5 ≡ 5 * n = omega arith in
    let act = c.actors_are_seen.ensures.all one_word IndexQueue capacity new knows parties are in
    let within : AreWithinEnds (stretch n 0 5) steps 0 (ends new.seen) =
    c.passes_keep_ending.ensures.known IndexQueue one_word capacity new knows parties act in
    let few : AreWithinEnds (5 * n) steps 0 (ends new.seen) = subst (λ b. AreWithinEnds b steps 0 (ends new.seen)) five within in
    omega (few, arith)
