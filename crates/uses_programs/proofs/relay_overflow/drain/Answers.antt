-- `drain` (src/relay_overflow.rt): the invariant of its loop holds at the start and after each iteration, and its return meets the
-- clause `drained`.
use Rattle.std.proofs.Common.{rules, arith, ap, subst, sym, ◌≡◌, ◌<◌, ◌∙◌, [], ◌∷◌, ◌++◌, append_assoc, append-nil, refl, Some, None}
use Rattle.uses_programs.proofs.Names.{common_steps, option_map, HasPopped}
use Rattle.lock_free.specs.Queues.Item.TheVariants.{Index}
use Rattle.lock_free.specs.Queues.Overflowing.{consumer_view, consumer_queue, QueueId}
use Rattle.lock_free.proofs.Queues.Ends.{oldest_popped}
use Rattle.lock_free.proofs.Queues.TakenOut.{takes_here, takes_one, drained}
use Rattle.uses_programs.proofs.relay_overflow.drain.Goals as goal

pub loop-init : goal.loop-init
loop-init g c = (refl, [], sym (append-nil _), λ some. takes_here _)

-- a pop took a number, which is appended
pub loop-preserved : goal.loop-preserved
loop-preserved g c =
    let items : c.push.new.self.items ≡ c.loop.numbers.items ++ c.in-Some-pop.number ∷ [] = grind (arith, common_steps) in
    let same = ap (λ (q : QueueId). q.capacity) c.loop.invariant.0 in
    let is : c.pop.result ≡ Some c.in-Some-pop.number = first_of (search rules, grind (arith, common_steps)) in (
      search rules,
      c.loop.invariant.1 ++ c.in-Some-pop.number ∷ [],
      items ∙ (ap (λ z. z ++ c.in-Some-pop.number ∷ []) c.loop.invariant.2 ∙ append_assoc _ c.loop.invariant.1 (c.in-Some-pop.number ∷ [])),
      λ some. (let wide : 0 < (consumer_queue c.loop.consumer).capacity = subst (λ n. 0 < n) (sym same) some in
          takes_one _ _ _ _ _ (c.loop.invariant.3 some) (c.pop.ensures.same.goes wide)
          (subst (λ o. HasPopped (option_map Index o) (consumer_view c.loop.consumer) (consumer_view c.pop.new.self))
          is (oldest_popped Index _ _ c.pop.result c.pop.ensures.popped (c.pop.ensures.empty wide)))),
    )

-- the last pop found the queue empty
pub returns-in-None-pop-clause-drained : goal.returns-in-None-pop-clause-drained
returns-in-None-pop-clause-drained g c some =
    let same = ap (λ (q : QueueId). q.capacity) c.loop.invariant.0 in
    let wide : 0 < (consumer_queue c.loop.consumer).capacity = subst (λ n. 0 < n) (sym same) some in
    let is : c.pop.result ≡ None = first_of (search rules, grind (arith, common_steps)) in
    drained _ _ _ c.loop.invariant.1 _ _ _ c.loop.invariant.2 (c.loop.invariant.3 some) (c.pop.ensures.same.goes wide)
    c.history.ensures.history
    (subst (λ o. HasPopped (option_map Index o) (consumer_view c.loop.consumer) (consumer_view c.pop.new.self)) is
    (oldest_popped Index _ _ c.pop.result c.pop.ensures.popped (c.pop.ensures.empty wide)))
