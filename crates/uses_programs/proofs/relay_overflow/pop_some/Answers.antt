-- `pop_some` (src/relay_overflow.rt): the invariant of its loop holds at the start and after each iteration, and its return meets the
-- clause `popped`.
use Rattle.std.proofs.Common.{rules, arith, ap, subst, sym, ◌≡◌, ◌<◌, [], ◌∷◌, ◌++◌, Ok, Some, None}
use Rattle.uses_programs.proofs.Names.{common_steps, IfOk-at_ok, option_map, HasPopped}
use Rattle.lock_free.specs.Queues.Item.TheVariants.{Index}
use Rattle.lock_free.specs.Queues.Overflowing.{view, consumer_view, consumer_queue, QueueId}
use Rattle.lock_free.specs.Queues.Role.TheVariants as roles
use Rattle.lock_free.specs.Queues.Merges.{HasTaken}
use Rattle.lock_free.proofs.Queues.Ends.{oldest_popped}
use Rattle.lock_free.proofs.Queues.TakenOut.{takes_none, takes_one, takes_nothing, takes_all}
use Rattle.uses_programs.proofs.relay_overflow.pop_some.Goals as goal

-- the role was acquired, and nothing was popped yet
pub loop-init : goal.loop-init
loop-init g c =
    let is : c.acquire_consumer.result ≡ Ok c.in-Ok.consumer = first_of (search rules, grind (arith, common_steps)) in
    let told = IfOk-at_ok _ is c.acquire_consumer.ensures.acquired in (
      told.0.queue,
      λ some. subst (λ z. HasTaken z (view c.args.pass) (consumer_view c.in-Ok.consumer))
          (sym c.new-numbers.ensures.items) (takes_none roles.Consumer _ _ told.0.goes told.1),
    )

-- a pop took a number, which is appended
pub loop-preserved : goal.loop-preserved
loop-preserved g c =
    let items : c.push.new.self.items ≡ c.loop.numbers.items ++ c.in-Some.number ∷ [] = grind (arith, common_steps) in
    let same = ap (λ (q : QueueId). q.capacity) c.loop.invariant.0 in
    let is : c.pop.result ≡ Some c.in-Some.number = first_of (search rules, grind (arith, common_steps)) in (
      search rules,
      λ some. (let wide : 0 < (consumer_queue c.loop.consumer).capacity = subst (λ n. 0 < n) (sym same) some in
          subst (λ z. HasTaken z (view c.args.pass) (consumer_view c.pop.new.self)) (sym items)
          (takes_one c.loop.numbers.items c.in-Some.number (view c.args.pass) (consumer_view c.loop.consumer)
          (consumer_view c.pop.new.self) (c.loop.invariant.1 some) (c.pop.ensures.same.goes wide)
          (subst (λ o. HasPopped (option_map Index o) (consumer_view c.loop.consumer) (consumer_view c.pop.new.self))
          is (oldest_popped Index _ _ c.pop.result c.pop.ensures.popped (c.pop.ensures.empty wide))))),
    )

-- a pop found nothing
pub loop-preserved-in-None : goal.loop-preserved-in-None
loop-preserved-in-None g c =
    let same = ap (λ (q : QueueId). q.capacity) c.loop.invariant.0 in
    let is : c.pop.result ≡ None = first_of (search rules, grind (arith, common_steps)) in (
      search rules,
      λ some. (let wide : 0 < (consumer_queue c.loop.consumer).capacity = subst (λ n. 0 < n) (sym same) some in
          takes_nothing c.loop.numbers.items (view c.args.pass) (consumer_view c.loop.consumer)
          (consumer_view c.pop.new.self) (c.loop.invariant.1 some) (c.pop.ensures.same.goes wide)
          (subst (λ o. HasPopped (option_map Index o) (consumer_view c.loop.consumer) (consumer_view c.pop.new.self))
          is (oldest_popped Index _ _ c.pop.result c.pop.ensures.popped (c.pop.ensures.empty wide)))),
    )

pub returns-clause-popped : goal.returns-clause-popped
returns-clause-popped g c some =
    takes_all c.loop.numbers.items roles.Consumer (view c.args.pass) (consumer_view c.loop.consumer) _
    (c.loop.invariant.1 some) c.release-pass.ensures.same.goes c.release-pass.ensures.released
