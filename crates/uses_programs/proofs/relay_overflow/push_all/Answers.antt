-- `push_all` (src/relay_overflow.rt): the invariant of its loop holds at the start and after each iteration, and its return meets the
-- clause `pushed`.
use Rattle.std.proofs.Common.{rules, arith, subst, sym, refl, ap, ◌≡◌, ◌+◌, ◌<◌, [], ◌∷◌, ◌++◌, take, Ok}
use Rattle.uses_programs.proofs.Names.{common_steps, IfOk-at_ok}
use Rattle.lock_free.specs.Queues.Overflowing.{view, producer_view, producer_queue, QueueId}
use Rattle.lock_free.specs.Queues.Role.TheVariants as roles
use Rattle.lock_free.specs.Queues.Merges.{HasPushedUpTo}
use Rattle.lock_free.proofs.Queues.TakenOut.{pushed_none, pushes_next, returns_next, pushed_all}
use Rattle.uses_programs.proofs.relay_overflow.push_all.Goals as goal

-- the role was acquired, and nothing was pushed yet
pub loop-next-init : goal.loop-next-init
loop-next-init c =
    let is : c.acquire_producer.result ≡ Ok c.in-Ok.producer = first_of (search rules, grind (arith, common_steps)) in
    let told = IfOk-at_ok _ is c.acquire_producer.ensures.acquired in (
      told.0.queue,
      refl,
      λ some. subst (λ z. HasPushedUpTo [] z (view c.args.pass) (producer_view c.in-Ok.producer))
          (sym c.new-handed_back.ensures.items) (pushed_none c.args.numbers.now roles.Producer _ _ told.0.goes told.1),
    )

-- the push of the number at `next` handed a number back, which is appended
pub loop-next-preserved : goal.loop-next-preserved
loop-next-preserved c =
    let items : c.push-in-Some.new.self.items ≡ c.loop-next.handed_back.items ++ c.in-Some.back ∷ [] = grind (arith, common_steps) in
    let same = ap (λ (q : QueueId). q.capacity) c.loop-next.invariant.0 in (
      search rules,
      search rules,
      λ some. (let wide : 0 < (producer_queue c.loop-next.producer).capacity = subst (λ n. 0 < n) (sym same) some in
          subst (λ z. HasPushedUpTo (take (c.loop-next.next + 1) c.args.numbers.now) z (view c.args.pass) (producer_view c.push.new.self)) (sym items)
          (returns_next _ wide c.args.numbers.now c.loop-next.next _ c.loop-next.handed_back.items
          (view c.args.pass) (producer_view c.loop-next.producer) (producer_view c.push.new.self) (search rules)
          refl (c.loop-next.invariant.2 some) (c.push.ensures.same.goes wide) c.in-Some.back
          c.in-Some.ensures.handed_back)),
    )

-- the push of the number at `next` handed nothing back
pub loop-next-preserved-in-None : goal.loop-next-preserved-in-None
loop-next-preserved-in-None c =
    let same = ap (λ (q : QueueId). q.capacity) c.loop-next.invariant.0 in (
      search rules,
      search rules,
      λ some. (let wide : 0 < (producer_queue c.loop-next.producer).capacity = subst (λ n. 0 < n) (sym same) some in
          pushes_next _ wide c.args.numbers.now c.loop-next.next _ c.loop-next.handed_back.items (view c.args.pass)
          (producer_view c.loop-next.producer) (producer_view c.push.new.self) (search rules) refl
          (c.loop-next.invariant.2 some) (c.push.ensures.same.goes wide) c.in-None.ensures.added),
    )

-- all numbers were pushed once the role is released
pub returns-clause-pushed : goal.returns-clause-pushed
returns-clause-pushed c some =
    pushed_all c.args.numbers.now c.loop-next.next _ roles.Producer (view c.args.pass)
    (producer_view c.loop-next.producer) _
    (let e = c.loop-next.invariant.1 in let past = c.loop-next-test.false in omega arith)
    (c.loop-next.invariant.2 some) c.release-pass.ensures.same.goes c.release-pass.ensures.released
    c.release-pass.ensures.list
