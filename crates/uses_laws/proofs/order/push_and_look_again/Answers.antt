-- `push_and_look_again` (src/order.rt): its return meets what it ensures (`LooksAgree`).
use Rattle.std.proofs.Common.{◌≡◌, ap, subst}
use Rattle.model.specs.declared.families.queues.QueueKind.TheVariants.{IndexQueue}
use Rattle.model.specs.Linearized.{as_list}
use Rattle.model.specs.StronglyLinearizable.{IsLinearizedBy}
use Rattle.lock_free.specs.Coding.{one_word}
use Rattle.lock_free.specs.Queues.Calls.{QueueId, producer_queue, producer_view, HasHistory}
use Rattle.uses_laws.proofs.order.push_and_look_again.Goals as goal

-- the order after the push is the order before it with further calls at its end
pub returns : goal.returns
returns c =
    let start = c.args.producer.now in
    let old = producer_view start in
    let new = producer_view c.push-taken.new.self in
    let capacity = (producer_queue start).capacity in
    let size : (producer_queue c.push-taken.new.self).capacity ≡ capacity =
    ap (λ (z : QueueId). z.capacity) c.push-taken.ensures.same.queue in
    let before : HasHistory capacity old = c.history.ensures.history in
    let after : HasHistory capacity new = subst (λ n. HasHistory n new) size c.history-2.ensures.history in
    let law = c.histories_are_strongly_linearizable.ensures in
    let all = law.strong one_word IndexQueue capacity in
    let grown = law.agree one_word IndexQueue capacity all old new c.push-taken.ensures.same.goes.since in
    record {
      past = all.order old.seen;
      added = grown.0;
      first = all.each old.seen before;
      second = subst (λ order. IsLinearizedBy (as_list IndexQueue capacity) order new.seen) grown.1 (all.each new.seen after);
    }
