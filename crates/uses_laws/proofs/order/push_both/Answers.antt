-- `push_both` (src/order.rt): its return meets what it ensures (`PushedInOrder`).
use Rattle.std.proofs.Common.{◌≡◌, true, [], sym, ap, subst, ◌∙◌, append-nil}
use Rattle.model.specs.declared.event.Answer.TheVariants.{Truth}
use Rattle.model.specs.declared.event.Start.TheVariants.{Queues}
use Rattle.model.specs.declared.families.queues.QueueKind.TheVariants.{IndexQueue}
use Rattle.model.specs.declared.families.queues.QueueStart.TheVariants.{PushIndex}
use Rattle.lock_free.specs.Coding.{one_word}
use Rattle.lock_free.specs.Queues.Calls.{QueueId, producer_queue, producer_view, HasHistory}
use Rattle.lock_free.specs.Queues.Item.TheVariants.{Index}
use Rattle.lock_free.specs.Queues.Contracts.{HasPushed, push_events}
use Rattle.uses_laws.proofs.Linear.{pushed_in_order}
use Rattle.uses_laws.proofs.order.push_both.Goals as goal

-- in a linearization of all calls the first push stands before the second, where both were taken
pub returns : goal.returns
returns c both =
    let first = c.args.first in
    let second = c.args.second in
    let start = c.args.producer.now in
    let old = producer_view start in
    let between = producer_view c.push.new.self in
    let new = producer_view c.push-taken.new.self in
    let one : HasPushed (Index first) true old between = (c.push.ensures.pushed c.if-not-push.false).0 in
    let two : HasPushed (Index second) true between new = (c.push-taken.ensures.pushed both).0 in
    let x =
    c.calls_stand.ensures one.by (Queues (PushIndex first)) (Truth true) (push_events one.by (Index first) true) old between one.called tt
    new.seen c.push-taken.ensures.same.goes.since in
    let y =
    c.calls_stand.ensures two.by (Queues (PushIndex second)) (Truth true) (push_events two.by (Index second) true) between new two.called tt
    new.seen (record { rest = []; is = sym (append-nil new.seen) }) in
    let before =
    c.calls_are_in_order.ensures one.by two.by (Queues (PushIndex first)) (Queues (PushIndex second)) (Truth true) (Truth true)
    old between between new new.seen x y (record { rest = []; is = sym (append-nil between.seen) }) in
    let size : (producer_queue c.push-taken.new.self).capacity ≡ (producer_queue start).capacity =
    ap (λ (z : QueueId). z.capacity) (c.push-taken.ensures.same.queue ∙ c.push.ensures.same.queue) in
    let history : HasHistory (producer_queue start).capacity new = subst (λ n. HasHistory n new) size c.history.ensures.history in
    let order = c.histories_are_linearizable.ensures one_word IndexQueue (producer_queue start).capacity new history in
    pushed_in_order (producer_queue start).capacity first second one.by two.by old between new new.seen order x y before
