-- `store_both` (src/order.rt): its return meets what it ensures (`StoredInOrder`).
use Rattle.std.proofs.Common.{true, [], ◌∷◌, sym, append-nil}
use Rattle.model.specs.declared.event.Answer.TheVariants.{Truth}
use Rattle.model.specs.declared.event.Event.TheVariants.{Acted}
use Rattle.model.specs.declared.event.Start.TheVariants.{Atomic}
use Rattle.model.specs.declared.families.atomic.AtomicStart.TheVariants.{Store}
use Rattle.lock_free.specs.Coding.{one_word}
use Rattle.lock_free.specs.Value.Calls.{producer_view, HasHistory}
use Rattle.lock_free.specs.Value.Contracts.{HasStored}
use Rattle.uses_laws.proofs.Linear.{stored_in_order}
use Rattle.uses_laws.proofs.order.store_both.Goals as goal

-- in a linearization of all stores and loads the first store stands before the second, where both were taken
pub returns : goal.returns
returns c both =
    let first = c.args.first in
    let second = c.args.second in
    let old = producer_view c.args.producer.now in
    let between = producer_view c.store.new.self in
    let new = producer_view c.store-stored.new.self in
    let one : HasStored first old between = c.store.ensures.stored c.if-not-store.false in
    let two : HasStored second between new = c.store-stored.ensures.stored both in
    let x =
    c.calls_stand.ensures one.by (Atomic (Store first)) (Truth true) (Acted one.by (Atomic (Store first)) (Truth true) ∷ []) old between one.called tt
    new.seen c.store-stored.ensures.same.goes.since in
    let y =
    c.calls_stand.ensures two.by (Atomic (Store second)) (Truth true) (Acted two.by (Atomic (Store second)) (Truth true) ∷ []) between new two.called tt
    new.seen (record { rest = []; is = sym (append-nil new.seen) }) in
    let before =
    c.calls_are_in_order.ensures one.by two.by (Atomic (Store first)) (Atomic (Store second)) (Truth true) (Truth true)
    old between between new new.seen x y (record { rest = []; is = sym (append-nil between.seen) }) in
    let history : HasHistory one_word new = c.history.ensures.history in
    let order = c.histories_are_linearizable.ensures one_word new.seen history in
    stored_in_order first second one.by two.by old between new new.seen order x y before
