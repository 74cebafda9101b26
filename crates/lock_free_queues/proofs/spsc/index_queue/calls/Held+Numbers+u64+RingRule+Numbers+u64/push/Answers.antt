-- `Held::push` (src/spsc/index_queue/calls.rt): its call of `drive` meets the requirements `rule` and `at`, and its return meets the
-- clauses `full`, `published`, `pushed`, `same` and `steps`.
use Rattle.lock_free_queues.proofs.Names.{rules, ◌≡◌, ◌<◌, ◌^◌, ◌⊎◌, false, sym, ap, subst, ◌∙◌, one_word, Index}
use Rattle.lock_free_queues.proofs.Names.{seen, of_indices, At, pushes_index, push_keeps, push_first}
use Rattle.steps.specs.Queues.Ring.{first_push}
use Rattle.model.specs.declared.turn.Kind.TheVariants as kinds
use Rattle.lock_free_queues.proofs.Queues.Facts.{goes_over, aside_over}
use Rattle.lock_free_queues.proofs.Queues.Ended.{Pushes, pushed, published_if, full}
use Rattle.lock_free_queues.proofs.Queues.Indices.{index_push}
use Rattle.lock_free_queues.specs.Queues.Contracts.{HasPushed, WasFull, WasAtEnd}
use Rattle.lock_free_queues.proofs.Queues.Paid.{push_takes}
use Rattle.lock_free_queues.proofs.spsc.index_queue.calls.Held+Numbers+u64+RingRule+Numbers+u64.push.Goals as goal

-- each step of the call keeps the rule of the table (requirement `rule`)
pub drive-end-requires-clause-rule : goal.drive-end-requires-clause-rule
drive-end-requires-clause-rule c base v call m key = push_keeps one_word c.args.value base v call m key.capacity

-- the push is about to begin, as a call that its queue does not refuse to the producer
pub drive-end-requires-clause-at : goal.drive-end-requires-clause-at
drive-end-requires-clause-at c =
    let mine = c.args.self.now in
    let v = seen mine.seated in
    subst (λ call. At one_word kinds.IndexQueue (pushes_index c.args.value) v v call tt)
    (ap first_push mine.known ∙ sym c.new-call.ensures)
    (push_first one_word c.args.value v tt mine.idle mine.alone mine.some.0
    (subst (λ n. n < 2 ^ 32) (sym mine.known) mine.small) c.requires)

-- a push that answers false found the capacity waiting, or was a look at a queue whose last position is reached
pub returns-clause-full : goal.returns-clause-full
returns-clause-full c is =
    let mine = c.args.self.now in
    let v = c.args.value in
    let x = seen mine.seated in
    let w = seen c.drive-end.new.self in
    let push : Pushes one_word of_indices (Index v) (pushes_index v) (seen mine.seated) =
    record { idle = mine.idle; is = index_push v; alone = mine.alone; some = mine.some.0; has = c.requires } in
    subst (λ n. WasFull n (Index v) x w ⊎ WasAtEnd x w) mine.known
    (full push c.drive-end.ensures.end (sym c.answer.ensures ∙ is))

-- a push that answers true published its number right after all that was seen to be published
pub returns-clause-published : goal.returns-clause-published
returns-clause-published c is =
    let mine = c.args.self.now in
    let v = c.args.value in
    let push : Pushes one_word of_indices (Index v) (pushes_index v) (seen mine.seated) =
    record { idle = mine.idle; is = index_push v; alone = mine.alone; some = mine.some.0; has = c.requires } in
    published_if push c.drive-end.ensures.end (sym c.answer.ensures ∙ is)

-- the push is a call of the history with its answer, or it answers false and was a look at a queue
-- whose last position is reached
pub returns-clause-pushed : goal.returns-clause-pushed
returns-clause-pushed c =
    let mine = c.args.self.now in
    let v = c.args.value in
    let x = seen mine.seated in
    let w = seen c.drive-end.new.self in
    let push : Pushes one_word of_indices (Index v) (pushes_index v) (seen mine.seated) =
    record { idle = mine.idle; is = index_push v; alone = mine.alone; some = mine.some.0; has = c.requires } in
    subst (λ b. HasPushed (Index v) b x w ⊎ (b ≡ false) × WasAtEnd x w) (sym c.answer.ensures)
    (pushed push c.drive-end.ensures.end)

-- the seat is of the same queue, its view goes on, and at most one operation was no step of a call
pub returns-clause-same : goal.returns-clause-same
returns-clause-same c =
    record { queue = search rules; goes = goes_over c.drive-end.ensures.end; aside = aside_over c.drive-end.ensures.end }

-- the operations that the call has asked for are within clause `steps`
pub returns-clause-steps : goal.returns-clause-steps
returns-clause-steps c = push_takes c.args.self.now.idle c.drive-end.ensures.end
