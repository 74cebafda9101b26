-- `Held::push` (src/spsc/queue/calls.rt): its call of `drive` meets the requirements `rule` and `at`, and its return meets the clauses
-- `full`, `published`, `pushed`, `same` and `steps`.
use Rattle.lock_free_queues.proofs.Names.{rules, ◌≡◌, ◌<◌, ◌^◌, ◌⊎◌, false, sym, ap, subst, ◌∙◌, Coding, IsCoding}
use Rattle.lock_free_queues.proofs.Names.{coding_by, Value, of_values, At, pushes_value, value_push_keeps}
use Rattle.lock_free_queues.proofs.Names.{value_push_first}
use Rattle.steps.specs.Queues.Ring.{first_push}
use Rattle.model.specs.declared.turn.Kind.TheVariants as kinds
use Rattle.lock_free_queues.specs.Queues.Values.{token_view}
use Rattle.lock_free_queues.specs.Queues.Contracts.{HasPushed, WasFull, WasAtEnd}
use Rattle.lock_free_queues.proofs.Queues.Ended.{Pushes, pushed, published_if, full}
use Rattle.lock_free_queues.proofs.Queues.Facts.{goes_over, aside_over}
use Rattle.lock_free_queues.proofs.Queues.Values.{value_push}
use Rattle.lock_free_queues.proofs.Queues.Paid.{value_push_takes}
use Rattle.lock_free_queues.proofs.spsc.queue.calls.Held+Values+T+RingRule+Values+T.push.Goals as goal

-- each step of the push keeps the rule of the table, and tells what is known after it
pub drive-end-requires-clause-rule : goal.drive-end-requires-clause-rule
drive-end-requires-clause-rule g c base v call m key =
    let met = g.met.T.Words in
    let code : Coding g.row.T.Denot = coding_by g.T.Words in
    let law : IsCoding code = record { some = met.some; few = met.few; sized = met.sized; given_back = met.given_back } in
    value_push_keeps code law c.args.value.now base v call m key.capacity

-- the push is about to begin, as a call that its queue does not refuse to the producer
pub drive-end-requires-clause-at : goal.drive-end-requires-clause-at
drive-end-requires-clause-at g c =
    let mine = c.args.self.now in
    let v = token_view mine in
    let met = g.met.T.Words in
    let code : Coding g.row.T.Denot = coding_by g.T.Words in
    let law : IsCoding code = record { some = met.some; few = met.few; sized = met.sized; given_back = met.given_back } in
    let x = c.args.value.now in
    subst (λ call. At code kinds.Queue (pushes_value code x) v v call tt)
    (ap first_push mine.known ∙ sym c.new-call.ensures)
    (value_push_first code law x v tt mine.idle mine.alone mine.some.0 (subst (λ n. n < 2 ^ 32) (sym mine.known) mine.small) c.requires)

-- a push that answers false found the capacity waiting, or was a look at a queue whose last position is reached
pub returns-clause-full : goal.returns-clause-full
returns-clause-full g c is =
    let mine = c.args.self.now in
    let code : Coding g.row.T.Denot = coding_by g.T.Words in
    let v = c.args.value.now in
    let x = token_view mine in
    let w = c.drive-end.new.self.seat.me.0 in
    let push : Pushes code of_values (Value v) (pushes_value code v) (token_view mine) =
    record { idle = mine.idle; is = value_push code v; alone = mine.alone; some = mine.some.0; has = c.requires } in
    subst (λ n. WasFull n (Value v) x w ⊎ WasAtEnd x w) mine.known
    (full push c.drive-end.ensures.end (sym c.answer.ensures ∙ is))

-- a push that answers true published its value right after all that was seen to be published
pub returns-clause-published : goal.returns-clause-published
returns-clause-published g c is =
    let mine = c.args.self.now in
    let code : Coding g.row.T.Denot = coding_by g.T.Words in
    let v = c.args.value.now in
    let push : Pushes code of_values (Value v) (pushes_value code v) (token_view mine) =
    record { idle = mine.idle; is = value_push code v; alone = mine.alone; some = mine.some.0; has = c.requires } in
    published_if push c.drive-end.ensures.end (sym c.answer.ensures ∙ is)

-- the push is a call of the history with its answer, or it answers false and was a look at a queue
-- whose last position is reached
pub returns-clause-pushed : goal.returns-clause-pushed
returns-clause-pushed g c =
    let mine = c.args.self.now in
    let code : Coding g.row.T.Denot = coding_by g.T.Words in
    let v = c.args.value.now in
    let x = token_view mine in
    let w = c.drive-end.new.self.seat.me.0 in
    let push : Pushes code of_values (Value v) (pushes_value code v) (token_view mine) =
    record { idle = mine.idle; is = value_push code v; alone = mine.alone; some = mine.some.0; has = c.requires } in
    subst (λ b. HasPushed (Value v) b x w ⊎ (b ≡ false) × WasAtEnd x w) (sym c.answer.ensures)
    (pushed push c.drive-end.ensures.end)

-- the seat is of the same queue, its view goes on, and at most one operation was no step of a call
pub returns-clause-same : goal.returns-clause-same
returns-clause-same g c =
    record { queue = search rules; goes = goes_over c.drive-end.ensures.end; aside = aside_over c.drive-end.ensures.end }

-- the operations that the call has asked for are within clause `steps`
pub returns-clause-steps : goal.returns-clause-steps
returns-clause-steps g c = value_push_takes c.args.self.now.idle c.drive-end.ensures.end
