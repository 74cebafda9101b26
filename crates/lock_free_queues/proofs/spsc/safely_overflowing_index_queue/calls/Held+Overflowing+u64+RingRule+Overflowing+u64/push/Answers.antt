-- `Held::push` (src/spsc/safely_overflowing_index_queue/calls.rt): its call of `drive` meets the requirements `rule` and `at`, and its
-- return meets the clauses `same`, `added`, `handed_back`, `steps` and `roles`.
use Rattle.lock_free_queues.proofs.Names.{rules, ◌≡◌, ◌<◌, ◌^◌, ◌⊎◌, IfSome, IfNone, sym, ap, subst, ◌∙◌}
use Rattle.lock_free_queues.proofs.Names.{push_answer, one_word, At}
use Rattle.steps.specs.Queues.Overflow.{first_push}
use Rattle.model.specs.declared.turn.Kind.TheVariants as kinds
use Rattle.history_queues.specs.Overflow.{pushes_over}
use Rattle.history_queues.proofs.OverflowCalls.{over_push_first, over_push_keeps}
use Rattle.lock_free_queues.specs.Queues.Overflowing.{token_view, PushAdded, PushReplaced}
use Rattle.lock_free_queues.specs.Queues.Contracts.{WasAtEnd}
use Rattle.lock_free_queues.proofs.Queues.Facts.{goes_over, aside_over, seen_over}
use Rattle.lock_free_queues.proofs.Queues.OverEnded.{over_pushed, over_none, over_some}
use Rattle.lock_free_queues.proofs.Queues.Sums.{over_push_moves}
use Rattle.lock_free_queues.proofs.Queues.Paid.{over_push_takes}
use Rattle.lock_free_queues.proofs.spsc.safely_overflowing_index_queue.calls.Held+Overflowing+u64+RingRule+Overflowing+u64.push.Goals as goal

-- each step of the call keeps the rule of the table (requirement `rule`)
pub drive-end-requires-clause-rule : goal.drive-end-requires-clause-rule
drive-end-requires-clause-rule c base v call m key = over_push_keeps one_word c.args.value base v call m key.capacity

-- the push is about to begin, as a call that its queue does not refuse to the producer
pub drive-end-requires-clause-at : goal.drive-end-requires-clause-at
drive-end-requires-clause-at c =
    let mine = c.args.self.now in
    let v = token_view mine in
    subst (λ call. At one_word kinds.Overflow (pushes_over c.args.value) v v call (record { 0 = 0 })) (ap first_push mine.known ∙ sym c.new-call.ensures)
    (over_push_first one_word c.args.value v mine.idle mine.alone mine.some.0
    (subst (λ n. 0 < n) (sym mine.known) c.requires.some) (subst (λ n. n < 2 ^ 32) (sym mine.known) mine.small)
    c.requires.role)

-- the seat is of the same queue, its view goes on, and at most one operation was no step of a call
pub returns-clause-same : goal.returns-clause-same
returns-clause-same c =
    record { queue = search rules; goes = goes_over c.drive-end.ensures.end; aside = aside_over c.drive-end.ensures.end }

-- a push that hands nothing back published its number right after all that was seen to be published
pub returns-clause-added : goal.returns-clause-added
returns-clause-added c =
    let mine = c.args.self.now in
    let v = c.args.value in
    let x = token_view mine in
    let w = c.drive-end.new.self.seat.me.0 in
    let o = push_answer v c.drive-end.new.room.0 c.drive-end.result in
    subst (λ z. IfNone z (PushAdded v x w)) (sym c.answer.ensures)
    (over_none one_word x w mine.idle v (seen_over c.drive-end.ensures.end) o
    (over_pushed one_word x w mine.idle v mine.alone mine.some.0 c.requires.role c.drive-end.ensures.end))

-- a push that hands a number back took it out as the oldest, or handed back its own and was a look
-- at a queue whose last position is reached
pub returns-clause-handed_back : goal.returns-clause-handed_back
returns-clause-handed_back c =
    let mine = c.args.self.now in
    let v = c.args.value in
    let x = token_view mine in
    let w = c.drive-end.new.self.seat.me.0 in
    let o = push_answer v c.drive-end.new.room.0 c.drive-end.result in
    subst (λ z. IfSome z (λ y. PushReplaced v y x w ⊎ (y ≡ v) × WasAtEnd x w)) (sym c.answer.ensures)
    (over_some one_word x w mine.idle v (seen_over c.drive-end.ensures.end) o
    (over_pushed one_word x w mine.idle v mine.alone mine.some.0 c.requires.role c.drive-end.ensures.end))

-- the operations that the call has asked for are within clause `steps`
pub returns-clause-steps : goal.returns-clause-steps
returns-clause-steps c = over_push_takes c.args.self.now.idle c.drive-end.ensures.end

-- the push takes no role, and gives none back
pub returns-clause-roles : goal.returns-clause-roles
returns-clause-roles c role =
    let mine = c.args.self.now in
    let v = c.args.value in
    let x = token_view mine in
    let w = c.drive-end.new.self.seat.me.0 in
    over_push_moves x w v (push_answer v c.drive-end.new.room.0 c.drive-end.result)
    (over_pushed one_word x w mine.idle v mine.alone mine.some.0 c.requires.role c.drive-end.ensures.end) role
