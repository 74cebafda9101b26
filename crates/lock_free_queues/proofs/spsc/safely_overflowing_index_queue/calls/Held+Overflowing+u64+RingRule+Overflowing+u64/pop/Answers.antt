-- `Held::pop` (src/spsc/safely_overflowing_index_queue/calls.rt): its call of `drive_on` meets the requirements `rule` and `at`, and its
-- return meets the clauses `popped`, `empty` and `steps`.
use Rattle.lock_free_queues.proofs.Names.{◌<◌, ◌^◌, IfSome, IfNone, sym, ap, subst, ◌∙◌, one_word, Index}
use Rattle.lock_free_queues.proofs.Names.{pops_over, At}
use Rattle.steps.specs.Queues.Overflow.{first_pop, pop_answer}
use Rattle.model.specs.declared.turn.Kind.TheVariants as kinds
use Rattle.history_queues.proofs.OverflowPops.{over_pop_keeps, over_pop_first}
use Rattle.lock_free_queues.specs.Queues.Overflowing.{token_view}
use Rattle.lock_free_queues.specs.Queues.Contracts.{PopOldest, PopFoundNone}
use Rattle.lock_free_queues.proofs.Queues.OverEnded.{over_popped, over_taken_if, over_empty_if}
use Rattle.lock_free_queues.proofs.Queues.Paid.{over_pop_takes}
use Rattle.lock_free_queues.proofs.spsc.safely_overflowing_index_queue.calls.Held+Overflowing+u64+RingRule+Overflowing+u64.pop.Goals as goal

-- each step of the call keeps the rule of the table (requirement `rule`)
pub drive_on-end-requires-clause-rule : goal.drive_on-end-requires-clause-rule
drive_on-end-requires-clause-rule g c base v call m key = over_pop_keeps one_word base v call m key.capacity

-- the pop is about to begin, as a call that its queue does not refuse to the consumer
pub drive_on-end-requires-clause-at : goal.drive_on-end-requires-clause-at
drive_on-end-requires-clause-at g c =
    let mine = c.args.self.now in
    let v = token_view mine in
    subst (λ call. At one_word kinds.Overflow pops_over v v call (record { 0 = 0 })) (ap first_pop mine.known ∙ sym c.new-call.ensures)
    (over_pop_first one_word v mine.idle mine.alone mine.some.0
    (subst (λ n. 0 < n) (sym mine.known) c.requires.some) (subst (λ n. n < 2 ^ 32) (sym mine.known) mine.small)
    c.requires.role)

-- a pop that answers a number took it out as the oldest that waited
pub returns-clause-popped : goal.returns-clause-popped
returns-clause-popped g c =
    let mine = c.args.self.now in
    let x = token_view mine in
    let w = c.drive_on-end.new.self.seat.me.0 in
    let ends = c.drive_on-end.ensures.end in
    let o = pop_answer c.drive_on-end.new.room.0 c.drive_on-end.result in
    subst (λ z. IfSome z (λ k. PopOldest (Index k) x w)) (sym c.answer.ensures)
    (over_taken_if one_word x w ends.history o (over_popped one_word x w mine.idle c.drive_on-end.result c.drive_on-end.new.room ends))

-- a pop that answers None found nothing waiting
pub returns-clause-empty : goal.returns-clause-empty
returns-clause-empty g c =
    let mine = c.args.self.now in
    let x = token_view mine in
    let w = c.drive_on-end.new.self.seat.me.0 in
    let ends = c.drive_on-end.ensures.end in
    let o = pop_answer c.drive_on-end.new.room.0 c.drive_on-end.result in
    subst (λ z. IfNone z (PopFoundNone x w)) (sym c.answer.ensures)
    (over_empty_if one_word x w ends.history o (over_popped one_word x w mine.idle c.drive_on-end.result c.drive_on-end.new.room ends))

-- the pop takes at most four operations, and two more for each change of a word that others make meanwhile
pub returns-clause-steps : goal.returns-clause-steps
returns-clause-steps g c = over_pop_takes c.args.self.now.idle c.drive_on-end.ensures.end
