-- `Held::pop` (src/spsc/index_queue/calls.rt): its call of `drive` meets the requirements `rule` and `at`, and its return meets the
-- clauses `popped`, `empty`, `taken` and `steps`.
use Rattle.lock_free_queues.proofs.Names.{◌<◌, ◌^◌, IfSome, IfNone, sym, ap, subst, ◌∙◌, option_map, one_word, Index}
use Rattle.lock_free_queues.proofs.Names.{IndexQueue, seen, of_indices, At, pops_index, pop_keep_all, pop_first}
use Rattle.steps.specs.Queues.Ring.{first_pop, pop_answer}
use Rattle.model.specs.declared.turn.Kind.TheVariants as kinds
use Rattle.lock_free_queues.proofs.Queues.Ended.{has_popped, taken_if, empty_if}
use Rattle.lock_free_queues.proofs.Queues.Indices.{index_of, index_pop}
use Rattle.lock_free_queues.specs.Queues.Contracts.{HasPopped, HasTakenOut, WasEmpty}
use Rattle.lock_free_queues.proofs.Queues.Paid.{pop_takes}
use Rattle.lock_free_queues.proofs.spsc.index_queue.calls.Held+Numbers+u64+RingRule+Numbers+u64.pop.Goals as goal

-- each step of the call keeps the rule of the table (requirement `rule`)
pub drive-end-requires-clause-rule : goal.drive-end-requires-clause-rule
drive-end-requires-clause-rule c base v call m key = pop_keep_all one_word base v call m key.capacity

-- the pop is about to begin, as a call that its queue does not refuse to the consumer
pub drive-end-requires-clause-at : goal.drive-end-requires-clause-at
drive-end-requires-clause-at c =
    let mine = c.args.self.now in
    let v = seen mine.seated in
    subst (λ call. At one_word kinds.IndexQueue pops_index v v call (record { 0 = 0 }))
    (ap first_pop mine.known ∙ sym c.new-call.ensures)
    (pop_first one_word v mine.idle mine.alone mine.some.0 (subst (λ n. n < 2 ^ 32) (sym mine.known) mine.small) c.requires)

-- the pop is a call of the history, which took out the number that it answers
pub returns-clause-popped : goal.returns-clause-popped
returns-clause-popped c =
    let mine = c.args.self.now in
    let x = seen mine.seated in
    let w = seen c.drive-end.new.self in
    subst (λ z. HasPopped (option_map index_of z) x w) (sym c.answer.ensures)
    (has_popped IndexQueue mine.idle index_pop c.drive-end.ensures.end)

-- a pop that answers None found nothing waiting
pub returns-clause-empty : goal.returns-clause-empty
returns-clause-empty c =
    let mine = c.args.self.now in
    let x = seen mine.seated in
    let w = seen c.drive-end.new.self in
    let ends = c.drive-end.ensures.end in
    let o = pop_answer c.drive-end.new.room.0 c.drive-end.result in
    subst (λ z. IfNone z (WasEmpty x w)) (sym c.answer.ensures)
    (empty_if one_word of_indices index_of x.capacity x w ends.history o
    (has_popped IndexQueue mine.idle index_pop ends))

-- a pop that answers a number took it out right after all that was seen to be taken out
pub returns-clause-taken : goal.returns-clause-taken
returns-clause-taken c =
    let mine = c.args.self.now in
    let x = seen mine.seated in
    let w = seen c.drive-end.new.self in
    let ends = c.drive-end.ensures.end in
    let o = pop_answer c.drive-end.new.room.0 c.drive-end.result in
    subst (λ z. IfSome z (λ k. HasTakenOut (Index k) x w)) (sym c.answer.ensures)
    (taken_if one_word of_indices index_of x.capacity x w ends.history o
    (has_popped IndexQueue mine.idle index_pop ends))

-- the operations that the call has asked for are within clause `steps`
pub returns-clause-steps : goal.returns-clause-steps
returns-clause-steps c = pop_takes c.args.self.now.idle c.drive-end.ensures.end
