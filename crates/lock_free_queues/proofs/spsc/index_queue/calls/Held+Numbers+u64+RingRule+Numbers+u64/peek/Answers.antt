-- `Held::peek` (src/spsc/index_queue/calls.rt): its call of `drive` meets the requirements `rule` and `at`, and its return meets the
-- clauses `peeked`, `roles` and `steps`.
use Rattle.lock_free_queues.proofs.Names.{◌<◌, ◌^◌, sym, ap, subst, ◌∙◌, option_map, one_word}
use Rattle.lock_free_queues.proofs.Names.{IndexQueue, seen, At, peeks_index, peek_keep_all, peek_first}
use Rattle.steps.specs.Queues.Peek.{first_peek}
use Rattle.model.specs.declared.turn.Kind.TheVariants as kinds
use Rattle.lock_free_queues.proofs.Queues.Indices.{index_of, index_peek}
use Rattle.lock_free_queues.proofs.Queues.Peeks.{has_peeked}
use Rattle.lock_free_queues.proofs.Queues.Sums.{peeked_moves}
use Rattle.lock_free_queues.specs.Queues.Contracts.{HasPeeked}
use Rattle.lock_free_queues.proofs.Queues.Paid.{peek_takes}
use Rattle.lock_free_queues.proofs.spsc.index_queue.calls.Held+Numbers+u64+RingRule+Numbers+u64.peek.Goals as goal

-- each step of the call keeps the rule of the table (requirement `rule`)
pub drive-end-requires-clause-rule : goal.drive-end-requires-clause-rule
drive-end-requires-clause-rule c base v call m key = peek_keep_all one_word base v call m key.capacity

-- the peek is about to begin, as a call that its queue does not refuse to the consumer
pub drive-end-requires-clause-at : goal.drive-end-requires-clause-at
drive-end-requires-clause-at c =
    let mine = c.args.self.now in
    let v = seen mine.seated in
    subst (λ call. At one_word kinds.IndexQueue peeks_index v v call (record { 0 = 0 }))
    (ap first_peek mine.known ∙ sym c.new-call.ensures)
    (peek_first one_word v mine.idle mine.alone mine.some.0 (subst (λ n. n < 2 ^ 32) (sym mine.known) mine.small) c.requires)

-- the peek answers the oldest number that waits as it ends, and since all that was seen none was taken out
pub returns-clause-peeked : goal.returns-clause-peeked
returns-clause-peeked c =
    let mine = c.args.self.now in
    let x = seen mine.seated in
    let w = seen c.drive-end.new.self in
    subst (λ z. HasPeeked (option_map index_of z) x w) (sym c.answer.ensures)
    (has_peeked IndexQueue mine.idle tt index_peek c.drive-end.ensures.end)

-- the call moves no role (clause `roles`)
pub returns-clause-roles : goal.returns-clause-roles
returns-clause-roles c r =
    peeked_moves (seen c.args.self.now.seated) (seen c.drive-end.new.self) (option_map index_of c.answer.result) (returns-clause-peeked c) r

-- the operations that the call has asked for are within clause `steps`
pub returns-clause-steps : goal.returns-clause-steps
returns-clause-steps c = peek_takes c.args.self.now.idle c.drive-end.ensures.end
