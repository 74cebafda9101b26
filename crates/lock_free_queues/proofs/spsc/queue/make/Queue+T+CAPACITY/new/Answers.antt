-- `Queue::new` (src/spsc/queue/make.rt): its return meets the clause `pass`.
use Rattle.lock_free_queues.proofs.Names.{◌≡◌, true, IfOk, replicate, subst, Truth, Value}
use Rattle.lock_free_queues.specs.Queues.Values.{inner, IsPassOf, view}
use Rattle.lock_free_queues.proofs.Queues.Opened.{opens_at_first}
use Rattle.lock_free_queues.proofs.spsc.queue.make.Queue+T+CAPACITY.new.Goals as goal

pub returns-clause-pass : goal.returns-clause-pass
returns-clause-pass g c =
    subst (λ v. IfOk c.new_at.result (λ r. IsPassOf (inner r.0) r.1 × (view r.1 ≡ v)))
    (opens_at_first g.T.Words.WORDS (Truth true) (Value (g.T.Words.value_of (replicate g.T.Words.WORDS 0))) g.row.CAPACITY)
    c.new_at.ensures.pass
