-- `IndexQueue::close` (src/spsc/index_queue/close.rt): its call of `of_words` meets what that requires, and its return meets the clauses
-- `list` and `waits`.
use Rattle.lock_free_queues.proofs.Names.{refl, sym, subst, Index, IndexQueue}
use Rattle.lock_free_queues.specs.Queues.Calls.{view}
use Rattle.lock_free_queues.specs.Queues.Closes.{Closes, IsWhatWaits}
use Rattle.lock_free_queues.proofs.Queues.Closes.{fits, closes, what_waits, as_stood}
use Rattle.lock_free_queues.proofs.Queues.Indices.{is_coding}
use Rattle.lock_free_queues.proofs.spsc.index_queue.close.IndexQueue.close.Goals as goal

pub of_words-requires : goal.of_words-requires
of_words-requires c = fits is_coding IndexQueue c.in_ok-words.ensures.words.last refl

-- each number that was seen to be published waits in the list at its place or lies before it, and
-- with the whole share the list has just what waits
pub returns-clause-list : goal.returns-clause-list
returns-clause-list c =
    let v = view c.args.pass in
    let size = c.args.self.capacity in
    subst (Closes Index size v) (sym c.of_words.ensures)
    (closes is_coding IndexQueue c.in_ok-words.ensures.words.last)

-- the list is what waited at one moment of the call
pub returns-clause-waits : goal.returns-clause-waits
returns-clause-waits c =
    let read = c.in_ok-words.ensures.words in
    let size = c.args.self.capacity in
    subst (IsWhatWaits Index c.args.pass) (sym c.of_words.ensures)
    (what_waits is_coding IndexQueue read.last c.args.pass
    (as_stood c.args.pass size c.in_ok-words.words.items read) refl read.queue read.view)
