-- `SafelyOverflowingIndexQueue::close` (src/spsc/safely_overflowing_index_queue/close.rt): its call of `of_words` meets what that
-- requires, and its return meets the clauses `list` and `waits`.
use Rattle.lock_free_queues.proofs.Names.{rules, ◌≡◌, ◌-◌, max, set, slice_index, refl, sym, ap, subst, ◌∙◌, list_in, Index}
use Rattle.plain_queues.specs.Overflowing.{Represents}
use Rattle.lock_free_queues.specs.Queues.Closes.{Closes, IsNewestThatWaits}
use Rattle.lock_free_queues.specs.Queues.Overflowing.{view}
use Rattle.lock_free_queues.proofs.Queues.Closes.{as_stood}
use Rattle.lock_free_queues.proofs.Queues.OverCloses.{over_fits, over_closes, newest}
use Rattle.lock_free_queues.proofs.spsc.safely_overflowing_index_queue.close.SafelyOverflowingIndexQueue.close.Goals as goal

-- with the read position that leaves at most the capacity, the words are those of a queue of one caller
pub of_words-requires : goal.of_words-requires
of_words-requires c =
    let size = c.args.self.capacity in
    let words = c.in_ok-words.words.items in
    let oldest : c.saturating_sub-oldest.result ≡ slice_index words 0 - size = search rules in
    let later : c.max.result ≡ max (slice_index words 1) c.saturating_sub-oldest.result = search rules in
    subst (λ n. Represents size (set words 1 n)) (sym (later ∙ ap (λ n. max (slice_index words 1) n) oldest))
    (over_fits c.in_ok-words.ensures.words.last c.args.pass.none.0)

-- each number that was seen to be published waits in the list at its place or lies before it, and
-- with the whole share the list has just what waits
pub returns-clause-list : goal.returns-clause-list
returns-clause-list c =
    let v = view c.args.pass in
    let size = c.args.self.capacity in
    let words = c.in_ok-words.words.items in
    let oldest : c.saturating_sub-oldest.result ≡ slice_index words 0 - size = search rules in
    let later : c.max.result ≡ max (slice_index words 1) c.saturating_sub-oldest.result = search rules in
    subst (Closes Index size v) (sym c.of_words.ensures)
    (subst (λ n. Closes Index size v (list_in size (set words 1 n)))
    (sym (later ∙ ap (λ n. max (slice_index words 1) n) oldest))
    (over_closes c.in_ok-words.ensures.words.last c.args.pass.none.0))

-- the list is the newest of what waited at one moment of the call, at most the capacity
pub returns-clause-waits : goal.returns-clause-waits
returns-clause-waits c =
    let size = c.args.self.capacity in
    let words = c.in_ok-words.words.items in
    let oldest : c.saturating_sub-oldest.result ≡ slice_index words 0 - size = search rules in
    let later : c.max.result ≡ max (slice_index words 1) c.saturating_sub-oldest.result = search rules in
    let read = c.in_ok-words.ensures.words in
    subst (IsNewestThatWaits size c.args.pass) (sym c.of_words.ensures)
    (subst (λ n. IsNewestThatWaits size c.args.pass (list_in size (set words 1 n)))
    (sym (later ∙ ap (λ n. max (slice_index words 1) n) oldest))
    (newest read.last c.args.pass.none.0 c.args.pass (as_stood c.args.pass size words read) refl read.queue read.view))
