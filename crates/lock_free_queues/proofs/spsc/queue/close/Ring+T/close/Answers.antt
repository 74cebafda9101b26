-- `Ring::close` (src/spsc/queue/close.rt): its call of `of_words` meets what that requires, and its return meets the clauses `list` and
-- `waits`.
use Rattle.lock_free_queues.proofs.Names.{refl, sym, subst, Value, Queue, Coding, IsCoding, coding_by}
use Rattle.lock_free_queues.specs.Queues.Values.{view}
use Rattle.lock_free_queues.specs.Queues.Closes.{Closes, IsWhatWaits}
use Rattle.lock_free_queues.proofs.Queues.Closes.{fits, closes, what_waits, as_stood}
use Rattle.lock_free_queues.proofs.spsc.queue.close.Ring+T.close.Goals as goal

-- the words that were read are those of a queue of one caller with this capacity
pub of_words-requires : goal.of_words-requires
of_words-requires g c =
    let met = g.met.T.Words in
    let code : Coding g.row.T.Denot = coding_by g.T.Words in
    let law : IsCoding code = record { some = met.some; few = met.few; sized = met.sized; given_back = met.given_back } in
    fits law Queue c.in_ok-words.ensures.words.last refl

-- each value that was seen to be published waits in the list at its place or lies before it, and
-- with the whole share the list has just what waits
pub returns-clause-list : goal.returns-clause-list
returns-clause-list g c =
    let met = g.met.T.Words in
    let code : Coding g.row.T.Denot = coding_by g.T.Words in
    let law : IsCoding code = record { some = met.some; few = met.few; sized = met.sized; given_back = met.given_back } in
    let v = view c.args.pass in
    let size = c.args.self.capacity in
    subst (Closes Value size v) (sym c.of_words.ensures) (closes law Queue c.in_ok-words.ensures.words.last)

-- the list is what waited at one moment of the call
pub returns-clause-waits : goal.returns-clause-waits
returns-clause-waits g c =
    let met = g.met.T.Words in
    let code : Coding g.row.T.Denot = coding_by g.T.Words in
    let law : IsCoding code = record { some = met.some; few = met.few; sized = met.sized; given_back = met.given_back } in
    let read = c.in_ok-words.ensures.words in
    let size = c.args.self.capacity in
    subst (IsWhatWaits Value c.args.pass) (sym c.of_words.ensures)
    (what_waits law Queue read.last c.args.pass
    (as_stood c.args.pass size c.in_ok-words.words.items read) refl read.queue read.view)
