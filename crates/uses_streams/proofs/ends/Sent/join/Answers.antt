-- `Sent::join` (src/ends/calls.rt): its return meets the clauses `whole`, `beginning`, `all` and `finished`.
use Rattle.std.proofs.Common.{ap}
use Rattle.lock_free_queues.specs.Queues.Rings.{view}
use Rattle.uses_streams.proofs.Streams.{joined_whole, joined_begins, joined_all, joined_ends}
use Rattle.uses_streams.proofs.ends.Sent.join.Goals as goal

-- the halves of the first pass make the whole share again
pub returns-clause-whole : goal.returns-clause-whole
returns-clause-whole g c =
    joined_whole (ap view c.into_pass.ensures) c.join.ensures.same.joined c.args.self.alone c.args.other.alone c.join.ensures.same.all
    c.history.ensures.history

-- what was received is a beginning of what was sent
pub returns-clause-beginning : goal.returns-clause-beginning
returns-clause-beginning g c =
    joined_begins (ap view c.into_pass.ensures) c.join.ensures.same.joined c.args.self.alone c.args.other.alone c.join.ensures.same.all
    c.history.ensures.history

-- if the end was received, all that was sent was
pub returns-clause-all : goal.returns-clause-all
returns-clause-all g c =
    joined_all (ap view c.into_pass.ensures) c.join.ensures.same.joined c.args.self.alone c.args.other.alone c.join.ensures.same.all
    c.history.ensures.history

-- if the end was received, the sender had sent it
pub returns-clause-finished : goal.returns-clause-finished
returns-clause-finished g c =
    joined_ends (ap view c.into_pass.ensures) c.join.ensures.same.joined c.args.self.alone c.args.other.alone c.join.ensures.same.all
    c.history.ensures.history
