-- `keep_positions` (src/twins/queues.rt): its return meets the clauses `published` and `taken`.
use Rattle.lock_free.specs.Queues.Calls.{view}
use Rattle.uses_laws.proofs.twins.queues.keep_positions.Goals as goal

pub returns-clause-published : goal.returns-clause-published
returns-clause-published c p position item known =
    c.positions_stay.ensures.published p position item (view c.args.pass.now).seen (view c.join.new.self).seen c.join.ensures.same.joined.ours known

pub returns-clause-taken : goal.returns-clause-taken
returns-clause-taken c p position item known =
    c.positions_stay.ensures.taken p position item (view c.args.pass.now).seen (view c.join.new.self).seen c.join.ensures.same.joined.ours known
