-- The law `histories_are_strongly_linearizable` (src/laws.rt; clauses `strong` and `agree`): one function of events gives the order of
-- the calls of a queue, to which a history that goes on only adds.
use Rattle.std.proofs.Common.{◌≡◌, ap, ◌∙◌}
use Rattle.lock_free_queues.proofs.Queues.Promised.{strong}
use Rattle.lock_free_queues.proofs.laws.histories_are_strongly_linearizable.Goals as goal

pub returns-clause-strong : goal.returns-clause-strong
returns-clause-strong g c code kind capacity = strong code kind capacity

pub returns-clause-agree : goal.returns-clause-agree
returns-clause-agree g c code kind capacity all old new begins =
    let grown = all.grows old.seen begins.rest in
    (grown.0, ap all.order begins.is ∙ grown.1)
