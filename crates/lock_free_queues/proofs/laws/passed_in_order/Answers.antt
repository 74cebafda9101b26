-- The law `passed_in_order` (src/laws.rt; clauses `order`, `few` and `closed`): what was received is a beginning of what was sent, in
-- order; a bounded queue has at most its capacity left, and the list that `close` returns is what is left.
use Rattle.lock_free_queues.proofs.Queues.Passed.{in_order, few_left, rest_waits}
use Rattle.lock_free_queues.proofs.laws.passed_in_order.Goals as goal

-- What was received is a beginning of what was sent.
pub returns-clause-order : goal.returns-clause-order
returns-clause-order g c named code kind capacity sent received v tells history k =
    in_order {named = named} {sent = sent} {received = received} {v = v} code kind capacity tells history k

-- In a bounded queue at most the capacity is left.
pub returns-clause-few : goal.returns-clause-few
returns-clause-few g c named code kind capacity sent received v bounded history k =
    few_left {named = named} {sent = sent} {received = received} {v = v} code kind capacity bounded history k

-- The list that `close` returns is what is left.
pub returns-clause-closed : goal.returns-clause-closed
returns-clause-closed g c named capacity sent received v q tells k closed =
    rest_waits {named = named} {sent = sent} {received = received} {v = v} capacity q tells k closed
