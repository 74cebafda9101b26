-- `Subscriber::leave` (src/subscriber.rt): its return meets the clause `kept`.
use Rattle.zero_copy_bus.proofs.subscriber.Subscriber.leave.Goals as goal

pub returns-clause-kept : goal.returns-clause-kept
returns-clause-kept g c = c.in-Err.ensures.refused.answered c.args.self.own
