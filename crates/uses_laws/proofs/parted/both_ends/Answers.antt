-- `both_ends` (src/parted.rt): its return meets the clauses `queue` and `parted`.
use Rattle.std.proofs.Common.{◌≡◌}
use Rattle.lock_free.specs.Queues.Calls.{consumer_queue, consumer_view, producer_queue, producer_view, queue_of, view}
use Rattle.lock_free_queues.specs.Queues.Ends.{AreEnds}
use Rattle.uses_laws.specs.Parted.{HasParted}
use Rattle.uses_laws.proofs.Parting.{each_such, parted, same_queue}
use Rattle.uses_laws.proofs.parted.both_ends.Goals as goal

pub returns-clause-queue : goal.returns-clause-queue
returns-clause-queue c =
    each_such c.ends.result (λ e. AreEnds c.args.pass e.0 e.1)
    (λ e. (producer_queue e.0 ≡ queue_of c.args.pass) × (consumer_queue e.1 ≡ queue_of c.args.pass))
    (λ e ends. same_queue c.args.pass e.0 e.1 ends) c.ends.ensures

pub returns-clause-parted : goal.returns-clause-parted
returns-clause-parted c =
    each_such c.ends.result (λ e. AreEnds c.args.pass e.0 e.1)
    (λ e. HasParted (view c.args.pass) (producer_view e.0) (consumer_view e.1))
    (λ e ends. parted c.args.pass e.0 e.1 ends) c.ends.ensures
