-- The law `whole_is_counted` (src/laws.rt): a pass with the whole share knows how much was published and
-- taken out: it is what its own calls, and those of the passes that it took in, have published and taken out.
use Rattle.lock_free_queues.proofs.Queues.Sums.{whole_counted}
use Rattle.lock_free_queues.proofs.laws.whole_is_counted.Goals as goal

pub returns : goal.returns
returns g c v all missing = whole_counted v all missing
