-- The law `peeks_tell_pops` (src/laws.rt): a pop right after a peek that answered a value answers the same value, whatever was pushed
-- since.
use Rattle.lock_free_queues.proofs.Queues.Peeks.{pop_answers_it}
use Rattle.lock_free_queues.proofs.laws.peeks_tell_pops.Goals as goal

pub returns : goal.returns
returns g c code kind capacity item answer old was new h peek taken empty =
    pop_answers_it code kind capacity item old was new peek h answer taken empty
