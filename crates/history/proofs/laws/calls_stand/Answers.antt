-- The law `calls_stand` (src/laws.rt): a call that a pass made stands, with its answer, in every history that goes on from what the pass
-- has seen then.
use Rattle.history.proofs.Order as order
use Rattle.history.proofs.laws.calls_stand.Goals as goal

pub returns : goal.returns
returns g c p start answer wrote old new called none history seen =
    order.stands_in called none seen
