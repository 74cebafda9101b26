-- `step_count` (src/spsc/ring/lengths.rt): its call of `step` meets the requirement `rule`.
use Rattle.lock_free_queues.proofs.Names.{Coding, IsCoding, coding_by}
use Rattle.lock_free_queues.proofs.Queues.Kinds.{lengths_keep}
use Rattle.lock_free_queues.proofs.spsc.ring.lengths.step_count.Goals as goal

-- its call of `step` meets the requirement `rule`
pub step-requires-clause-rule : goal.step-requires-clause-rule
step-requires-clause-rule g c base v call m key =
    let met = g.met.T.Words in
    let code : Coding g.row.T.Denot = coding_by g.T.Words in
    let law : IsCoding code = record { some = met.some; few = met.few; sized = met.sized; given_back = met.given_back } in
    lengths_keep code law g.E.Kind.KIND g.W.Measure.WHICH base v call m key.capacity
