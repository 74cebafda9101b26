-- `step_load` (src/spmc/unrestricted_atomic/loads.rt): its call of `step` meets the requirement `rule`.
use Rattle.lock_free_value.proofs.Names.{Coding, IsCoding, coding_by}
use Rattle.history_value.proofs.ValueCalls.{load_keeps_rule}
use Rattle.lock_free_value.proofs.spmc.unrestricted_atomic.loads.step_load.Goals as goal

-- each step of the load keeps the rule of the table, and tells what is known after it
pub step-requires-clause-rule : goal.step-requires-clause-rule
step-requires-clause-rule g c base v call m key =
    let met = g.met.T.Words in
    let code : Coding g.row.T.Denot = coding_by g.T.Words in
    let law : IsCoding code = record { some = met.some; few = met.few; sized = met.sized; given_back = met.given_back } in
    load_keeps_rule code law g.R.Room.words_in g.R.Room.with_word g.met.R.Room.put_in base v call m 1
