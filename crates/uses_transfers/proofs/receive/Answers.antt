-- `receive` (src/main.rt): its return meets the clause `came`.
use Rattle.std.proofs.Common.{sym, ap, ◌∙◌, ◌++◌}
use Rattle.uses_transfers.proofs.receive.Goals as goal

-- both lists were empty, and have grown by the same
pub returns-clause-came : goal.returns-clause-came
returns-clause-came g c =
    let grown = c.receive_all.ensures.came in
    c.leave.ensures.received
    ∙ (grown.1 ∙ (ap (λ xs. xs ++ grown.0) c.in_ok-receiver.ensures.received ∙ sym (grown.2 ∙ ap (λ xs. xs ++ grown.0) c.requires.empty)))
