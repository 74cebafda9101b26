-- `step_on` (src/mpmc/container/elements.rt): its call of `step` meets the requirements `rule` and `at`, and its return meets the clause
-- `goes`.
use Rattle.lock_free_owners.proofs.Names.{Coding, IsCoding, coding_by}
use Rattle.lock_free_owners.proofs.ContainerSet.Looks.{look_on_keeps}
use Rattle.lock_free_owners.proofs.mpmc.container.elements.step_on.Goals as goal

-- each step of a look past its first keeps the rule of the table, and the look stays past it
pub step-requires-clause-rule : goal.step-requires-clause-rule
step-requires-clause-rule g c =
    let met = g.met.T.Words in
    let code : Coding g.row.T.Denot = coding_by g.T.Words in
    let law : IsCoding code = record { some = met.some; few = met.few; sized = met.sized; given_back = met.given_back } in
    let b = g.B.Beginning in
    look_on_keeps (record { code = code; law = law; which = b.which; from = b.from; shown = b.shown; seen = c.args.given.now }) c.requires.may_step.decided

pub step-requires-clause-at : goal.step-requires-clause-at
step-requires-clause-at g c = (g.B.Beginning.from, c.requires.may_step.at)

pub returns-clause-goes : goal.returns-clause-goes
returns-clause-goes g c = c.step.ensures.told g.B.Beginning.from c.requires.may_step.at
