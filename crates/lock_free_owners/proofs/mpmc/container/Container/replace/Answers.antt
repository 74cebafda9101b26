-- `Container::replace` (src/mpmc/container/calls.rt): its call of `drive` meets the requirements `rule` and `at`, and its return meets
-- the clauses `same`, `replaced`, `refused` and `steps`.
use Rattle.lock_free_owners.proofs.Names.{◌<◌, rules, sym, ap, subst, ◌∙◌, arith, first_replace, Replacement, Coding}
use Rattle.lock_free_owners.proofs.Names.{IsCoding, coding_by, seen, SetId}
use Rattle.lock_free_owners.specs.Container.Turns.{ReplaceAt}
use Rattle.lock_free_owners.proofs.ContainerSet.Begins.{replace_keeps, replace_begins}
use Rattle.lock_free_owners.proofs.ContainerSet.States.{replace_leaves}
use Rattle.lock_free_owners.specs.Container.Names.{IsOwn}
use Rattle.lock_free_owners.proofs.ContainerSet.CallAnswers.{replace_done, replace_refused}
use Rattle.lock_free_owners.proofs.ContainerSet.Steps.{replace_takes}
use Rattle.lock_free_owners.proofs.mpmc.container.Container.replace.Goals as goal

-- each step of the replace keeps the rule of the table
pub drive-requires-clause-rule : goal.drive-requires-clause-rule
drive-requires-clause-rule g c =
    let met = g.met.T.Words in
    let code : Coding g.row.T.Denot = coding_by g.T.Words in
    let law : IsCoding code = record { some = met.some; few = met.few; sized = met.sized; given_back = met.given_back } in
    replace_keeps code law (record { index = c.args.handle.index; owner = c.args.handle.owner; value = c.args.value })

-- the replace may begin at the pass
pub drive-requires-clause-at : goal.drive-requires-clause-at
drive-requires-clause-at g c =
    let met = g.met.T.Words in
    let code : Coding g.row.T.Denot = coding_by g.T.Words in
    let law : IsCoding code = record { some = met.some; few = met.few; sized = met.sized; given_back = met.given_back } in
    let mine = c.args.pass.now.token in
    let v = seen mine.seated in
    let given : Replacement g.row.T.Denot = record { index = c.args.handle.index; owner = c.args.handle.owner; value = c.args.value } in
    let size = mine.known ∙ ap (λ (z : SetId). z.capacity) c.requires in
    let below = c.if-handle-self-2.false in
    let low : c.args.handle.index < v.capacity = omega arith in
    subst (λ call. ReplaceAt code given v v call tt) (ap (λ n. first_replace n c.args.handle.index) mine.known ∙ sym c.new-call.ensures)
    (replace_begins code law given v low (search rules) mine.idle mine.alone mine.some.0)

-- what the pass knows goes on, and the pass keeps what clause `same` says
pub returns-clause-same : goal.returns-clause-same
returns-clause-same g c =
    let own : IsOwn c.args.self.now c.args.handle = (search rules, omega arith) in
    record {
      container = search rules;
      keeps = λ is_own. replace_leaves (search rules) (record { index = c.args.handle.index; owner = c.args.handle.owner; value = c.args.value })
          c.drive.ensures.end;
      foreign = λ other. absurd (other own);
    }

-- A replace that answers Ok has placed its value (clause `replaced`).
pub returns-clause-replaced : goal.returns-clause-replaced
returns-clause-replaced g c =
    replace_done (coding_by g.T.Words) c.args.self.now
    (seen c.args.pass.now.token.seated) (seen c.drive.new.self) c.args.handle
    (search rules, omega arith) c.args.value c.drive.result c.drive.ensures.end

-- A replace that was refused answers right (clause `refused`).
pub returns-clause-refused : goal.returns-clause-refused
returns-clause-refused g c =
    replace_refused (coding_by g.T.Words) c.args.self.now
    (seen c.args.pass.now.token.seated) (seen c.drive.new.self) c.args.handle
    c.args.value c.drive.result c.drive.ensures.end

-- the operations that the call has asked for are within clause `steps`
pub returns-clause-steps : goal.returns-clause-steps
returns-clause-steps g c own =
    replace_takes (coding_by g.T.Words) (record { index = c.args.handle.index; owner = c.args.handle.owner; value = c.args.value }) c.drive.ensures.end
