-- `Container::remove` (src/mpmc/container/calls.rt): its call of `drive_on` meets the requirements `rule` and `at`, and its return meets
-- the clauses `same`, `removed`, `refused` and `steps`.
use Rattle.lock_free_owners.proofs.Names.{◌<◌, rules, sym, ap, subst, ◌∙◌, arith, first_remove, GiveBack, Coding}
use Rattle.lock_free_owners.proofs.Names.{coding_by, seen, SetId}
use Rattle.lock_free_owners.specs.Container.Turns.{RemoveAt}
use Rattle.lock_free_owners.proofs.ContainerSet.Begins.{remove_keeps, remove_begins}
use Rattle.lock_free_owners.proofs.ContainerSet.States.{remove_leaves}
use Rattle.lock_free_owners.specs.Container.Names.{IsOwn}
use Rattle.lock_free_owners.proofs.ContainerSet.CallAnswers.{remove_done, remove_refused}
use Rattle.lock_free_owners.proofs.ContainerSet.Steps.{remove_takes}
use Rattle.lock_free_owners.proofs.mpmc.container.Container.remove.Goals as goal

-- each step of the call keeps the rule of the table (requirement `rule`)
pub drive_on-requires-clause-rule : goal.drive_on-requires-clause-rule
drive_on-requires-clause-rule g c =
    remove_keeps (coding_by g.T.Words)
    (record { index = c.args.handle.index; owner = c.args.handle.owner; mode = c.args.mode })

-- the remove may begin at the pass
pub drive_on-requires-clause-at : goal.drive_on-requires-clause-at
drive_on-requires-clause-at g c =
    let code : Coding g.row.T.Denot = coding_by g.T.Words in
    let mine = c.args.pass.now.token in
    let v = seen mine.seated in
    let given : GiveBack = record { index = c.args.handle.index; owner = c.args.handle.owner; mode = c.args.mode } in
    let size = mine.known ∙ ap (λ (z : SetId). z.capacity) c.requires in
    let below = c.if-handle-self-2.false in
    let low : c.args.handle.index < v.capacity = omega arith in
    subst (λ call. RemoveAt code given v v call tt) (ap (λ n. first_remove n c.args.handle.index) mine.known ∙ sym c.new-call.ensures)
    (remove_begins code given v low (search rules) mine.idle mine.alone mine.some.0)

-- what the pass knows goes on, and the pass keeps what clause `same` says
pub returns-clause-same : goal.returns-clause-same
returns-clause-same g c =
    let own : IsOwn c.args.self.now c.args.handle = (search rules, omega arith) in
    record {
      container = search rules;
      keeps = λ is_own. remove_leaves (search rules) (record { index = c.args.handle.index; owner = c.args.handle.owner; mode = c.args.mode })
          c.drive_on.ensures.end;
      foreign = λ other. absurd (other own);
    }

-- A remove that answers Ok has removed its value (clause `removed`).
pub returns-clause-removed : goal.returns-clause-removed
returns-clause-removed g c =
    remove_done (coding_by g.T.Words) c.args.self.now
    (seen c.args.pass.now.token.seated) (seen c.drive_on.new.self) c.args.handle
    (search rules, omega arith) c.args.mode c.drive_on.result c.drive_on.ensures.end

-- A remove that was refused answers right (clause `refused`).
pub returns-clause-refused : goal.returns-clause-refused
returns-clause-refused g c =
    remove_refused (coding_by g.T.Words) c.args.self.now
    (seen c.args.pass.now.token.seated) (seen c.drive_on.new.self) c.args.handle
    c.args.mode c.drive_on.result c.drive_on.ensures.end

-- the remove took no more steps than clause `steps` says
pub returns-clause-steps : goal.returns-clause-steps
returns-clause-steps g c own =
    remove_takes (coding_by g.T.Words) (c.args.pass.now.token.known ∙ ap (λ (z : SetId). z.capacity) c.requires) c.args.handle.index c.args.handle.owner
    c.args.mode c.drive_on.ensures.end
