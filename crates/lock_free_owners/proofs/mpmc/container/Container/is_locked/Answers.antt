-- `Container::is_locked` (src/mpmc/container/calls.rt): its call of `drive` meets the requirements `rule` and `at`, and its return meets
-- the clauses `same`, `looked` and `steps`.
use Rattle.lock_free_owners.proofs.Names.{rules, Coding, coding_by, seen}
use Rattle.lock_free_owners.proofs.ContainerSet.Begins.{lock_keeps, lock_begins}
use Rattle.lock_free_owners.proofs.ContainerSet.Facts.{looked, looked_answered, looked_lock}
use Rattle.lock_free_owners.proofs.ContainerSet.States.{lock_leaves}
use Rattle.lock_free_owners.proofs.ContainerSet.Steps.{lock_takes}
use Rattle.lock_free_owners.proofs.mpmc.container.Container.is_locked.Goals as goal

-- each step of the call keeps the rule of the table (requirement `rule`)
pub drive-requires-clause-rule : goal.drive-requires-clause-rule
drive-requires-clause-rule g c = lock_keeps (coding_by g.T.Words)

-- the call is about to begin (requirement `at`)
pub drive-requires-clause-at : goal.drive-requires-clause-at
drive-requires-clause-at g c =
    let mine = c.args.pass.now.token in
    lock_begins (coding_by g.T.Words) (seen mine.seated) _ mine.idle mine.alone mine.some.0

-- what the pass knows goes on, and the pass keeps what clause `same` says
pub returns-clause-same : goal.returns-clause-same
returns-clause-same g c = lock_leaves (search rules) c.drive.ensures.end

-- the answer means what clause `looked` says
pub returns-clause-looked : goal.returns-clause-looked
returns-clause-looked g c =
    let code : Coding g.row.T.Denot = coding_by g.T.Words in
    let v = seen c.args.pass.now.token.seated in
    let w = seen c.drive.new.self in
    record {
      looked = looked code v w c.drive.result c.drive.ensures.end;
      answered = looked_answered code v w c.drive.result c.drive.ensures.end;
      lock = looked_lock code v w c.drive.result c.drive.ensures.end;
    }

-- the operations that the call has asked for are within clause `steps`
pub returns-clause-steps : goal.returns-clause-steps
returns-clause-steps g c = lock_takes (coding_by g.T.Words) c.drive.ensures.end
