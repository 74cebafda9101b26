-- `RobustUniqueIndexSet::is_locked` (src/mpmc/robust_unique_index_set/calls.rt): its call of `drive` meets the requirements `rule` and
-- `at`, and its return meets the clauses `same`, `looked` and `steps`.
use Rattle.lock_free_owners.proofs.Names.{rules, one_word, seen, look_keeps, look_first}
use Rattle.lock_free_owners.proofs.RobustSet.Facts.{same_pass, looked, looked_answered, looked_lock, look_takes}
use Rattle.lock_free_owners.proofs.mpmc.robust_unique_index_set.RobustUniqueIndexSet.is_locked.Goals as goal

-- each step of the call keeps the rule of the table (requirement `rule`)
pub drive-requires-clause-rule : goal.drive-requires-clause-rule
drive-requires-clause-rule c = look_keeps one_word

-- the call is about to begin (requirement `at`)
pub drive-requires-clause-at : goal.drive-requires-clause-at
drive-requires-clause-at c =
    let mine = c.args.pass.now in
    look_first one_word (seen mine.seated) _ tt mine.idle mine.alone mine.some.0

-- the pass is of the same structure as before, and goes on from what it had seen (clause `same`)
pub returns-clause-same : goal.returns-clause-same
returns-clause-same c = same_pass (search rules) c.drive.ensures.end

-- the answer means what clause `looked` says
pub returns-clause-looked : goal.returns-clause-looked
returns-clause-looked c =
    let v = seen c.args.pass.now.seated in
    let w = seen c.drive.new.self in
    let idle = c.args.pass.now.idle in
    record {
      looked = looked v w tt idle c.drive.result c.drive.ensures.end;
      answered = looked_answered v w tt idle c.drive.result c.drive.ensures.end;
      lock = looked_lock v w tt idle c.drive.result c.drive.ensures.end;
    }

-- the operations that the call has asked for are within clause `steps`
pub returns-clause-steps : goal.returns-clause-steps
returns-clause-steps c = look_takes (seen c.args.pass.now.seated) (seen c.drive.new.self) c.args.pass.now.idle c.drive.result tt c.drive.ensures.end
