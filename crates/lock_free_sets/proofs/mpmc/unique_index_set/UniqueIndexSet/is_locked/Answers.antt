-- `UniqueIndexSet::is_locked` (src/mpmc/unique_index_set/calls.rt): its call of `drive` meets the requirements `rule` and `at`, `pass`
-- meets the invariants `sound`, `done` and `knows`, and its return meets the clauses `same`, `looked` and `steps`.
use Rattle.lock_free_sets.proofs.Names.{rules, arith, one_word, seen}
use Rattle.history_indices.proofs.IndexCalls.{look_keeps, look_first}
use Rattle.lock_free_sets.proofs.Unique.Facts.{looked, knows_still, same_pass, same_size, sound_after}
use Rattle.lock_free_sets.proofs.Unique.Whole.{is_locked_done, looked_done}
use Rattle.lock_free_sets.proofs.Steps.{indices_take}
use Rattle.lock_free_sets.proofs.mpmc.unique_index_set.UniqueIndexSet.is_locked.Goals as goal

-- each step of the call keeps the rule of the table (requirement `rule`)
pub drive-requires-clause-rule : goal.drive-requires-clause-rule
drive-requires-clause-rule c = look_keeps one_word

-- the call is about to begin (requirement `at`)
pub drive-requires-clause-at : goal.drive-requires-clause-at
drive-requires-clause-at c = let mine = c.args.pass.now in look_first one_word (seen mine.seated) _ tt mine.idle mine.alone mine.some.0

-- the returned pass keeps its invariant `sound`: its claims and frees fit those of a set
pub invariant_of-pass-clause-sound : goal.invariant_of-pass-clause-sound
invariant_of-pass-clause-sound c = sound_after c.drive.ensures.end

-- the returned pass keeps its invariant `done`: each call that it began has ended
pub invariant_of-pass-clause-done : goal.invariant_of-pass-clause-done
invariant_of-pass-clause-done c =
    let mine = c.args.pass.now in
    looked_done (looked mine.idle c.drive.ensures.end) mine.done

-- the returned pass keeps its invariant `knows`: it knows a run that gives all that it has seen
pub invariant_of-pass-clause-knows : goal.invariant_of-pass-clause-knows
invariant_of-pass-clause-knows c = knows_still c.args.pass.now.known c.drive.ensures.end.ran

-- the pass is of the same structure as before, and goes on from what it had seen (clause `same`)
pub returns-clause-same : goal.returns-clause-same
returns-clause-same c = same_pass (search rules) c.drive.ensures.end

pub returns-clause-looked : goal.returns-clause-looked
returns-clause-looked c =
    let mine = c.args.pass.now in
    is_locked_done mine.idle c.drive.ensures.end

-- the operations that the call has asked for are within clause `steps`
pub returns-clause-steps : goal.returns-clause-steps
returns-clause-steps c =
    let mine = c.args.pass.now in
    indices_take mine.idle (same_size c.args.self.now mine c.requires) c.drive.ensures.end (omega arith)
