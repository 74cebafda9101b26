-- `UniqueIndexSet::release_or_lock` (src/mpmc/unique_index_set/calls.rt): its call of `drive_on` meets the requirements `rule` and `at`,
-- `pass` meets the invariants `sound`, `done` and `knows`, and its return meets the clauses `same`, `given` and `steps`.
use Rattle.lock_free_sets.proofs.Names.{rules, arith, sym, ap, subst, ◌∙◌, first_release, one_word, seen, At, gives_or_locks}
use Rattle.model.specs.declared.turn.Kind.TheVariants as kinds
use Rattle.history_indices.proofs.IndexCalls.{lock_keeps, lock_first}
use Rattle.lock_free_sets.proofs.Unique.Facts.{given_or_locked, knows_still, same_pass, same_size, sound_after}
use Rattle.lock_free_sets.proofs.Unique.Whole.{locked_done, release_or_lock_done}
use Rattle.lock_free_sets.proofs.Steps.{indices_take}
use Rattle.lock_free_sets.proofs.mpmc.unique_index_set.UniqueIndexSet.release_or_lock.Goals as goal

-- each step of the call keeps the rule of the table (requirement `rule`)
pub drive_on-requires-clause-rule : goal.drive_on-requires-clause-rule
drive_on-requires-clause-rule g c = lock_keeps one_word c.args.index

-- the release is about to begin, as a call that its set does not refuse to who holds the index
pub drive_on-requires-clause-at : goal.drive_on-requires-clause-at
drive_on-requires-clause-at g c =
    let mine = c.args.pass.now in
    let v = seen mine.seated in
    let size = same_size c.args.self.now mine c.requires.pass in
    subst (λ call. At one_word kinds.Indices (gives_or_locks c.args.index) v v call tt)
    (ap first_release size ∙ sym c.new-call.ensures)
    (lock_first one_word c.args.index v tt mine.idle mine.alone mine.some.0
    (mine.sound.within c.args.index c.requires.held) c.requires.held)

-- the returned pass keeps its invariant `sound`: its claims and frees fit those of a set
pub invariant_of-pass-clause-sound : goal.invariant_of-pass-clause-sound
invariant_of-pass-clause-sound g c = sound_after c.drive_on.ensures.end

-- the returned pass keeps its invariant `done`: each call that it began has ended
pub invariant_of-pass-clause-done : goal.invariant_of-pass-clause-done
invariant_of-pass-clause-done g c =
    let mine = c.args.pass.now in
    locked_done (given_or_locked mine.idle c.drive_on.ensures.end) mine.done

-- the returned pass keeps its invariant `knows`: it knows a run that gives all that it has seen
pub invariant_of-pass-clause-knows : goal.invariant_of-pass-clause-knows
invariant_of-pass-clause-knows g c = knows_still c.args.pass.now.known c.drive_on.ensures.end.ran

-- the pass is of the same structure as before, and goes on from what it had seen (clause `same`)
pub returns-clause-same : goal.returns-clause-same
returns-clause-same g c = same_pass (search rules) c.drive_on.ensures.end

-- the release is a call of the history, which did what its answer says (clause `given`)
pub returns-clause-given : goal.returns-clause-given
returns-clause-given g c =
    let mine = c.args.pass.now in
    release_or_lock_done mine.idle c.drive_on.ensures.end mine.done

-- the operations that the call has asked for are within clause `steps`
pub returns-clause-steps : goal.returns-clause-steps
returns-clause-steps g c =
    let mine = c.args.pass.now in
    indices_take mine.idle (same_size c.args.self.now mine c.requires.pass) c.drive_on.ensures.end (omega arith)
