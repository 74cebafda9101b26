-- `UniqueIndexSet::acquire_raw_index` (src/mpmc/unique_index_set/calls.rt): its call of `drive_on` meets the requirements `rule` and
-- `at`, `pass` meets the invariants `sound`, `done` and `knows`, and its return meets the clauses `same`, `acquired`, `refused` and
-- `steps`.
use Rattle.lock_free_sets.proofs.Names.{rules, arith, ◌<◌, sym, ap, subst, ◌∙◌, one_word, seen, At, takes_index}
use Rattle.steps.specs.Indices.Unique.{first_acquire}
use Rattle.model.specs.declared.turn.Kind.TheVariants as kinds
use Rattle.history_indices.proofs.IndexCalls.{acquire_keeps, acquire_first}
use Rattle.lock_free_sets.proofs.Unique.Facts.{taken, knows_still, same_pass, same_size, sound_after}
use Rattle.lock_free_sets.proofs.Unique.Whole.{taken_done, acquired_if, refused_if}
use Rattle.lock_free_sets.proofs.Steps.{indices_take}
use Rattle.lock_free_sets.proofs.mpmc.unique_index_set.UniqueIndexSet.acquire_raw_index.Goals as goal

-- each step of the call keeps the rule of the table (requirement `rule`)
pub drive_on-requires-clause-rule : goal.drive_on-requires-clause-rule
drive_on-requires-clause-rule g c = acquire_keeps one_word

-- the acquire is about to begin, as a call that its set does not refuse
pub drive_on-requires-clause-at : goal.drive_on-requires-clause-at
drive_on-requires-clause-at g c =
    let mine = c.args.pass.now in
    let v = seen mine.seated in
    let size = same_size c.args.self.now mine c.requires in
    subst (λ call. At one_word kinds.Indices takes_index v v call tt)
    (ap first_acquire size ∙ sym c.new-call.ensures)
    (acquire_first one_word v tt mine.idle mine.alone mine.some.0 (subst (λ n. 0 < n) (sym mine.known) mine.places))

-- the returned pass keeps its invariant `sound`: its claims and frees fit those of a set
pub invariant_of-pass-clause-sound : goal.invariant_of-pass-clause-sound
invariant_of-pass-clause-sound g c = sound_after c.drive_on.ensures.end

-- the returned pass keeps its invariant `done`: each call that it began has ended
pub invariant_of-pass-clause-done : goal.invariant_of-pass-clause-done
invariant_of-pass-clause-done g c =
    let mine = c.args.pass.now in
    taken_done c.drive_on.result (taken mine.idle c.drive_on.ensures.end) mine.done

-- the returned pass keeps its invariant `knows`: it knows a run that gives all that it has seen
pub invariant_of-pass-clause-knows : goal.invariant_of-pass-clause-knows
invariant_of-pass-clause-knows g c = knows_still c.args.pass.now.known c.drive_on.ensures.end.ran

-- the pass is of the same structure as before, and goes on from what it had seen (clause `same`)
pub returns-clause-same : goal.returns-clause-same
returns-clause-same g c = same_pass (search rules) c.drive_on.ensures.end

-- an acquire that answers an index is a call of the history, which claims it (clause `acquired`)
pub returns-clause-acquired : goal.returns-clause-acquired
returns-clause-acquired g c =
    let mine = c.args.pass.now in
    acquired_if mine.idle c.drive_on.ensures.end mine.sound _ (same_size c.args.self.now mine c.requires)

-- a refused acquire is a call of the history, which claims nothing (clause `refused`)
pub returns-clause-refused : goal.returns-clause-refused
returns-clause-refused g c =
    let mine = c.args.pass.now in
    refused_if mine.idle c.drive_on.ensures.end mine.done

-- the operations that the call has asked for are within clause `steps`
pub returns-clause-steps : goal.returns-clause-steps
returns-clause-steps g c =
    let mine = c.args.pass.now in
    indices_take mine.idle (same_size c.args.self.now mine c.requires) c.drive_on.ensures.end (omega arith)
