-- `RobustUniqueIndexSet::borrowed_indices` (src/mpmc/robust_unique_index_set/calls.rt): its call of `count_all` meets the requirement
-- `at`, and its return meets the clauses `same`, `counted` and `steps`.
use Rattle.lock_free_owners.proofs.Names.{◌≤◌, rules, ap, subst, ◌∙◌, first_borrowed, one_word, seen, SetId}
use Rattle.lock_free_owners.proofs.Names.{◌+◌}
use Rattle.lock_free_owners.proofs.Names.{count_first}
use Rattle.lock_free_owners.specs.Robust.Turns.{CountAt}
use Rattle.history.specs.Steps.{TakesAlone}
use Rattle.lock_free_owners.proofs.RobustSet.Facts.{same_pass, counted, counted_answered, counted_most, counted_none, count_takes}
use Rattle.lock_free_owners.proofs.mpmc.robust_unique_index_set.RobustUniqueIndexSet.borrowed_indices.Goals as goal

-- The count is about to begin, as `count_all` requires.
pub count_all-requires-clause-at : goal.count_all-requires-clause-at
count_all-requires-clause-at g c =
    let mine = c.args.pass.now in
    let v = seen mine.seated in
    subst (λ n. CountAt v v (first_borrowed n) tt) mine.known (count_first one_word v tt mine.idle mine.alone mine.some.0)

-- the pass is of the same structure as before, and goes on from what it had seen (clause `same`)
pub returns-clause-same : goal.returns-clause-same
returns-clause-same g c = same_pass (search rules) c.count_all.ensures.ends

-- the count means what clause `counted` says: it is right, and at most the capacity
pub returns-clause-counted : goal.returns-clause-counted
returns-clause-counted g c =
    let v = seen c.args.pass.now.seated in
    let w = seen c.count_all.new.seat in
    let idle = c.args.pass.now.idle in
    let n = c.count_all.result in
    let ends = c.count_all.ensures.ends in
    record {
      counted = counted v w tt idle n ends;
      answered = counted_answered v w tt idle n ends;
      most = subst (λ capacity. n ≤ capacity) (c.args.pass.now.known ∙ ap (λ (z : SetId). z.capacity) c.requires) (counted_most v w tt idle n ends);
      lock = λ locked. counted_none v w tt idle n ends locked;
    }

-- the count took no more steps than clause `steps` says
pub returns-clause-steps : goal.returns-clause-steps
returns-clause-steps g c =
    let v = seen c.args.pass.now.seated in
    let w = seen c.count_all.new.seat in
    subst (λ n. TakesAlone (n + 2) (n + 2) v w) (c.args.pass.now.known ∙ ap (λ (z : SetId). z.capacity) c.requires)
    (count_takes v w c.args.pass.now.idle c.count_all.result tt c.count_all.ensures.ends)
