-- `Container::len` (src/mpmc/container/calls.rt): its call of `count_all` meets the requirement `at`, and its return meets the clauses
-- `same`, `counted` and `steps`.
use Rattle.lock_free_owners.proofs.Names.{◌≤◌, rules, ap, subst, ◌∙◌, first_borrowed, Coding, coding_by, seen, SetId}
use Rattle.model.specs.declared.families.container.calls.CountOf.TheVariants as counts
use Rattle.lock_free_owners.specs.Container.Turns.{CountAt}
use Rattle.lock_free_owners.proofs.ContainerSet.Begins.{count_begins}
use Rattle.lock_free_owners.proofs.ContainerSet.Facts.{counted, counted_answered, counted_most, counted_none}
use Rattle.lock_free_owners.proofs.ContainerSet.States.{count_leaves}
use Rattle.lock_free_owners.proofs.ContainerSet.Steps.{count_takes}
use Rattle.lock_free_owners.proofs.mpmc.container.Container.len.Goals as goal

-- the count may begin at the pass
pub count_all-requires-clause-at : goal.count_all-requires-clause-at
count_all-requires-clause-at g c =
    let mine = c.args.pass.now.token in
    let code : Coding g.row.T.Denot = coding_by g.T.Words in
    let v = seen mine.seated in
    subst (λ n. CountAt code counts.Len v v (first_borrowed n) tt) mine.known (count_begins code counts.Len v mine.idle mine.alone mine.some.0)

-- what the pass knows goes on, and the pass keeps what clause `same` says
pub returns-clause-same : goal.returns-clause-same
returns-clause-same g c = count_leaves (search rules) counts.Len c.count_all.ensures.ends

-- the count means what clause `counted` says: it is right, and at most the capacity
pub returns-clause-counted : goal.returns-clause-counted
returns-clause-counted g c =
    let code : Coding g.row.T.Denot = coding_by g.T.Words in
    let v = seen c.args.pass.now.token.seated in
    let w = seen c.count_all.new.seat in
    let n = c.count_all.result in
    let ends = c.count_all.ensures.ends in
    let size = c.args.pass.now.token.known ∙ ap (λ (z : SetId). z.capacity) c.requires in
    record {
      counted = counted code v w n ends;
      answered = counted_answered code v w n ends;
      most = subst (λ capacity. n ≤ capacity) size (counted_most code v w n ends);
      lock = λ locked. counted_none code v w n ends locked;
    }

-- the count took no more steps than clause `steps` says
pub returns-clause-steps : goal.returns-clause-steps
returns-clause-steps g c =
    count_takes (coding_by g.T.Words) (c.args.pass.now.token.known ∙ ap (λ (z : SetId). z.capacity) c.requires) counts.Len c.count_all.ensures.ends
