-- `Container::is_empty` (src/mpmc/container/calls.rt): its call of `count_all` meets the requirement `at`, and its return meets the
-- clauses `same`, `tested` and `steps`.
use Rattle.lock_free_owners.proofs.Names.{rules, subst, first_borrowed, Coding, coding_by, seen}
use Rattle.model.specs.declared.families.container.calls.CountOf.TheVariants as counts
use Rattle.lock_free_owners.specs.Container.Turns.{CountAt}
use Rattle.lock_free_owners.proofs.ContainerSet.Begins.{count_begins}
use Rattle.lock_free_owners.proofs.ContainerSet.Facts.{tested, tested_answered, tested_none}
use Rattle.lock_free_owners.proofs.ContainerSet.States.{count_leaves}
use Rattle.lock_free_owners.proofs.Names.{ap, SetId, ◌∙◌}
use Rattle.lock_free_owners.proofs.ContainerSet.Steps.{count_takes}
use Rattle.lock_free_owners.proofs.mpmc.container.Container.is_empty.Goals as goal

-- the count may begin at the pass
pub count_all-requires-clause-at : goal.count_all-requires-clause-at
count_all-requires-clause-at g c =
    let mine = c.args.pass.now.token in
    let code : Coding g.row.T.Denot = coding_by g.T.Words in
    let v = seen mine.seated in
    subst (λ n. CountAt code counts.IsEmpty v v (first_borrowed n) tt) mine.known (count_begins code counts.IsEmpty v mine.idle mine.alone mine.some.0)

-- what the pass knows goes on, and the pass keeps what clause `same` says
pub returns-clause-same : goal.returns-clause-same
returns-clause-same g c = count_leaves (search rules) counts.IsEmpty c.count_all.ensures.ends

-- the answer means what clause `tested` says: the count is 0 or not
pub returns-clause-tested : goal.returns-clause-tested
returns-clause-tested g c =
    let code : Coding g.row.T.Denot = coding_by g.T.Words in
    let v = seen c.args.pass.now.token.seated in
    let w = seen c.count_all.new.seat in
    let n = c.count_all.result in
    let ends = c.count_all.ensures.ends in
    record {
      tested = tested code v w n ends;
      answered = tested_answered code v w n ends;
      lock = λ locked. tested_none code v w n ends locked;
    }

-- the count took no more steps than clause `steps` says
pub returns-clause-steps : goal.returns-clause-steps
returns-clause-steps g c =
    count_takes (coding_by g.T.Words) (c.args.pass.now.token.known ∙ ap (λ (z : SetId). z.capacity) c.requires) counts.IsEmpty c.count_all.ensures.ends
