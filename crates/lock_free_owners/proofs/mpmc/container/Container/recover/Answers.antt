-- `Container::recover` (src/mpmc/container/recovery.rt): its call of `free_all` meets the requirements `at` and `questions`, and its
-- return meets the clauses `same`, `recovered` and `steps`.
use Rattle.lock_free_owners.proofs.Names.{[], rules, sym, ap, subst, DeadOwner, Coding, IsCoding, coding_by}
use Rattle.lock_free_owners.proofs.Names.{fresh_cell, seen, SetId}
use Rattle.steps.specs.Container.Recover.{first_recover}
use Rattle.lock_free_owners.specs.Container.Questions.{TakesValues}
use Rattle.lock_free_owners.specs.Container.RecoverContract.{HasRecovered}
use Rattle.lock_free_owners.specs.Container.RecoverTurns.{RecoverAt}
use Rattle.lock_free_owners.proofs.ContainerSet.RecoverTurns.{recover_begins, recovered_answered, recovered_lock}
use Rattle.lock_free_owners.proofs.ContainerSet.States.{recover_leaves}
use Rattle.lock_free_owners.proofs.Names.{◌∙◌}
use Rattle.lock_free_owners.proofs.ContainerSet.Steps.{recover_takes}
use Rattle.lock_free_owners.proofs.mpmc.container.Container.recover.Goals as goal
use Rattle.lock_free_owners.proofs.mpmc.container.Container.recover.Given as given

-- the recovery may begin at the pass
pub free_all-requires-clause-at : goal.free_all-requires-clause-at
free_all-requires-clause-at g c =
    let met = g.met.T.Words in
    let code : Coding g.row.T.Denot = coding_by g.T.Words in
    let law : IsCoding code = record { some = met.some; few = met.few; sized = met.sized; given_back = met.given_back } in
    let mine = c.args.pass.now.token in
    let v = seen mine.seated in
    let dead : DeadOwner = record { owner = c.args.owner; mode = c.args.mode } in
    subst (λ n. RecoverAt code dead v v (first_recover n) (fresh_cell, [])) mine.known (recover_begins code law dead v
    (search rules) mine.idle mine.alone mine.some.0)

pub free_all-requires-clause-questions : goal.free_all-requires-clause-questions
free_all-requires-clause-questions g c free =
    subst (λ n. TakesValues (given.F-pre g) (λ p x b q. given.F-step g p x b q) n c.args.predicate.now)
    (sym (ap (λ (z : SetId). z.capacity) c.requires.pass)) (c.requires.questions free)

-- what the pass knows goes on, and the pass keeps what clause `same` says
pub returns-clause-same : goal.returns-clause-same
returns-clause-same g c =
    recover_leaves (search rules) (record { owner = c.args.owner; mode = c.args.mode }) c.free_all.ensures.recovered.ends.1

-- the recovery has asked and freed what clause `recovered` says
pub returns-clause-recovered : goal.returns-clause-recovered
returns-clause-recovered g c =
    let met = g.met.T.Words in
    let code : Coding g.row.T.Denot = coding_by g.T.Words in
    let law : IsCoding code = record { some = met.some; few = met.few; sized = met.sized; given_back = met.given_back } in
    let dead : DeadOwner = record { owner = c.args.owner; mode = c.args.mode } in
    let v = seen c.args.pass.now.token.seated in
    let w = seen c.free_all.new.seat in
    let ends = c.free_all.ensures.recovered.ends in
    record {
      recovered = subst (λ n. HasRecovered (λ p x b q. given.F-step g p x b q) dead c.free_all.result n c.args.predicate.now
          c.free_all.new.predicate v w)
          (ap (λ (z : SetId). z.capacity) c.requires.pass) c.free_all.ensures.recovered.did;
      answered = recovered_answered code law dead v w c.free_all.result ends.0 ends.1;
      lock = recovered_lock code law dead v w c.free_all.result ends.0 ends.1;
    }

-- the recovery took no more steps than clause `steps` says
pub returns-clause-steps : goal.returns-clause-steps
returns-clause-steps g c =
    recover_takes (coding_by g.T.Words) (c.args.pass.now.token.known ∙ ap (λ (z : SetId). z.capacity) c.requires.pass) c.args.owner c.args.mode
    c.free_all.ensures.recovered.ends.1
