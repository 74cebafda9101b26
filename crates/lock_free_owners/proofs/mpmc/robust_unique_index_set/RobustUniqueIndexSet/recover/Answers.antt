-- `RobustUniqueIndexSet::recover` (src/mpmc/robust_unique_index_set/recovers.rt): its call of `recover_all` meets the requirements
-- `begins`, `questions` and `freed`, and its return meets the clauses `same`, `recovered` and `steps`.
use Rattle.lock_free_owners.proofs.Names.{[], rules, sym, ap, subst, one_word, seen, SetId}
use Rattle.lock_free_owners.proofs.Names.{◌∙◌}
use Rattle.lock_free_owners.proofs.Names.{recover_first}
use Rattle.steps.specs.Indices.Robust.Recover.{first_recover}
use Rattle.lock_free_owners.specs.Robust.Turns.{RecoverAt}
use Rattle.lock_free_owners.specs.Robust.Steps.{RecoverTakes}
use Rattle.lock_free_owners.proofs.RobustSet.Facts.{same_pass, recovered, recovered_answered, recovered_lock, recover_takes}
use Rattle.lock_free_owners.proofs.Rules.Robust.Recovering.{questions_at, freed_at}
use Rattle.lock_free_owners.proofs.mpmc.robust_unique_index_set.RobustUniqueIndexSet.recover.Goals as goal
use Rattle.lock_free_owners.proofs.mpmc.robust_unique_index_set.RobustUniqueIndexSet.recover.Given as given

-- the recovery may begin at the pass, which has no call under way
pub recover_all-requires-clause-begins : goal.recover_all-requires-clause-begins
recover_all-requires-clause-begins g c =
    let mine = c.args.pass.now in
    let v = seen mine.seated in
    record {
      board = search rules;
      known = mine.known;
      idle = mine.idle;
      at = subst (λ n. RecoverAt c.args.mode v v (first_recover n) []) mine.known (recover_first one_word c.args.mode v mine.idle mine.alone mine.some.0);
    }

pub recover_all-requires-clause-questions : goal.recover_all-requires-clause-questions
recover_all-requires-clause-questions g c free = questions_at (ap (λ (z : SetId). z.capacity) (sym c.requires.pass)) (c.requires.questions free)

pub recover_all-requires-clause-freed : goal.recover_all-requires-clause-freed
recover_all-requires-clause-freed g c free = freed_at (ap (λ (z : SetId). z.capacity) (sym c.requires.pass)) (c.requires.freed free)

-- the pass is of the same structure as before, and goes on from what it had seen (clause `same`)
pub returns-clause-same : goal.returns-clause-same
returns-clause-same g c = same_pass (search rules) c.recover_all.ensures.ends.1

-- the recovery has asked and freed what clause `recovered` says
pub returns-clause-recovered : goal.returns-clause-recovered
returns-clause-recovered g c =
    let called = c.recover_all in
    let v = seen c.args.pass.now.seated in
    let w = seen called.new.seat in
    let idle = c.args.pass.now.idle in
    let ends = called.ensures.ends in
    record {
      recovered = recovered idle c.args.mode ends.1 (λ p o i b q. given.F-step g p o i b q) (λ s o i t. given.S-step g s o i tt t) ends.2;
      answered = recovered_answered v w idle c.args.mode called.result ends.0 ends.1;
      lock = recovered_lock v w idle c.args.mode called.result ends.0 ends.1;
    }

-- the recovery took no more steps than clause `steps` says
pub returns-clause-steps : goal.returns-clause-steps
returns-clause-steps g c =
    let v = seen c.args.pass.now.seated in
    let w = seen c.recover_all.new.seat in
    let ends = c.recover_all.ensures.ends in
    subst (λ n. RecoverTakes n c.args.mode v w) (c.args.pass.now.known ∙ ap (λ (z : SetId). z.capacity) c.requires.pass)
    (recover_takes v w c.args.pass.now.idle c.args.mode c.recover_all.result ends.0 ends.1)
