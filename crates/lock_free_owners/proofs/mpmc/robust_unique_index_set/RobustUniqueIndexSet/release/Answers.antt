-- `RobustUniqueIndexSet::release` (src/mpmc/robust_unique_index_set/calls.rt): its call of `drive_on` meets the requirements `rule` and
-- `at`, and its return meets the clauses `same`, `released`, `refused` and `steps`.
use Rattle.lock_free_owners.proofs.Names.{◌<◌, rules, sym, ap, subst, ◌∙◌, first_release, GiveBack, one_word, seen}
use Rattle.lock_free_owners.proofs.Names.{SetId, gives_owned, At, release_keeps, release_first}
use Rattle.model.specs.declared.turn.Kind.TheVariants as kinds
use Rattle.lock_free_owners.specs.Robust.Steps.{ReleaseTakes}
use Rattle.lock_free_owners.proofs.RobustSet.Facts.{same_pass, given_of, release_takes}
use Rattle.lock_free_owners.proofs.RobustSet.CallAnswers.{release_done, release_refused}
use Rattle.lock_free_owners.proofs.mpmc.robust_unique_index_set.RobustUniqueIndexSet.release.Goals as goal

-- each step of the call keeps the rule of the table (requirement `rule`)
pub drive_on-requires-clause-rule : goal.drive_on-requires-clause-rule
drive_on-requires-clause-rule g c = release_keeps one_word (given_of (seen c.args.pass.now.seated)
    (seen c.args.pass.now.seated) tt c.args.pass.now.idle c.args.index c.args.owner c.args.mode)

-- the release may begin at the pass
pub drive_on-requires-clause-at : goal.drive_on-requires-clause-at
drive_on-requires-clause-at g c =
    let mine = c.args.pass.now in
    let v = seen mine.seated in
    let given : GiveBack = record { index = c.args.index; owner = c.args.owner; mode = c.args.mode } in
    let size = mine.known ∙ ap (λ (z : SetId). z.capacity) c.requires.pass in
    subst (λ call. At one_word kinds.Robust (gives_owned given) v v call tt) (ap first_release mine.known ∙ sym c.new-call.ensures)
    (release_first one_word given v tt mine.idle mine.alone mine.some.0 (subst (λ n. c.args.index < n) (sym size) c.requires.index) (search rules))

-- the pass is of the same structure as before, and goes on from what it had seen (clause `same`)
pub returns-clause-same : goal.returns-clause-same
returns-clause-same g c = same_pass (search rules) c.drive_on.ensures.end

pub returns-clause-released : goal.returns-clause-released
returns-clause-released g c = release_done (seen c.args.pass.now.seated)
    (seen c.drive_on.new.self) c.args.pass.now.idle c.args.index c.args.owner c.args.mode c.drive_on.result c.drive_on.ensures.end

pub returns-clause-refused : goal.returns-clause-refused
returns-clause-refused g c = release_refused (seen c.args.pass.now.seated)
    (seen c.drive_on.new.self) c.args.pass.now.idle c.args.index c.args.owner c.args.mode c.drive_on.result c.drive_on.ensures.end

-- the release took no more steps than clause `steps` says
pub returns-clause-steps : goal.returns-clause-steps
returns-clause-steps g c =
    let v = seen c.args.pass.now.seated in
    let w = seen c.drive_on.new.self in
    subst (λ n. ReleaseTakes n c.args.mode v w) (c.args.pass.now.known ∙ ap (λ (z : SetId). z.capacity) c.requires.pass)
    (release_takes v w c.args.pass.now.idle c.args.index c.args.owner c.args.mode c.drive_on.result tt c.drive_on.ensures.end)
