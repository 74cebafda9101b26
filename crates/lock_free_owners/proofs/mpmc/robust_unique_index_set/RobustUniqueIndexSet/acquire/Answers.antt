-- `RobustUniqueIndexSet::acquire` (src/mpmc/robust_unique_index_set/calls.rt): its call of `acquire_all` meets the requirement `at`, and
-- its return meets the clauses `same`, `acquired`, `lock`, `refused` and `steps`.
use Rattle.lock_free_owners.proofs.Names.{◌≡◌, Err, IfOk, IfErr, rules, subst, Acquired, first_acquire, one_word}
use Rattle.lock_free_owners.proofs.Names.{◌∙◌, ap, SetId, ◌+◌}
use Rattle.lock_free_owners.proofs.Names.{seen, acquire_first}
use Rattle.lock_free_owners.specs.Robust.Turns.{AcquireAt}
use Rattle.steps.specs.declared.indices.enums.UniqueIndexSetAcquireFailure.TheVariants.{IsLocked as Locked}
use Rattle.lock_free_owners.specs.Robust.Calls.{AcquireDone, AcquireRefused}
use Rattle.lock_free_owners.specs.RobustUniqueIndexSet.{capacity_of}
use Rattle.history.specs.Steps.{TakesAlone}
use Rattle.lock_free_owners.proofs.RobustSet.Facts.{same_pass, shut, acquire_takes}
use Rattle.lock_free_owners.proofs.RobustSet.CallAnswers.{acquire_done, acquire_refused}
use Rattle.lock_free_owners.proofs.mpmc.robust_unique_index_set.RobustUniqueIndexSet.acquire.Goals as goal

-- the acquire may begin at the pass
pub acquire_all-requires-clause-at : goal.acquire_all-requires-clause-at
acquire_all-requires-clause-at g c =
    let mine = c.args.pass.now in
    let v = seen mine.seated in
    subst (λ n. AcquireAt c.args.owner v v (first_acquire n) tt) mine.known (acquire_first one_word c.args.owner v tt mine.idle mine.alone mine.some.0
    (search rules))

pub returns-in-Ok-clause-same : goal.returns-in-Ok-clause-same
returns-in-Ok-clause-same g c = same_pass (search rules) c.acquire_all.ensures.ends

pub returns-in-Err-clause-same : goal.returns-in-Err-clause-same
returns-in-Err-clause-same g c = same_pass (search rules) c.acquire_all.ensures.ends

-- an acquire that succeeds means what clause `acquired` says
pub returns-in-Ok-clause-acquired : goal.returns-in-Ok-clause-acquired
returns-in-Ok-clause-acquired g c =
    let v = seen c.args.pass.now.seated in
    let w = seen c.acquire_all.new.seat in
    let size = c.args.pass.now.known ∙ ap (λ (z : SetId). z.capacity) c.requires in
    subst (λ (a : Acquired). IfOk a (λ index. AcquireDone (capacity_of c.args.self.now) c.args.owner index v w)) c.in-Ok.is
    (acquire_done v w c.args.pass.now.idle c.args.owner (capacity_of c.args.self.now) size c.acquire_all.result c.acquire_all.ensures.ends)

pub returns-in-Ok-clause-lock : goal.returns-in-Ok-clause-lock
returns-in-Ok-clause-lock g c locked =
    let v = seen c.args.pass.now.seated in
    let w = seen c.acquire_all.new.seat in
    subst (λ (a : Acquired). a ≡ Err Locked) c.in-Ok.is (shut v w tt c.args.pass.now.idle c.args.owner c.acquire_all.result c.acquire_all.ensures.ends locked)

-- a refused acquire means what clause `refused` says
pub returns-in-Err-clause-refused : goal.returns-in-Err-clause-refused
returns-in-Err-clause-refused g c =
    let v = seen c.args.pass.now.seated in
    let w = seen c.acquire_all.new.seat in
    subst (λ (a : Acquired). IfErr a (λ e. AcquireRefused c.args.owner e v w)) c.in-Err.is
    (acquire_refused v w c.args.pass.now.idle c.args.owner c.acquire_all.result c.acquire_all.ensures.ends)

-- an acquire that begins where the lock was seen answers `IsLocked`
pub returns-in-Err-clause-lock : goal.returns-in-Err-clause-lock
returns-in-Err-clause-lock g c locked =
    let v = seen c.args.pass.now.seated in
    let w = seen c.acquire_all.new.seat in
    subst (λ (a : Acquired). a ≡ Err Locked) c.in-Err.is (shut v w tt c.args.pass.now.idle c.args.owner c.acquire_all.result c.acquire_all.ensures.ends
    locked)

-- the acquire took no more steps than clause `steps` says
pub returns-in-Ok-clause-steps : goal.returns-in-Ok-clause-steps
returns-in-Ok-clause-steps g c =
    let v = seen c.args.pass.now.seated in
    let w = seen c.acquire_all.new.seat in
    subst (λ n. TakesAlone (n + 3) (n + 1) v w) (c.args.pass.now.known ∙ ap (λ (z : SetId). z.capacity) c.requires)
    (acquire_takes v w c.args.pass.now.idle c.args.owner c.acquire_all.result tt c.acquire_all.ensures.ends)

-- the acquire took no more steps than clause `steps` says
pub returns-in-Err-clause-steps : goal.returns-in-Err-clause-steps
returns-in-Err-clause-steps g c =
    let v = seen c.args.pass.now.seated in
    let w = seen c.acquire_all.new.seat in
    subst (λ n. TakesAlone (n + 3) (n + 1) v w) (c.args.pass.now.known ∙ ap (λ (z : SetId). z.capacity) c.requires)
    (acquire_takes v w c.args.pass.now.idle c.args.owner c.acquire_all.result tt c.acquire_all.ensures.ends)
