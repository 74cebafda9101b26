-- `lease` (src/leases.rt): its return meets the clause `full`.
use Rattle.std.proofs.Common.{rules, subst, IfErr}
use Rattle.lock_free.specs.Robust.Calls.{AcquireRefused}
use Rattle.lock_free.specs.RobustUniqueIndexSet.{share, view}
use Rattle.lock_free.specs.Shares.{IsAll}
use Rattle.uses_laws.proofs.Full.{was_full}
use Rattle.uses_laws.proofs.leases.lease.Goals as goal

-- where no index was left, each one had an owner at a moment of the call
pub returns-clause-full : goal.returns-clause-full
returns-clause-full g c is =
    let still : IsAll (share c.acquire.new.pass) = search rules in
    let none = subst (λ r. IfErr r (λ e. AcquireRefused c.args.owner e (view c.args.pass.now) (view c.acquire.new.pass))) is c.acquire.ensures.refused in
    was_full c.calls_that_lock_are_apart.ensures c.args.owner
    (view c.args.pass.now) (view c.acquire.new.pass) none.taken none.refused (c.acquire.ensures.same.goes.all still) c.requires.young
