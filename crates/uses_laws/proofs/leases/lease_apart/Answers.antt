-- `lease_apart` (src/leases.rt): an index that nobody has given back or freed was granted only where nobody held it.
use Rattle.std.proofs.Common.{◌≡◌, IfOk, refl, sym, subst}
use Rattle.lock_free.specs.Event.TheVariants.{Granted}
use Rattle.lock_free.specs.GrantLaws.{times_freed}
use Rattle.lock_free.specs.Robust.Calls.{AcquireDone}
use Rattle.lock_free.specs.RobustUniqueIndexSet.{capacity_of, history, set_of, share, view}
use Rattle.lock_free.specs.Shares.{IsAll}
use Rattle.uses_laws.proofs.Full.{never_freed}
use Rattle.uses_laws.proofs.leases.lease_apart.Goals as goal

-- whenever an index was granted that was acquired now and never freed by the pass, nobody held it
pub returns : goal.returns
returns g c index is never by other before rest at =
    let old = view c.args.pass.now in
    let after = c.acquire-leased.new.pass in
    let new = view after in
    let same = c.acquire-leased.ensures.same in
    let whole : IsAll (share after) = subst IsAll (sym same.goes.share) c.requires.whole in
    let took = subst (λ r. IfOk r (λ i. AcquireDone (capacity_of c.args.pool.now) c.args.owner i old new)) is c.acquire-leased.ensures.acquired in
    let none : times_freed index (history after) ≡ 0 = never_freed c.args.owner index old new took.taken (same.goes.all whole) index never in
    c.set_indices_are_held_by_one.ensures index (set_of after).capacity (history after) c.history.ensures.history
    (c.indices_never_freed_are_freed_right.ensures index (history after) none) before rest (Granted by index other) at refl
