-- `lease` (src/leases.rt): the invariant of its loop holds at the start and after each iteration.
use Rattle.std.proofs.Common.{rules, ◌≡◌, ◌<◌, Ok, IfOk, [], ◌∷◌, ◌++◌, refl, sym, subst, ◌∙◌}
use Rattle.uses_programs.proofs.Names.{All, All-nil, All-push}
use Rattle.lock_free.specs.RobustUniqueIndexSet.{view, made, capacity_of}
use Rattle.lock_free.specs.Robust.Calls.{AcquireDone}
use Rattle.uses_programs.specs.Leases.{HasLeased}
use Rattle.uses_programs.proofs.Leased.{leased_none, leased_more}
use Rattle.uses_programs.proofs.leases.lease.Goals as goal

-- no index was leased yet
pub loop-init : goal.loop-init
loop-init g c =
    let nothing = sym c.new-indices.ensures.items in
    record {
      same_set = refl;
      same_share = refl;
      within = subst (All (λ i. i < capacity_of c.args.pool.now)) nothing (All-nil (λ i. i < capacity_of c.args.pool.now));
      leased = subst (λ xs. HasLeased xs (made c.args.pass)) nothing (subst (HasLeased []) (sym c.requires.none) leased_none);
    }

-- one more index was granted, and is appended to `indices`
pub loop-preserved : goal.loop-preserved
loop-preserved g c =
    let index = c.in_ok-index.index in
    let was = c.loop.invariant in
    let items : c.push.new.self.items ≡ c.loop.indices.items ++ index ∷ [] = search rules in
    let got : c.acquire.result ≡ Ok index = search rules in
    let done = subst (λ r. IfOk r (λ i. AcquireDone (capacity_of c.args.pool.now) c.args.owner i (view c.loop.pass) (view c.acquire.new.pass))) got
    c.acquire.ensures.acquired in
    record {
      same_set = c.acquire.ensures.same.set ∙ was.same_set;
      same_share = c.acquire.ensures.same.goes.share ∙ was.same_share;
      within = subst (All (λ i. i < capacity_of c.args.pool.now)) (sym items)
          (All-push (λ i. i < capacity_of c.args.pool.now) c.loop.indices.items index was.within done.within);
      leased = subst (λ xs. HasLeased xs (made c.acquire.new.pass)) (sym items)
          (leased_more (view c.loop.pass) (view c.acquire.new.pass) c.loop.indices.items index c.args.owner was.leased done.taken);
    }
