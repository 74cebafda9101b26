-- `lease_within` (src/runs.rt): its return meets what it ensures (`OwnersGoOn`).
use Rattle.std.proofs.Common.{ℕ, ◌+◌, ap, subst, ◌∙◌}
use Rattle.threaded.specs.Sets.{SetId}
use Rattle.model.specs.declared.turn.Kind.TheVariants.{Robust}
use Rattle.model.specs.LockFree.{IsDefault, default_bound}
use Rattle.lock_free.specs.Coding.{one_word}
use Rattle.lock_free.specs.History.{Continues, Knows}
use Rattle.lock_free.specs.RobustUniqueIndexSet.{capacity_of, view}
use Rattle.headline_threads.proofs.Ending.{EndsSuch}
use Rattle.uses_laws.proofs.Running.{owners_go_on_within}
use Rattle.uses_laws.proofs.runs.lease_within.Goals as goal

-- the run of the set goes on, and its steps are within the bounds of robust sets
pub returns : goal.returns
returns g c =
    let old = view c.args.pass.now in
    let new = view c.acquire-leased.new.pass in
    let capacity = capacity_of c.args.pool.now in
    let same = c.acquire-leased.ensures.same in
    -- the pass knew a run before the call, and knows one after it, of which the first is a beginning
    let knows : Knows one_word Robust capacity old =
    subst (λ m. Knows one_word Robust m old) (ap (λ (z : SetId). z.capacity) c.requires) c.history.ensures.run in
    let after : Knows one_word Robust capacity new =
    subst (λ m. Knows one_word Robust m new) (ap (λ (z : SetId). z.capacity) (same.set ∙ c.requires)) c.history-2.ensures.run in
    let later : Continues one_word Robust capacity old new = record { first = same.goes.first; knows = after } in
    let ending = c.owners_keep_ending.ensures in
    let loads = c.owners_end_loads.ensures in
    -- the laws of robust sets, for calls that never lock
    let by_default : EndsSuch ℕ Robust IsDefault default_bound =
    record {
      end = ending.robust;
      keep = ending.robust_keep;
      known = ending.robust_known;
      between = loads.robust_between;
      load = loads.robust_load;
      asks = loads.robust_asks;
      rest = loads.robust_rest;
    }
    in
    owners_go_on_within one_word Robust capacity default_bound (old.aside + 1) old new knows later same.aside by_default
