-- `add_within` (src/runs.rt): its return meets what it ensures (`OwnersGoOn`).
use Rattle.std.proofs.Common.{ℕ, ◌+◌, ap, subst, ◌∙◌}
use Rattle.threaded.specs.Sets.{SetId}
use Rattle.model.specs.declared.turn.Kind.TheVariants.{Container}
use Rattle.model.specs.LockFree.{IsDefault, default_container_bound}
use Rattle.lock_free.specs.Coding.{Coding}
use Rattle.lock_free.specs.Container.Names.{capacity_of, code_of, view}
use Rattle.lock_free.specs.Container.Steps.{to_settle}
use Rattle.lock_free.specs.History.{Continues, Knows}
use Rattle.headline_threads.proofs.Ending.{EndsSuch}
use Rattle.uses_laws.proofs.Running.{owners_go_on_within}
use Rattle.uses_laws.proofs.runs.add_within.Goals as goal

-- the run of the container goes on, and its steps are within the bounds of containers
pub returns : goal.returns
returns g c =
    let old = view c.args.pass.now in
    let new = view c.add-added.new.pass in
    let code : Coding ℕ = code_of c.args.pass.now in
    let capacity = capacity_of c.args.container.now in
    let same = c.add-added.ensures.same in
    -- the pass knew a run before the call, and knows one after it, of which the first is a beginning
    let knows : Knows code Container capacity old =
    subst (λ m. Knows code Container m old) (ap (λ (z : SetId). z.capacity) c.requires) c.history.ensures.run in
    let after : Knows code Container capacity new =
    subst (λ m. Knows code Container m new) (ap (λ (z : SetId). z.capacity) (same.container ∙ c.requires)) c.history-2.ensures.run in
    let later : Continues code Container capacity old new = record { first = same.goes.first; knows = after } in
    let ending = c.owners_keep_ending.ensures in
    let loads = c.owners_end_loads.ensures in
    -- the laws of containers, for calls that never lock
    let by_default : EndsSuch ℕ Container IsDefault default_container_bound =
    record {
      end = ending.container;
      keep = ending.container_keep;
      known = ending.container_known;
      between = loads.container_between;
      load = loads.container_load;
      asks = loads.container_asks;
      rest = loads.container_rest;
    }
    in
    -- one operation is aside, and one more if a find that rests is settled first
    let most = old.aside + (1 + to_settle old) in
    owners_go_on_within code Container capacity default_container_bound most old new knows later same.aside by_default
