-- `take_beside_a_half` (src/runs.rt): what the pass knows in the end goes on from what it knew before.
use Rattle.std.proofs.Common.{◌≡◌, ◌≤◌, ℕ, ◌+◌, ap, subst, ◌∙◌, arith}
use Rattle.model.specs.declared.turn.Kind.TheVariants.{Indices}
use Rattle.model.specs.LockFree.{Bound, stretch}
use Rattle.lock_free.specs.Coding.{one_word}
use Rattle.lock_free.specs.History.{Continues, Knows}
use Rattle.lock_free.specs.UniqueIndexSet.{SetId, capacity_of, set_id, set_of, view}
use Rattle.headline_threads.proofs.Ending.{EndsAll}
use Rattle.uses_laws.proofs.Running.{goes_on_within}
use Rattle.uses_laws.proofs.runs.take_beside_a_half.Goals as goal

same_size : {one other : SetId} → one ≡ other → one.capacity ≡ other.capacity
same_size one_is_other = ap (λ (z : SetId). z.capacity) one_is_other

-- where a half was split off, the run goes on over the split, the acquire and the join, and its
-- steps are within the bound of unique index sets
pub returns : goal.returns
returns g c =
    let old = view c.args.pass.now in
    let left = view c.split.new.self in
    let right = view c.in_ok-other.other in
    let taken = view c.acquire_raw_index-taken.new.pass in
    let new = view c.join.new.self in
    let capacity = capacity_of c.args.set.now in
    let call = c.acquire_raw_index-taken.ensures in
    let cut = c.in_ok-other.ensures.cut in
    let joined = c.join.ensures.same.joined in
    let was : set_of c.args.pass.now ≡ set_id c.args.set.now = c.requires in
    -- the runs that the pass knew before, between and after
    let knows : Knows one_word Indices capacity old = subst (λ m. Knows one_word Indices m old) (same_size was) c.history.ensures.run in
    let between : Knows one_word Indices capacity taken =
    subst (λ m. Knows one_word Indices m taken) (same_size (call.same.set ∙ (c.split.ensures.set ∙ was))) c.history-2.ensures.run in
    let after : Knows one_word Indices capacity new =
    subst (λ m. Knows one_word Indices m new) (same_size (c.join.ensures.same.set ∙ (call.same.set ∙ (c.split.ensures.set ∙ was)))) c.history-3.ensures.run in
    let run = c.runs_go_on.ensures in
    -- each goes on from the one before: over the split, the acquire and the join
    let one : Continues one_word Indices capacity old left = (run.splits one_word Indices capacity old left right cut knows).0 in
    let two : Continues one_word Indices capacity left taken = record { first = call.same.first; knows = between } in
    let three : Continues one_word Indices capacity taken new = (run.joins one_word Indices capacity taken right new joined after).0 in
    let later : Continues one_word Indices capacity old new =
    run.calls one_word Indices capacity old taken new (run.calls one_word Indices capacity old left taken one two) three in
    let bound : Bound = λ n capacity size. stretch n 1 (capacity + 4) in
    -- the laws of unique index sets
    let laws : EndsAll ℕ Indices bound =
    record {
      end = c.passes_keep_ending.ensures.ends Indices;
      keep = c.passes_keep_ending.ensures.keep Indices;
      known = c.passes_keep_ending.ensures.known Indices;
      between = c.passes_end_loads.ensures.between Indices;
      load = c.passes_end_loads.ensures.known Indices;
      asks = c.passes_end_loads.ensures.asks Indices;
      rest = c.passes_end_loads.ensures.rest Indices;
    }
    in
    let mine = call.same.aside in
    let most = c.join.ensures.steps in
    -- one operation for the split, one for the acquire and two for the join are aside
    let few : new.aside ≤ old.aside + 4 = omega arith in
    goes_on_within one_word Indices capacity bound (old.aside + 4) old new knows later few laws
