-- `take_by_halves` (src/ending.rt): its return meets what it ensures (`AsksAreWithinLoad`).
use Rattle.std.proofs.Common.{◌≡◌, ◌≤◌, ℕ, zero, suc, ◌+◌, ◌-◌, ◌*◌, length, sym, ap, ap₂, subst, ◌∙◌, arith}
use Rattle.std.proofs.Common.{mul-add, mul_assoc, suc-mul}
use Rattle.model.specs.declared.turn.Kind.TheVariants.{Indices}
use Rattle.model.specs.Loads.{begun, load}
use Rattle.model.specs.LockFree.{stretch}
use Rattle.headline_threads.specs.Ends.{AllActorsAreSeen, KnownAsksLoad}
use Rattle.lock_free.specs.Coding.{one_word}
use Rattle.lock_free.specs.History.{Knows}
use Rattle.lock_free.specs.HistoryView.View.{View}
use Rattle.lock_free.specs.UniqueIndexSet.{SetId, capacity_of, set_id, set_of, view}
use Rattle.uses_laws.specs.Ending.{AsksAreWithinLoad}
use Rattle.uses_laws.proofs.ending.take_by_halves.Goals as goal

-- one change by each of n parties, which costs each other one what a call takes alone
square : (n alone : ℕ) → stretch n 1 alone ≡ n * n * alone
square zero alone = omega arith
square (suc m) alone =
    let once : suc m * 1 ≡ suc m = omega arith in
    let others : suc m - 1 ≡ m = omega arith in
    ap₂ (λ (x y : ℕ). x * (y * alone) + suc m * alone) once others
    ∙ (sym (mul-add (suc m) (m * alone) alone)
    ∙ (ap (λ (x : ℕ). suc m * x) (sym (suc-mul m alone)) ∙ sym (mul_assoc (suc m) (suc m) alone)))

-- what a pass of a unique index set has asked for is within its load and what was aside
within : (capacity aside : ℕ) (v : View ℕ) → KnownAsksLoad ℕ Indices (λ n capacity size. stretch n 1 (capacity + 4)) → AllActorsAreSeen ℕ
    → Knows one_word Indices capacity v → v.aside ≤ aside → AsksAreWithinLoad capacity aside v
within capacity aside v law seen knows few parties are =
    let n = length parties in
    let act = seen one_word Indices capacity v knows parties are in
    let asks : v.asked ≤ v.aside + load (stretch n 1 (capacity + 4)) (begun v.seen) = law one_word capacity v knows parties act in
    let is = square n (capacity + 4) in
    let most : v.asked ≤ v.aside + load (n * n * (capacity + 4)) (begun v.seen) =
    subst (λ (b : ℕ). v.asked ≤ v.aside + load b (begun v.seen)) is asks in
    omega (most, arith)

-- where both halves have acquired, what the pass has asked for is within its load and what was aside
pub returns : goal.returns
returns g c =
    let old = view c.args.pass.now in
    let new = view c.join.new.self in
    let capacity = capacity_of c.args.set.now in
    let one = c.acquire_raw_index-one in
    let two = c.acquire_raw_index-two in
    let same : set_of c.join.new.self ≡ set_id c.args.set.now =
    c.join.ensures.same.set ∙ (one.ensures.same.set ∙ (c.split.ensures.set ∙ c.requires)) in
    let knows : Knows one_word Indices capacity new =
    subst (λ m. Knows one_word Indices m new) (ap (λ (z : SetId). z.capacity) same) c.history-2.ensures.run in
    let cut = c.in_ok-other.ensures.cut in
    let mine = one.ensures.same.aside in
    let theirs = two.ensures.same.aside in
    let joined = c.join.ensures.same.joined in
    let most = c.join.ensures.steps in
    let few : new.aside ≤ old.aside + 5 = omega arith in
    within capacity (old.aside + 5) new (c.passes_end_loads.ensures.asks Indices) c.actors_are_seen.ensures.all knows few

-- it was not split, and nothing changed
pub returns-in_err-other : goal.returns-in_err-other
returns-in_err-other g c =
    let old = view c.args.pass.now in
    let capacity = capacity_of c.args.set.now in
    let knows : Knows one_word Indices capacity old =
    subst (λ m. Knows one_word Indices m old) (ap (λ (z : SetId). z.capacity) c.requires) c.history.ensures.run in
    let few : old.aside ≤ old.aside + 5 = omega arith in
    subst (λ v. AsksAreWithinLoad capacity (old.aside + 5) v) (sym c.in_err-other.ensures.none)
    (within capacity (old.aside + 5) old (c.passes_end_loads.ensures.asks Indices) c.actors_are_seen.ensures.all knows few)
