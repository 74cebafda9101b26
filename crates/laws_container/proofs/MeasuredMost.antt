-- The measure of `MeasuredCalls` is at most its bound: no call of a container that does not lock has more
-- steps left, and none adds more often to the steps of others, than the measure names.
use Rattle.std.proofs.Common.{◌≡◌, ℕ, ◌+◌, ◌-◌, ◌*◌, ◌≤◌, ◌==◌, nat_lt, max}
use Rattle.std.proofs.Common.{List, get_or, sym, subst, arith}
use Rattle.steps.specs.declared.container.add.AddStage.{AddStage}
use Rattle.steps.specs.declared.container.add.AddStage.TheVariants as adds
use Rattle.steps.specs.declared.container.find.FindStage.{FindStage}
use Rattle.steps.specs.declared.container.find.FindStage.TheVariants as finds
use Rattle.steps.specs.declared.container.look.LookStage.{LookStage}
use Rattle.steps.specs.declared.container.look.LookStage.TheVariants as looks
use Rattle.steps.specs.declared.container.recover.RecoverStage.{RecoverStage}
use Rattle.steps.specs.declared.container.recover.RecoverStage.TheVariants as recovers
use Rattle.steps.specs.declared.container.remove.RemoveStage.{RemoveStage}
use Rattle.steps.specs.declared.container.remove.RemoveStage.TheVariants as removes
use Rattle.steps.specs.declared.container.replace.ReplaceStage as replaces
use Rattle.steps.specs.declared.indices.robust.acquire.AcquireStage.{AcquireStage}
use Rattle.steps.specs.declared.indices.robust.acquire.AcquireStage.TheVariants as acquires
use Rattle.steps.specs.declared.indices.robust.parts.Count.{Count}
use Rattle.steps.specs.declared.indices.robust.parts.Count.TheVariants as counts
use Rattle.steps.specs.declared.indices.robust.release.ReleaseStage.{ReleaseStage}
use Rattle.steps.specs.declared.indices.robust.release.ReleaseStage.TheVariants as releases
use Rattle.model.specs.declared.families.Flight.{Flight}
use Rattle.model.specs.declared.families.Flight.TheVariants as flights
use Rattle.model.specs.declared.families.container.calls.ContainerFlight.TheVariants as calls
use Rattle.model.proofs.LockFree.Measure.{worth}
use Rattle.laws_robust.proofs.Measured.{raise_left, acquire_left, count_left, release_left}
use Rattle.laws_robust.proofs.LockFree.{one_of, raise_most}
use Rattle.laws_container.proofs.MeasuredCalls.{again_at, behind, add_left, remove_left, replace_left, find_left, recover_left, look_left}
use Rattle.laws_container.proofs.MeasuredCalls.{add_pays, remove_pays, replace_pays, recover_pays}
use Rattle.laws_container.proofs.MeasuredCalls.{left, pays}

-- ---- no call has more left

-- all indices but one and the last one take as many steps as all indices, where each takes `z + 8`
all_behind : (c z : ℕ) → 1 ≤ c → (c - 1) * (z + 8) + (z + 8) ≡ c * (z + 8)
all_behind c z some = let one : c ≡ c - 1 + 1 = omega arith in subst (λ n. (c - 1) * (z + 8) + (z + 8) ≡ n * (z + 8)) (sym one) (omega arith)

-- indices that take fewer steps each take fewer in all
fewer_each : (k z less : ℕ) → k * (z + less) ≤ k * (z + (less + 4))
fewer_each k z less = omega arith

-- a container of capacity `c`, whose values have `size` words; the machine's words are `words`
module _ (c size : ℕ) (some : 1 ≤ c) (wide : 1 ≤ size) (words : List ℕ) where
  abbrev z : ℕ
  z = size - 1

  -- the most steps that any call has left
  abbrev alone : ℕ
  alone = c * (size + 7) + max 2 size

  -- the most steps are those of all indices, for a recovery, and the larger of 2 and the size
  alone_is : alone ≡ (c - 1) * (z + 8) + (z + 8) + max 2 size
  alone_is = let same : size + 7 ≡ z + 8 = omega arith in let all = all_behind c z some in rw same (omega arith)

  -- the larger of 2 and the size is at least each of them
  two : (2 ≤ max 2 size) × (size ≤ max 2 size)
  two = (grind arith, grind arith)

  -- the indices behind any index take a recovery no more steps than all indices but one
  recovers_behind : (index : ℕ) → behind size c (z + 8) index ≤ (c - 1) * (z + 8)
  recovers_behind index = worth (c - (index + 1)) (c - 1) (z + 8) (omega arith)

  -- the indices behind any index take a find no more steps than all indices but one take a recovery
  finds_behind : (index : ℕ) → behind size c (z + 4) index ≤ (c - 1) * (z + 8)
  finds_behind index =
      let few = worth (c - (index + 1)) (c - 1) (z + 4) (omega arith) in
      let each = fewer_each (c - 1) z 4 in
      omega arith

  -- the indices behind any index take a look no more steps than all indices but one take a recovery
  looks_behind : (index : ℕ) → behind size c (z + 3) index ≤ (c - 1) * (z + 8)
  looks_behind index =
      let few = worth (c - (index + 1)) (c - 1) (z + 3) (omega arith) in
      let each = fewer_each (c - 1) z 3 in
      let more = fewer_each (c - 1) z 4 in
      omega arith

  -- a copy that has to be made again takes at most two steps more than `z`
  again_most : (index count : ℕ) → again_at size c words index count ≤ z + 2
  again_most index count =
      one_of (nat_lt index c) _ 0 (z + 2)
      (one_of (get_or words _ 0 == count) 0 _ (z + 2) (omega arith) (one_of _ 0 (z + 2) (z + 2) (omega arith) (omega arith))) (omega arith)

  -- steps at the indices behind one and a few more are within the most of a call
  ends_most : (k : ℕ) → {n : ℕ} → n ≤ (c - 1) * (z + 8) → k ≤ z + 8 + max 2 size → n + k ≤ alone
  ends_most k less end = let all = alone_is in omega arith

  -- as many steps as twice the capacity, the size and six are within the most of a call
  few_most : (n : ℕ) → n ≤ 2 * c + size + 6 → n ≤ alone
  few_most n less =
      let all = alone_is in
      let max = two in
      let each = worth_each in
      omega arith
    where
      worth_each : (c - 1) * 8 ≤ (c - 1) * (z + 8)
      worth_each = omega arith

  -- a find has at most `alone` steps left
  find_most : (stage : FindStage) → find_left size c stage ≤ alone
  find_most (finds.LoadsCell index found) = ends_most (z + 4) (finds_behind index) (omega arith)
  find_most (finds.LoadsCount index found) = ends_most (z + 3) (finds_behind index) (omega arith)
  find_most (finds.LoadsWord index found count at) = ends_most (size - (at + 1) + 2) (finds_behind index) (omega arith)
  find_most (finds.ChecksCount index found count) = ends_most 1 (finds_behind index) (omega arith)
  find_most (finds.Asks index found) = let most = ends_most 0 (finds_behind index) (omega arith) in omega arith

  -- a recovery that does not lock has at most `alone` steps left
  recover_most : (stage : RecoverStage) → recover_left size c words stage ≤ alone
  recover_most recovers.LoadsCounter = let max = two in ends_most (z + 10) (recovers_behind 0) (omega arith)
  recover_most (recovers.LoadsCell index) = let max = two in ends_most (z + 9) (recovers_behind index) (omega arith)
  recover_most (recovers.LoadsCount index) = ends_most (z + 8) (recovers_behind index) (omega arith)
  recover_most (recovers.LoadsWord index count at) =
      let max = two in let most = again_most index count in
      ends_most (size - (at + 1) + 7 + again_at size c words index count) (recovers_behind index) (omega arith)
  recover_most (recovers.ChecksCount index count) =
      let max = two in let most = again_most index count in
      ends_most (6 + again_at size c words index count) (recovers_behind index) (omega arith)
  recover_most (recovers.Asks index count) = ends_most 5 (recovers_behind index) (omega arith)
  recover_most (recovers.EmptiesCell index count) = ends_most 5 (recovers_behind index) (omega arith)
  recover_most (recovers.Hides index count) = ends_most 4 (recovers_behind index) (omega arith)
  recover_most (recovers.Raises index raise) =
      let most = raise_most c some (get_or words 0 0) raise in
      ends_most (2 + raise_left (get_or words 0 0) raise) (recovers_behind index) (omega arith)
  recover_most (recovers.Locks index lock) = omega arith
  recover_most recovers.LoadsCounterAgain = few_most 1 (omega arith)
  recover_most (recovers.AddsChange end) = omega arith

  -- a look has at most `alone` steps left
  look_most : (stage : LookStage) → look_left size c words stage ≤ alone
  look_most looks.LoadsChange = ends_most (z + 3) (looks_behind 0) (omega arith)
  look_most (looks.LoadsCount index) = ends_most (z + 2) (looks_behind index) (omega arith)
  look_most (looks.LoadsWord index count at) =
      let max = two in let most = again_most index count in
      ends_most (size - (at + 1) + 1 + again_at size c words index count) (looks_behind index) (omega arith)
  look_most (looks.ChecksCount index count) =
      let most = again_most index count in
      ends_most (again_at size c words index count) (looks_behind index) (omega arith)

  -- an acquire of the set has at most twice the capacity and two steps left
  acquire_few : (now : ℕ) (stage : AcquireStage) → acquire_left c now stage ≤ 2 * c + 2
  acquire_few now acquires.LoadsCounter = omega arith
  acquire_few now (acquires.FillsCell counter index) =
      one_of (now == counter) (c - (index + 1) + 2) (c - (index + 1) + (c - 1) + 4) (2 * c + 2) (omega arith) (omega arith)
  acquire_few now (acquires.ChecksCounter counter) = one_of _ 0 (c - 1 + 3) (2 * c + 2) (omega arith) (omega arith)
  acquire_few now (acquires.Raises index raise) = let most = raise_most c some now raise in omega arith

  -- a call on the length has at most twice the capacity and two steps left
  count_few : (now : ℕ) (count : Count) → count_left c now count ≤ 2 * c + 2
  count_few now counts.LoadsCounter = omega arith
  count_few now (counts.LoadsCell counter index filled) =
      one_of (now == counter) (c - (index + 1) + 1) (c - (index + 1) + (c - 1) + 4) (2 * c + 2) (omega arith) (omega arith)
  count_few now (counts.ExchangesCounter counter filled) = one_of _ 0 (c - 1 + 3) (2 * c + 2) (omega arith) (omega arith)

  -- a release of the set has at most two steps left
  release_few : (now : ℕ) (stage : ReleaseStage) → release_left c now stage ≤ 2
  release_few now releases.EmptiesCell = omega arith
  release_few now (releases.Raises raise) = let most = raise_most c some now raise in omega arith
  release_few now (releases.Locks lock) = omega arith

  -- an add has at most twice the capacity, the size and six steps left
  add_most : (now : ℕ) (stage : AddStage) → add_left size c now stage ≤ 2 * c + size + 6
  add_most now (adds.Acquires stage) = let most = acquire_few now stage in omega arith
  add_most now (adds.LoadsCount index) = omega arith
  add_most now (adds.Hides index count) = omega arith
  add_most now (adds.Stores index at) = omega arith
  add_most now (adds.AddsCount index) = omega arith
  add_most now (adds.AddsChange index) = omega arith

  -- a remove has at most twice the capacity, the size and six steps left
  remove_most : (now : ℕ) (stage : RemoveStage) → remove_left size c now stage ≤ 2 * c + size + 6
  remove_most now (removes.Releases count stage) = let most = release_few now stage in omega arith
  remove_most now removes.Refuses = omega arith
  remove_most now removes.LoadsCount = omega arith
  remove_most now (removes.Hides count end) = omega arith
  remove_most now (removes.AddsChange end) = omega arith

  -- a replace has at most twice the capacity, the size and six steps left
  replace_most : (stage : replaces.ReplaceStage) → replace_left size c stage ≤ 2 * c + size + 6
  replace_most = grind arith

  -- the larger of 2 and the capacity is at least each of them
  two_of : (2 ≤ max 2 c) × (c ≤ max 2 c)
  two_of = (grind arith, grind arith)

  adds_pay : (stage : AddStage) → add_pays stage ≤ 2
  adds_pay = grind arith

  removes_pay : (stage : RemoveStage) → remove_pays stage ≤ 2
  removes_pay = grind arith

  replaces_pay : (stage : replaces.ReplaceStage) → replace_pays stage ≤ 2
  replaces_pay = grind arith

  -- a recovery adds at most once for each index to the steps of others
  recovers_pay : (stage : RecoverStage) → recover_pays c stage ≤ c
  recovers_pay = grind arith

  -- no call has more than `alone` steps left, nor adds more often to the steps of others than the larger of 2
  -- and the capacity
  pub most : {T : Type 0} → (flight : Flight T) → (left size c words flight ≤ alone) × (pays c flight ≤ max 2 c)
  most (flights.Container (calls.Add run)) =
      let few = two_of in let pays = adds_pay run.call.stage in
      (few_most _ (add_most (get_or words 0 0) run.call.stage), omega arith)
  most (flights.Container (calls.Remove run)) =
      let few = two_of in let pays = removes_pay run.call.stage in
      (few_most _ (remove_most (get_or words 0 0) run.call.stage), omega arith)
  most (flights.Container (calls.Replace run)) =
      let few = two_of in let pays = replaces_pay run.call.stage in
      (few_most _ (replace_most run.call.stage), omega arith)
  most (flights.Container (calls.Find run)) = (find_most run.call.stage, omega arith)
  most (flights.Container (calls.Recover run)) =
      let few = two_of in let pays = recovers_pay run.call.stage in
      (recover_most run.call.stage, omega arith)
  most (flights.Container (calls.Look which call)) = (look_most call.stage, omega arith)
  most (flights.Container (calls.Count which run)) =
      let less = count_few (get_or words 0 0) run.call.count in
      (few_most _ (omega arith), omega arith)
  most (flights.Container (calls.IsLocked run)) = (omega arith, omega arith)
  most flight = (omega arith, omega arith)
