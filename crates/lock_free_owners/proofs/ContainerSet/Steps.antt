-- How many operations the calls of a container take, from the bounds of the model.
use Rattle.std.proofs.Common.{arith}
use Rattle.lock_free_owners.proofs.Names.{◌≡◌, inl, inr, ℕ, ◌+◌, ◌*◌, ◌≤◌, Bool, ap, subst, Coding, View, Calling, Ends}
use Rattle.lock_free_owners.proofs.Names.{Owned, Added, Removed, Replacement, Replaced, ReleaseMode, ReleaseState}
use Rattle.lock_free_owners.proofs.Names.{Default, LockIfLastIndex, CountOf, SettledFrom, adds_value, removes_value, replaces_value}
use Rattle.lock_free_owners.proofs.Names.{counts_values, sees_lock, looking, RestedLooked, Numbers, Showing}
use Rattle.model.specs.declared.families.container.calls.CountOf.TheVariants as counts
use Rattle.model.specs.declared.families.container.calls.LookOf.{LookOf}
use Rattle.model.specs.declared.families.container.calls.LookOf.TheVariants as which_looks
use Rattle.model.specs.declared.turn.Kind.TheVariants as kinds
use Rattle.model.specs.Progress.{Guarantee, WaitFree, ObstructionFree, guarantee_of}
use Rattle.history_owners.proofs.Containers.{container_pays}
use Rattle.history.proofs.Paid.{AllowsOne, TakesBy, takes}
use Rattle.lock_free_owners.specs.Container.RecoverTurns.{Visiting, RecoverEnds, recovering}
use Rattle.lock_free_owners.specs.Container.Steps.{one_if_some, to_settle, TakesFew, ContainerTakes, RemoveTakes, RecoverTakes, LookTakes}
use Rattle.lock_free_owners.specs.Container.Turns.{AddEnds, RemoveEnds, ReplaceEnds, CountEnds, LockEnds}
use Rattle.lock_free_owners.proofs.ContainerSet.Began.{idle_from, capacity_from}

-- what a guarantee says of a call of a pass
abbrev pub TakesThen : {T : Type 0} → Guarantee → View T → View T → Type 0
TakesThen (WaitFree most) old new = TakesFew most old new
TakesThen (ObstructionFree alone retry) old new = ContainerTakes alone retry old new

module _ {T : Type 0} {code : Coding T} {base from : View T} (settled : SettledFrom code kinds.Container base from) where
  -- Settling asks for one operation at most, and for none where no call rested.
  settling : SettledFrom code kinds.Container base from → from.asked ≤ base.asked + to_settle base
  settling (inl h) = (let same = ap (λ (z : View T). z.asked) h.0 in omega arith)
  settling (inr h) = (let few = h.asked in let rests = ap one_if_some h.resting.going in omega arith)

  -- The bounds of two parts, one after the other, sum up.
  more : (asked before most after rest : ℕ) → asked ≤ before + most → before ≤ after + rest → asked ≤ after + (most + rest)
  more asked before most after rest h k = omega arith

  -- The bounds of two parts sum up, with what is paid for changes of others.
  more_alone : (asked before alone paid after rest : ℕ) → asked ≤ before + (alone + paid) → before ≤ after + rest
      → asked ≤ after + ((alone + rest) + paid)
  more_alone asked before alone paid after rest h k = omega arith

  -- A call behind a settled view takes what its guarantee says, and what settling took.
  pub takes_then : (capacity : ℕ) (g : Guarantee) (w : View T) → TakesBy code kinds.Container capacity g from w → TakesThen g base w
  takes_then capacity (WaitFree most) w h = more w.asked from.asked most base.asked (to_settle base) h (settling settled)
  takes_then capacity (ObstructionFree alone retry) w h =
      more_alone w.asked from.asked alone (w.others * retry) base.asked (to_settle base) h (settling settled)

  -- A call that has ended took at most what the model says of it, and one operation more if the last call of
  -- the pass rested.
  pub takes_so : {C M E : Type 0} (call : Calling T C M E) {w : View T} {e : E} {m : M}
      → AllowsOne (guarantee_of kinds.Container base.capacity code.size call.start) → Ends code kinds.Container call from e m w
      → TakesThen (guarantee_of kinds.Container base.capacity code.size call.start) base w
  takes_so call {w} {e} {m} least ends =
      takes_then base.capacity (guarantee_of kinds.Container base.capacity code.size call.start) w
      (subst (λ n. AllowsOne (guarantee_of kinds.Container n code.size call.start)
      → TakesBy code kinds.Container n (guarantee_of kinds.Container n code.size call.start) from w) (capacity_from settled)
      (λ one. let took = takes code kinds.Container call from w e m (idle_from settled) in took (container_pays code from.capacity) one ends) least)

-- A call led from the view `base`, of a container of this capacity, to w.
module _ {T : Type 0} (code : Coding T) {base w : View T} {capacity : ℕ} (is : base.capacity ≡ capacity) where
  -- An add takes at most what the model says of it, and one operation more if the last call of its pass rested.
  pub add_takes : (given : Owned T) {answer : Added} → AddEnds code given base answer tt w
      → ContainerTakes (capacity + 7 + code.size) (capacity + 1) base w
  add_takes given ends =
      subst (λ n. ContainerTakes (n + 7 + code.size) (n + 1) base w) is (takes_so ends.settled (adds_value code.size given) (omega arith) ends.over)

  -- A remove takes at most what the model says of it in its mode, and one operation more if the last call of its pass rested.
  pub remove_takes : (index owner : ℕ) (mode : ReleaseMode) {answer : Removed}
      → RemoveEnds code (record { index = index; owner = owner; mode = mode }) base answer tt w → RemoveTakes capacity mode base w
  remove_takes index owner Default ends =
      subst (λ n. RemoveTakes n Default base w) is
      (takes_so ends.settled (removes_value (record { index = index; owner = owner; mode = Default })) (omega arith) ends.over)
  remove_takes index owner LockIfLastIndex ends =
      subst (λ n. RemoveTakes n LockIfLastIndex base w) is
      (takes_so ends.settled (removes_value (record { index = index; owner = owner; mode = LockIfLastIndex })) (omega arith) ends.over)

  -- A count takes at most capacity + 2 operations alone, as many more for each change of a word by others, and one more if the last
  -- call of its pass rested.
  pub count_takes : (which : CountOf) {n : ℕ} → CountEnds code which base n tt w → ContainerTakes (capacity + 2) (capacity + 2) base w
  count_takes counts.Len ends =
      subst (λ n. ContainerTakes (n + 2) (n + 2) base w) is (takes_so ends.settled (counts_values counts.Len) (omega arith) ends.over)
  count_takes counts.IsEmpty ends =
      subst (λ n. ContainerTakes (n + 2) (n + 2) base w) is (takes_so ends.settled (counts_values counts.IsEmpty) (omega arith) ends.over)

  -- A recovery takes at most what the model says of it in its mode, and one operation more if the last call of its pass rested.
  pub recover_takes : (owner : ℕ) (mode : ReleaseMode) {state : ReleaseState} {m : Visiting T}
      → RecoverEnds code (record { owner = owner; mode = mode }) base state m w → RecoverTakes code.size capacity mode base w
  recover_takes owner Default ends =
      subst (λ n. RecoverTakes code.size n Default base w) is
      (takes_so ends.settled (recovering code (record { owner = owner; mode = Default })) (omega arith) ends.over)
  recover_takes owner LockIfLastIndex ends =
      subst (λ n. RecoverTakes code.size n LockIfLastIndex base w) is
      (takes_so ends.settled (recovering code (record { owner = owner; mode = LockIfLastIndex })) (omega arith) ends.over)

  -- A look of a state takes at most what the model says of it, and one operation more if the last call of its pass rested.
  pub look_takes : (which : LookOf) (seen : Numbers) (changed : Bool) (m : Showing T)
      → RestedLooked code which base.capacity seen base changed m w → LookTakes code.size capacity base w
  look_takes which_looks.GetState seen changed m ends =
      subst (λ n. LookTakes code.size n base w) is
      (takes_so ends.settled (looking code which_looks.GetState base.capacity seen) (omega arith) ends.over.0)
  look_takes which_looks.UpdateState seen changed m ends =
      subst (λ n. LookTakes code.size n base w) is
      (takes_so ends.settled (looking code which_looks.UpdateState base.capacity seen) (omega arith) ends.over.0)

module _ {T : Type 0} (code : Coding T) {base w : View T} where
  -- A replace takes at most five operations and one for each word of the value, and one more if the last call of its pass rested.
  pub replace_takes : (given : Replacement T) {answer : Replaced} → ReplaceEnds code given base answer tt w → TakesFew (5 + code.size) base w
  replace_takes given ends = takes_so ends.settled (replaces_value code.size given) (omega arith) ends.over

  -- A call of `is_locked` takes at most one operation, and one more if the last call of its pass rested.
  pub lock_takes : {b : Bool} → LockEnds code base b tt w → TakesFew 1 base w
  lock_takes ends = takes_so ends.settled sees_lock (omega arith) ends.over
