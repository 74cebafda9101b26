-- What the calls of the container keep to: a store tells them nothing, and those that end by themselves come nearer to
-- their end at each step.
use Rattle.std.specs.Prelude.{◌≡◌, ℕ, ◌+◌, ◌-◌, ◌*◌, ◌<◌, ◌≤◌, IsTrue, List, nat_lt, refl}
use Rattle.std.proofs.Common.{arith, ap}
use Rattle.std.proofs.lemmas.Bool.Decides.{nat_tests}
use Rattle.steps.specs.Ask.{is_store}
use Rattle.steps.specs.Laws.{no_store}
use Rattle.steps.specs.Picks.{by_eq, by_test}
use Rattle.steps.specs.Indices.Robust.Parts.{one_more}
use Rattle.steps.specs.Indices.Robust.Laws.{raise_stores_not, lock_stores_not, acquire_tells, release_tells}
use Rattle.steps.specs.declared.ask.After.{After}
use Rattle.steps.specs.declared.ask.After.TheVariants.{GoOn, Done}
use Rattle.steps.specs.declared.indices.robust.release.GiveBack.{GiveBack}
use Rattle.steps.specs.declared.container.add.Add.{Add}
use Rattle.steps.specs.declared.container.add.AddStage.{AddStage}
use Rattle.steps.specs.declared.container.add.AddStage.TheVariants as adds
use Rattle.steps.specs.declared.container.add.Owned.{Owned}
use Rattle.steps.specs.declared.container.remove.Remove.{Remove}
use Rattle.steps.specs.declared.container.remove.RemoveStage.{RemoveStage}
use Rattle.steps.specs.declared.container.remove.RemoveStage.TheVariants as removes
use Rattle.steps.specs.declared.container.replace.Replace.{Replace}
use Rattle.steps.specs.declared.container.replace.ReplaceStage.{ReplaceStage}
use Rattle.steps.specs.declared.container.replace.ReplaceStage.TheVariants as replaces
use Rattle.steps.specs.declared.container.replace.Replacement.{Replacement}
use Rattle.steps.specs.declared.container.find.Find.{Find}
use Rattle.steps.specs.declared.container.find.FindStage.{FindStage}
use Rattle.steps.specs.declared.container.find.FindStage.TheVariants as finds
use Rattle.steps.specs.declared.container.recover.Recover.{Recover}
use Rattle.steps.specs.declared.container.recover.RecoverStage.{RecoverStage}
use Rattle.steps.specs.declared.container.recover.RecoverStage.TheVariants as recovers
use Rattle.steps.specs.declared.container.recover.DeadOwner.{DeadOwner}
use Rattle.steps.specs.declared.container.look.Look.{Look}
use Rattle.steps.specs.declared.container.look.LookStage.{LookStage}
use Rattle.steps.specs.declared.container.look.LookStage.TheVariants as looks
use Rattle.steps.specs.Container.Layout.{is_even}
use Rattle.steps.specs.Container.Add.{inner_acquire, add_asks, add_acquired, add_takes}
use Rattle.steps.specs.Container.Remove.{inner_release, remove_asks, remove_released, remove_takes}
use Rattle.steps.specs.Container.Replace.{Replaced, at_replace, replace_asks, replace_takes, replace_after, replace_left}
use Rattle.steps.specs.Container.Find.{at_find, find_asks, find_comes_to, find_takes, find_after, find_keeps, find_left}
use Rattle.steps.specs.Container.Recover.{recover_asks, recover_takes, recover_keeps}
use Rattle.steps.specs.Container.State.{Numbers, Showing}
use Rattle.steps.specs.Container.Look.{look_asks, look_takes, look_keeps}

-- ---- a store tells them nothing

module _ {T : Type 0} (words_of : T → List ℕ) (size : ℕ) where
  -- after a store an add goes on in the same way, whatever its word held before
  pub add_tells : (c : Add T) (stage : AddStage) (given : Owned T) (room : Unit {0}) (m n : ℕ)
      → IsTrue (is_store (add_asks words_of size c.capacity stage given))
      → (add_takes size c stage m ≡ add_takes size c stage n) × (room ≡ room)
  add_tells c (adds.Acquires stage) given room m n t = (
    ap (add_acquired c)
        (acquire_tells (inner_acquire c.capacity stage) stage given.owner room m n t).0,
    refl,
  )
  add_tells c (adds.LoadsCount index) given room m n t = no_store t
  add_tells c (adds.Hides index count) given room m n t = no_store t
  add_tells c (adds.Stores index at) given room m n t = (refl, refl)
  add_tells c (adds.AddsCount index) given room m n t = no_store t
  add_tells c (adds.AddsChange index) given room m n t = no_store t

  -- after a store a replace goes on in the same way, whatever its word held before
  pub replace_tells : (c : Replace T) (stage : ReplaceStage) (given : Replacement T)
      (room : Unit {0}) (m n : ℕ)
      → IsTrue (is_store (replace_asks words_of size c.capacity stage given))
      → (replace_takes size c stage given m ≡ replace_takes size c stage given n) × (room ≡ room)
  replace_tells c replaces.Refuses given room m n t = no_store t
  replace_tells c replaces.LoadsCell given room m n t = no_store t
  replace_tells c replaces.LoadsCount given room m n t = no_store t
  replace_tells c (replaces.Hides count) given room m n t = no_store t
  replace_tells c (replaces.Stores at) given room m n t = (refl, refl)
  replace_tells c replaces.AddsCount given room m n t = no_store t
  replace_tells c replaces.AddsChange given room m n t = no_store t

-- a removal has no store but those of its release
pub remove_tells : (c : Remove) (stage : RemoveStage) (given : GiveBack)
    (room : Unit {0}) (m n : ℕ) → IsTrue (is_store (remove_asks c.capacity stage given))
    → (remove_takes c stage given m ≡ remove_takes c stage given n) × (room ≡ room)
remove_tells c removes.Refuses given room m n t = no_store t
remove_tells c removes.LoadsCount given room m n t = no_store t
remove_tells c (removes.Releases count stage) given room m n t = (
  ap (remove_released c count)
      (release_tells (inner_release c.capacity stage) stage given room m n t).0,
  refl,
)
remove_tells c (removes.Hides count state) given room m n t = no_store t
remove_tells c (removes.AddsChange state) given room m n t = no_store t

module _ {T R : Type 0} (with_word : R → ℕ → ℕ → R) (size : ℕ) where
  -- a find only loads
  pub find_tells : (c : Find T R) (stage : FindStage) (owner : ℕ) (room : R) (m n : ℕ)
      → IsTrue (is_store (find_asks size c.capacity stage))
      → (find_takes size c stage owner m ≡ find_takes size c stage owner n)
      × (find_keeps with_word stage room m ≡ find_keeps with_word stage room n)
  find_tells c (finds.LoadsCell index found) owner room m n t = no_store t
  find_tells c (finds.LoadsCount index found) owner room m n t = no_store t
  find_tells c (finds.LoadsWord index found count at) owner room m n t = no_store t
  find_tells c (finds.ChecksCount index found count) owner room m n t = no_store t
  find_tells c (finds.Asks index found) owner room m n t = no_store t

  -- a recovery has no store
  pub recover_tells : (c : Recover T R) (stage : RecoverStage) (given : DeadOwner)
      (room : R) (m n : ℕ) → IsTrue (is_store (recover_asks size c.capacity stage given.owner))
      → (recover_takes size c stage given m ≡ recover_takes size c stage given n)
      × (recover_keeps with_word stage room m ≡ recover_keeps with_word stage room n)
  recover_tells c recovers.LoadsCounter given room m n t = no_store t
  recover_tells c (recovers.LoadsCell index) given room m n t = no_store t
  recover_tells c (recovers.LoadsCount index) given room m n t = no_store t
  recover_tells c (recovers.LoadsWord index count at) given room m n t = no_store t
  recover_tells c (recovers.ChecksCount index count) given room m n t = no_store t
  recover_tells c (recovers.Asks index count) given room m n t = no_store t
  recover_tells c (recovers.EmptiesCell index count) given room m n t = no_store t
  recover_tells c (recovers.Hides index count) given room m n t = no_store t
  recover_tells c (recovers.Raises index raise) given room m n t =
      raise_stores_not raise t
  recover_tells c (recovers.Locks index lock) given room m n t = lock_stores_not lock t
  recover_tells c recovers.LoadsCounterAgain given room m n t = no_store t
  recover_tells c (recovers.AddsChange state) given room m n t = no_store t

module _ {T : Type 0} (value_of : List ℕ → T) (size : ℕ) where
  -- a look only loads
  pub look_tells : (c : Look T) (stage : LookStage) (seen : Numbers) (s : Showing T)
      (m n : ℕ) → IsTrue (is_store (look_asks size c.capacity stage))
      → (look_takes size c stage seen m ≡ look_takes size c stage seen n)
      × (look_keeps value_of size stage s m ≡ look_keeps value_of size stage s n)
  look_tells c looks.LoadsChange seen s m n t = no_store t
  look_tells c (looks.LoadsCount index) seen s m n t = no_store t
  look_tells c (looks.LoadsWord index count at) seen s m n t = no_store t
  look_tells c (looks.ChecksCount index count) seen s m n t = no_store t

-- ---- replace and find end by themselves

module _ {T : Type 0} (size : ℕ) where
  -- one more than `replace_left` of the call, which each step lowers, and 0 once the call has ended
  abbrev replace_then : After (Replace T) Replaced → ℕ
  replace_then (GoOn d) = replace_left size d.stage + 1
  replace_then (Done e) = 0

  -- each step of a replacement after which it goes on leaves fewer steps than were left before
  replace_stage_fewer : (c : Replace T) (stage : ReplaceStage) (given : Replacement T)
      (k : ℕ) → replace_then (replace_takes size c stage given k) ≤ replace_left size stage
  replace_stage_fewer c replaces.Refuses given k = omega arith
  replace_stage_fewer c replaces.LoadsCell given k =
      by_eq (λ a. replace_then a ≤ size + 5) k given.owner
      (GoOn (at_replace c replaces.LoadsCount)) _ (λ e. omega arith) (λ e. omega arith)
  replace_stage_fewer c replaces.LoadsCount given k =
      by_test (λ a. replace_then a ≤ size + 4) (is_even k)
      (GoOn (at_replace c (replaces.Stores 0)))
      (GoOn (at_replace c (replaces.Hides k))) (λ e. omega arith) (λ e. omega arith)
  replace_stage_fewer c (replaces.Hides count) given k = omega arith
  replace_stage_fewer c (replaces.Stores at) given k =
      by_test (λ a. replace_then a ≤ size - at + 2) (nat_lt (at + 1) size)
      (GoOn (at_replace c (replaces.Stores (at + 1))))
      (GoOn (at_replace c replaces.AddsCount))
      (λ t. let further : at + 1 < size = grind (arith, nat_tests) in omega arith)
      (λ t. omega arith)
  replace_stage_fewer c replaces.AddsCount given k = omega arith
  replace_stage_fewer c replaces.AddsChange given k = omega arith

  -- where a replace goes on after a step, `replace_left` is less
  pub replace_fewer : (c d : Replace T) (given : Replacement T) (k : ℕ)
      → replace_after size c given k ≡ GoOn d
      → replace_left size d.stage < replace_left size c.stage
  replace_fewer c d given k goes =
      let e = ap replace_then goes in let f = replace_stage_fewer c c.stage given k in omega arith

module _ {T R : Type 0} (size : ℕ) (few : size ≤ 128) where
  -- one more than `find_left` of the call, which each step lowers, and 0 once the call has ended
  abbrev find_then : After (Find T R) ℕ → ℕ
  find_then (GoOn d) = find_left size d.capacity d.stage + 1
  find_then (Done e) = 0

  -- to go on to the next index leaves fewer steps than are reckoned for this one
  next_nearer : (c : Find T R) (index found : ℕ)
      → find_then (find_comes_to c (index + 1) found) ≤ 140 * (c.capacity - index)
  next_nearer c index found =
      by_test (λ a. find_then a ≤ 140 * (c.capacity - index)) (nat_lt (index + 1) c.capacity)
      (GoOn (at_find c (finds.LoadsCell (index + 1) found))) (Done found)
      (λ t. let further : index + 1 < c.capacity = grind (arith, nat_tests) in omega arith)
      (λ t. omega arith)

  -- each step of a find after which it goes on leaves fewer steps than were left before
  find_stage_fewer : (c : Find T R) (stage : FindStage) (owner k : ℕ)
      → find_then (find_takes size c stage owner k) ≤ find_left size c.capacity stage
  find_stage_fewer c (finds.LoadsCell index found) owner k =
      by_eq (λ a. find_then a ≤ 140 * (c.capacity - index) + 139) k owner
      (GoOn (at_find c (finds.LoadsCount index (one_more found))))
      (find_comes_to c (index + 1) found)
      (λ e. omega arith) (λ e. let next = next_nearer c index found in omega arith)
  find_stage_fewer c (finds.LoadsCount index found) owner k =
      by_test (λ a. find_then a ≤ 140 * (c.capacity - index) + 138) (is_even k)
      (find_comes_to c (index + 1) found)
      (GoOn (at_find c (finds.LoadsWord index found k 0)))
      (λ e. let next = next_nearer c index found in omega arith) (λ e. omega arith)
  find_stage_fewer c (finds.LoadsWord index found count at) owner k =
      by_test (λ a. find_then a ≤ 140 * (c.capacity - index) + 2 + (size - at))
      (nat_lt (at + 1) size)
      (GoOn (at_find c (finds.LoadsWord index found count (at + 1))))
      (GoOn (at_find c (finds.ChecksCount index found count)))
      (λ t. let further : at + 1 < size = grind (arith, nat_tests) in omega arith)
      (λ t. omega arith)
  find_stage_fewer c (finds.ChecksCount index found count) owner k =
      by_eq (λ a. find_then a ≤ 140 * (c.capacity - index) + 1) k count
      (GoOn (at_find c (finds.Asks index found)))
      (find_comes_to c (index + 1) found)
      (λ e. omega arith) (λ e. let next = next_nearer c index found in omega arith)
  find_stage_fewer c (finds.Asks index found) owner k =
      by_eq (λ a. find_then a ≤ 140 * (c.capacity - index)) k 0 (Done found)
      (find_comes_to c (index + 1) found)
      (λ e. omega arith) (λ e. next_nearer c index found)

  -- where a find goes on after a step, `find_left` is less
  pub find_fewer : (c d : Find T R) (owner n : ℕ) → find_after size c owner n ≡ GoOn d
      → find_left size d.capacity d.stage < find_left size c.capacity c.stage
  find_fewer c d owner n goes =
      let e = ap find_then goes in let f = find_stage_fewer c c.stage owner n in omega arith
