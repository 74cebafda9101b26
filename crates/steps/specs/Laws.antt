-- What every call keeps to: a store tells it nothing, and one that ends by itself comes nearer to its end at each step.
use Rattle.std.specs.Prelude.{◌≡◌, ℕ, ◌+◌, ◌-◌, ◌^◌, ◌<◌, ◌≤◌, Bool, true, false, IsTrue, List, nat_lt, refl}
use Rattle.std.proofs.Common.{arith, ap, sym, true≢false}
use Rattle.std.proofs.lemmas.Bool.Decides.{nat_tests}
use Rattle.steps.specs.Ask.{is_store}
use Rattle.steps.specs.Picks.{by_test, by_eq, by_either}
use Rattle.steps.specs.declared.ask.After.{After}
use Rattle.steps.specs.declared.ask.After.TheVariants.{GoOn, Done}
use Rattle.steps.specs.declared.copied.OneWord.{OneWord}
use Rattle.steps.specs.declared.queues.roles.AcquireRole.{AcquireRole}
use Rattle.steps.specs.declared.queues.roles.ReleaseRole.{ReleaseRole}
use Rattle.steps.specs.declared.queues.roles.LookRole.{LookRole}
use Rattle.steps.specs.declared.queues.lengths.Len.{Len}
use Rattle.steps.specs.declared.queues.lengths.LenStage.{LenStage}
use Rattle.steps.specs.declared.queues.lengths.LenStage.TheVariants as lens
use Rattle.steps.specs.declared.queues.ring.Push.{Push}
use Rattle.steps.specs.declared.queues.ring.PushStage as pushes
use Rattle.steps.specs.declared.queues.ring.Pop.{Pop}
use Rattle.steps.specs.declared.queues.ring.PopStage as pops
use Rattle.steps.specs.declared.queues.peek.Peek.{Peek}
use Rattle.steps.specs.declared.queues.peek.PeekStage.{PeekStage}
use Rattle.steps.specs.declared.queues.peek.PeekStage.TheVariants as peeks
use Rattle.steps.specs.declared.queues.overflow.Push as over
use Rattle.steps.specs.declared.queues.overflow.PushStage.{PushStage}
use Rattle.steps.specs.declared.queues.overflow.PushStage.TheVariants as over_pushes
use Rattle.steps.specs.declared.queues.overflow.PushEnd.{PushEnd}
use Rattle.steps.specs.declared.queues.overflow.PushEnd.TheVariants.{Added}
use Rattle.steps.specs.declared.queues.overflow.Pop as over_pop
use Rattle.steps.specs.declared.queues.overflow.PopStage.{PopStage}
use Rattle.steps.specs.declared.queues.overflow.PopStage.TheVariants as over_pops
use Rattle.steps.specs.declared.atomic.Store.{Store}
use Rattle.steps.specs.declared.atomic.StoreStage.{StoreStage}
use Rattle.steps.specs.declared.atomic.StoreStage.TheVariants as stores
use Rattle.steps.specs.declared.atomic.Load.{Load}
use Rattle.steps.specs.declared.atomic.LoadStage.{LoadStage}
use Rattle.steps.specs.declared.atomic.LoadStage.TheVariants as loads
use Rattle.steps.specs.declared.atomic.version.Version.{Version}
use Rattle.steps.specs.Queues.Roles.{acquire_want, acquire_after, release_want, release_after, look_want, look_after}
use Rattle.steps.specs.Queues.Lengths.{len_asks, len_takes}
use Rattle.steps.specs.Queues.Ring.{cell_word, distance, at_push, push_asks, push_takes, push_after, push_left, at_pop}
use Rattle.steps.specs.Queues.Ring.{pop_asks, pop_takes, pop_after, pop_keeps, pop_left}
use Rattle.steps.specs.Queues.Peek.{peek_asks, peek_takes, peek_after, peek_keeps, peek_left, at_peek}
use Rattle.steps.specs.Queues.Overflow as overflow
use Rattle.steps.specs.Atomic as value

-- from the claim that what is no store is one, anything follows
pub no_store : {A : Type 0} → IsTrue false → A
no_store t = absurd (true≢false (sym t))

-- ---- roles

-- the stores of the acquire, if it has any, tell it nothing
pub acquire_tells : (c : AcquireRole) (room : Unit {0}) (m n : ℕ)
    → IsTrue (is_store (acquire_want c)) → (acquire_after c m ≡ acquire_after c n) × (room ≡ room)
acquire_tells c room m n t = no_store t

-- the stores of the release, if it has any, tell it nothing
pub release_tells : (c : ReleaseRole) (room : Unit {0}) (m n : ℕ)
    → IsTrue (is_store (release_want c)) → (release_after c m ≡ release_after c n) × (room ≡ room)
release_tells c room m n t = (refl, refl)

-- the acquire never goes on: it ends with its first step
pub acquire_fewer : (c d : AcquireRole) (n : ℕ) → acquire_after c n ≡ GoOn d → 0 < 0
acquire_fewer c d n goes = cc

-- the release never goes on: it ends with its first step
pub release_fewer : (c d : ReleaseRole) (n : ℕ) → release_after c n ≡ GoOn d → 0 < 0
release_fewer c d n goes = cc

-- the stores of the look, if it has any, tell it nothing
pub look_tells : (c : LookRole) (room : Unit {0}) (m n : ℕ)
    → IsTrue (is_store (look_want c)) → (look_after c m ≡ look_after c n) × (room ≡ room)
look_tells c room m n t = no_store t

-- the look never goes on: it ends with its first step
pub look_fewer : (c d : LookRole) (n : ℕ) → look_after c n ≡ GoOn d → 0 < 0
look_fewer c d n goes = cc

-- ---- lengths

-- a call for the length only loads, so there is no store whose old value it could use
pub len_tells : (c : Len) (stage : LenStage) (room : Unit {0}) (m n : ℕ)
    → IsTrue (is_store (len_asks stage))
    → (len_takes c stage m ≡ len_takes c stage n) × (room ≡ room)
len_tells c lens.LoadsWrite room m n t = no_store t
len_tells c (lens.LoadsRead write) room m n t = no_store t
len_tells c (lens.LoadsWriteAgain write read) room m n t = no_store t
len_tells c (lens.LoadsReadAgain write read) room m n t = no_store t

-- ---- the bounded queue

module _ {V : Type 0} (words_of : V → List ℕ) (size : ℕ) where
  -- after a store a push goes on in the same way, whatever its word held before
  pub push_tells : (c : Push V) (stage : pushes.PushStage) (x : V) (room : Unit {0}) (m n : ℕ)
      → IsTrue (is_store (push_asks words_of stage x))
      → (push_takes size c stage m ≡ push_takes size c stage n) × (room ≡ room)
  push_tells c pushes.TheVariants.LoadsWrite x room m n t = no_store t
  push_tells c (pushes.TheVariants.LoadsRead write) x room m n t = no_store t
  push_tells c (pushes.TheVariants.StoresCell write cell at) x room m n t = (refl, refl)
  push_tells c (pushes.TheVariants.StoresWrite write) x room m n t = (refl, refl)

module _ {V : Type 0} (size : ℕ) where
  -- one more than `push_left` of the call, which each step lowers, and 0 once the call has ended
  abbrev push_then : After (Push V) Bool → ℕ
  push_then (GoOn d) = push_left size d.stage + 1
  push_then (Done e) = 0

  -- after each step of a push, fewer are left, whatever the step found
  push_stage_fewer : (c : Push V) (stage : pushes.PushStage) (k : ℕ)
      → push_then (push_takes size c stage k) ≤ push_left size stage
  push_stage_fewer c pushes.TheVariants.LoadsWrite k =
      by_eq (λ a. push_then a ≤ size + 3) k (2 ^ 64 - 1) (Done false)
      (GoOn (at_push c (pushes.TheVariants.LoadsRead k))) (λ e. omega arith) (λ e. omega arith)
  push_stage_fewer c (pushes.TheVariants.LoadsRead p) k =
      by_either (λ a. push_then a ≤ size + 2) c.capacity 0 (distance p k) c.capacity (Done false)
      (GoOn (at_push c (pushes.TheVariants.StoresCell p (cell_word c.capacity size p) 0)))
      (λ e. omega arith) (λ e. omega arith) (λ e f. omega arith)
  push_stage_fewer c (pushes.TheVariants.StoresCell p cell at) k =
      by_test (λ a. push_then a ≤ size - at + 1) (nat_lt (at + 1) size)
      (GoOn (at_push c (pushes.TheVariants.StoresCell p cell (at + 1))))
      (GoOn (at_push c (pushes.TheVariants.StoresWrite p)))
      (λ t. let further : at + 1 < size = grind (arith, nat_tests) in omega arith)
      (λ t. omega arith)
  push_stage_fewer c (pushes.TheVariants.StoresWrite p) k = omega arith

  -- where a push goes on after a step, `push_left` is less
  pub push_fewer : (c d : Push V) (k : ℕ) → push_after size c k ≡ GoOn d
      → push_left size d.stage < push_left size c.stage
  push_fewer c d k goes =
      let e = ap push_then goes in let f = push_stage_fewer c c.stage k in omega arith

module _ {V R : Type 0} (with_word : R → ℕ → ℕ → R) (size : ℕ) where
  -- after a store a pop goes on in the same way, whatever its word held before
  pub pop_tells : (c : Pop V R) (stage : pops.PopStage) (room : R) (m n : ℕ)
      → IsTrue (is_store (pop_asks stage)) → (pop_takes size c stage m ≡ pop_takes size c stage n)
      × (pop_keeps with_word room stage m ≡ pop_keeps with_word room stage n)
  pop_tells c pops.TheVariants.LoadsRead room m n t = no_store t
  pop_tells c (pops.TheVariants.LoadsWrite read) room m n t = no_store t
  pop_tells c (pops.TheVariants.LoadsCell read cell at) room m n t = no_store t
  pop_tells c (pops.TheVariants.StoresRead read) room m n t = (refl, refl)

module _ {V R : Type 0} (size : ℕ) where
  -- one more than `pop_left` of the call, which each step lowers, and 0 once the call has ended
  abbrev pop_then : After (Pop V R) Bool → ℕ
  pop_then (GoOn d) = pop_left size d.stage + 1
  pop_then (Done e) = 0

  -- each step of a pop after which it goes on leaves fewer steps than were left before
  pop_stage_fewer : (c : Pop V R) (stage : pops.PopStage) (k : ℕ)
      → pop_then (pop_takes size c stage k) ≤ pop_left size stage
  pop_stage_fewer c pops.TheVariants.LoadsRead k = omega arith
  pop_stage_fewer c (pops.TheVariants.LoadsWrite p) k =
      by_either (λ a. pop_then a ≤ size + 2) c.capacity 0 k p (Done false)
      (GoOn (at_pop c (pops.TheVariants.LoadsCell p (cell_word c.capacity size p) 0)))
      (λ e. omega arith) (λ e. omega arith) (λ e f. omega arith)
  pop_stage_fewer c (pops.TheVariants.LoadsCell p cell at) k =
      by_test (λ a. pop_then a ≤ size - at + 1) (nat_lt (at + 1) size)
      (GoOn (at_pop c (pops.TheVariants.LoadsCell p cell (at + 1))))
      (GoOn (at_pop c (pops.TheVariants.StoresRead p)))
      (λ t. let further : at + 1 < size = grind (arith, nat_tests) in omega arith)
      (λ t. omega arith)
  pop_stage_fewer c (pops.TheVariants.StoresRead p) k = omega arith

  -- where a pop goes on after a step, `pop_left` is less
  pub pop_fewer : (c d : Pop V R) (k : ℕ) → pop_after size c k ≡ GoOn d
      → pop_left size d.stage < pop_left size c.stage
  pop_fewer c d k goes =
      let e = ap pop_then goes in let f = pop_stage_fewer c c.stage k in omega arith

module _ {V R : Type 0} (with_word : R → ℕ → ℕ → R) (size : ℕ) where
  -- a peek only loads, so there is no store whose old value it could use
  pub peek_tells : (c : Peek V R) (stage : PeekStage) (room : R) (m n : ℕ)
      → IsTrue (is_store (peek_asks stage)) → (peek_takes size c stage m ≡ peek_takes size c stage n)
      × (peek_keeps with_word room stage m ≡ peek_keeps with_word room stage n)
  peek_tells c peeks.LoadsRead room m n t = no_store t
  peek_tells c (peeks.LoadsWrite read) room m n t = no_store t
  peek_tells c (peeks.LoadsCell cell at) room m n t = no_store t

module _ {V R : Type 0} (size : ℕ) where
  -- one more than `peek_left` of the call, which each step lowers, and 0 once the call has ended
  abbrev peek_then : After (Peek V R) Bool → ℕ
  peek_then (GoOn d) = peek_left size d.stage + 1
  peek_then (Done e) = 0

  -- each step of a peek after which it goes on leaves fewer steps than were left before
  peek_stage_fewer : (c : Peek V R) (stage : PeekStage) (k : ℕ)
      → peek_then (peek_takes size c stage k) ≤ peek_left size stage
  peek_stage_fewer c peeks.LoadsRead k = omega arith
  peek_stage_fewer c (peeks.LoadsWrite p) k =
      by_either (λ a. peek_then a ≤ size + 1) c.capacity 0 k p (Done false)
      (GoOn (at_peek c (peeks.LoadsCell (cell_word c.capacity size p) 0)))
      (λ e. omega arith) (λ e. omega arith) (λ e f. omega arith)
  peek_stage_fewer c (peeks.LoadsCell cell at) k =
      by_test (λ a. peek_then a ≤ size - at) (nat_lt (at + 1) size)
      (GoOn (at_peek c (peeks.LoadsCell cell (at + 1)))) (Done true)
      (λ t. let further : at + 1 < size = grind (arith, nat_tests) in omega arith)
      (λ t. omega arith)

  -- where a peek goes on after a step, `peek_left` is less
  pub peek_fewer : (c d : Peek V R) (k : ℕ) → peek_after size c k ≡ GoOn d
      → peek_left size d.stage < peek_left size c.stage
  peek_fewer c d k goes =
      let e = ap peek_then goes in let f = peek_stage_fewer c c.stage k in omega arith

-- ---- the overflowing queue

-- after a store the overflowing queue's push goes on in the same way, whatever its word held before
pub overflow_push_tells : (c : over.Push) (stage : PushStage)
    (x : ℕ) (room : OneWord) (m n : ℕ) → IsTrue (is_store (overflow.push_asks c.capacity stage x))
    → (overflow.push_takes c stage m ≡ overflow.push_takes c stage n)
    × (overflow.push_keeps room stage m ≡ overflow.push_keeps room stage n)
overflow_push_tells c over_pushes.HandsBack x room m n t = no_store t
overflow_push_tells c over_pushes.LoadsWrite x room m n t = no_store t
overflow_push_tells c (over_pushes.LoadsRead write) x room m n t = no_store t
overflow_push_tells c (over_pushes.StoresCell write read) x room m n t = (refl, refl)
overflow_push_tells c (over_pushes.StoresWrite write read) x room m n t = (refl, refl)
overflow_push_tells c (over_pushes.MovesRead read) x room m n t = no_store t
overflow_push_tells c (over_pushes.LoadsCell read) x room m n t = no_store t

-- one more than `push_left` of the call, which each step lowers, and 0 once the call has ended
abbrev overflow_then : After over.Push PushEnd → ℕ
overflow_then (GoOn d) = overflow.push_left d.stage + 1
overflow_then (Done e) = 0

-- each step of this push after which it goes on leaves fewer steps than were left before
overflow_stage_fewer : (c : over.Push) (stage : PushStage) (k : ℕ)
    → overflow_then (overflow.push_takes c stage k) ≤ overflow.push_left stage
overflow_stage_fewer c over_pushes.HandsBack k = omega arith
overflow_stage_fewer c over_pushes.LoadsWrite k =
    by_eq (λ a. overflow_then a ≤ 5) k (2 ^ 64 - 1) _
    (GoOn (overflow.at_push c (over_pushes.LoadsRead k)))
    (λ e. omega arith) (λ e. omega arith)
overflow_stage_fewer c (over_pushes.LoadsRead write) k = omega arith
overflow_stage_fewer c (over_pushes.StoresCell write read) k = omega arith
overflow_stage_fewer c (over_pushes.StoresWrite write read) k =
    by_eq (λ a. overflow_then a ≤ 2) (distance write read) c.capacity
    (GoOn (overflow.at_push c (over_pushes.MovesRead read))) (Done Added)
    (λ e. omega arith) (λ e. omega arith)
overflow_stage_fewer c (over_pushes.MovesRead read) k =
    by_eq (λ a. overflow_then a ≤ 1) k read
    (GoOn (overflow.at_push c (over_pushes.LoadsCell read))) (Done Added)
    (λ e. omega arith) (λ e. omega arith)
overflow_stage_fewer c (over_pushes.LoadsCell read) k = omega arith

-- where a push of the overflowing queue goes on after a step, its `push_left` is less
pub overflow_push_fewer : (c d : over.Push) (k : ℕ) → overflow.push_after c k ≡ GoOn d
    → overflow.push_left d.stage < overflow.push_left c.stage
overflow_push_fewer c d k goes =
    let e = ap overflow_then goes in let f = overflow_stage_fewer c c.stage k in omega arith

-- the pop of the overflowing queue has no store: it loads and exchanges
pub overflow_pop_tells : (c : over_pop.Pop) (stage : PopStage) (room : OneWord) (m n : ℕ)
    → IsTrue (is_store (overflow.pop_asks c.capacity stage))
    → (overflow.pop_takes c stage m ≡ overflow.pop_takes c stage n)
    × (overflow.pop_keeps room stage m ≡ overflow.pop_keeps room stage n)
overflow_pop_tells c over_pops.FindsNone room m n t = no_store t
overflow_pop_tells c over_pops.LoadsRead room m n t = no_store t
overflow_pop_tells c (over_pops.LoadsWrite read) room m n t = no_store t
overflow_pop_tells c (over_pops.LoadsCell read) room m n t = no_store t
overflow_pop_tells c (over_pops.MovesRead read) room m n t = no_store t

-- ---- the single value

module _ {V : Type 0} (words_of : V → List ℕ) (size : ℕ) where
  -- no store of a word tells the store of a value anything
  pub store_tells : (c : Store V) (stage : StoreStage) (x : V) (room : Unit {0}) (m n : ℕ)
      → IsTrue (is_store (value.store_asks words_of stage x))
      → (value.store_takes size c stage m ≡ value.store_takes size c stage n) × (room ≡ room)
  store_tells c stores.LoadsVersion x room m n t = no_store t
  store_tells c (stores.StoresCell cell at) x room m n t = (refl, refl)
  store_tells c stores.AddsVersion x room m n t = no_store t

module _ {V : Type 0} (size : ℕ) where
  -- one more than `store_left` of the call, which each step lowers, and 0 once the call has ended
  abbrev store_then : After (Store V) Bool → ℕ
  store_then (GoOn d) = value.store_left size d.stage + 1
  store_then (Done e) = 0

  -- each step of the store of a value after which it goes on leaves fewer steps than were left before
  store_stage_fewer : (c : Store V) (stage : StoreStage) (k : ℕ)
      → store_then (value.store_takes size c stage k) ≤ value.store_left size stage
  store_stage_fewer c stores.LoadsVersion k =
      by_eq (λ a. store_then a ≤ size + 2) k (2 ^ 64 - 1) (Done false)
      (GoOn (value.at_store c (stores.StoresCell (value.cell_word size k) 0)))
      (λ e. omega arith) (λ e. omega arith)
  store_stage_fewer c (stores.StoresCell cell at) k =
      by_test (λ a. store_then a ≤ size - at + 1) (nat_lt (at + 1) size)
      (GoOn (value.at_store c (stores.StoresCell cell (at + 1))))
      (GoOn (value.at_store c stores.AddsVersion))
      (λ t. let further : at + 1 < size = grind (arith, nat_tests) in omega arith)
      (λ t. omega arith)
  store_stage_fewer c stores.AddsVersion k = omega arith

  -- where a store goes on after a step, `store_left` is less
  pub store_fewer : (c d : Store V) (k : ℕ) → value.store_after size c k ≡ GoOn d
      → value.store_left size d.stage < value.store_left size c.stage
  store_fewer c d k goes =
      let e = ap store_then goes in let f = store_stage_fewer c c.stage k in omega arith

module _ {V R : Type 0} (with_word : R → ℕ → ℕ → R) (size : ℕ) where
  -- a load of the value has no store
  pub load_tells : (c : Load V R) (stage : LoadStage) (room : R) (m n : ℕ)
      → IsTrue (is_store (value.load_asks stage))
      → (value.load_takes size c stage m ≡ value.load_takes size c stage n)
      × (value.load_keeps with_word room stage m ≡ value.load_keeps with_word room stage n)
  load_tells c loads.LoadsVersion room m n t = no_store t
  load_tells c (loads.LoadsCell version cell at) room m n t = no_store t
  load_tells c (loads.ChecksVersion version) room m n t = no_store t

-- the call for the version never stores, so there is no store whose old value it could use
pub version_tells : (c : Version) (room : Unit {0}) (m n : ℕ)
    → IsTrue (is_store (value.version_want c))
    → (value.version_after c m ≡ value.version_after c n) × (room ≡ room)
version_tells c room m n t = no_store t

-- the call for the version ends with its first step
pub version_fewer : (c d : Version) (n : ℕ) → value.version_after c n ≡ GoOn d → 0 < 0
version_fewer c d n goes = cc
