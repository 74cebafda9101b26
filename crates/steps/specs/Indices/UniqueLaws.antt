-- What the calls of the unique index set keep to: a store tells them nothing, and one that ends by itself comes nearer
-- to its end at each step.
use Rattle.std.specs.Prelude.{◌≡◌, ℕ, ◌+◌, ◌<◌, ◌≤◌, Bool, false, IsTrue, refl}
use Rattle.std.proofs.Common.{arith, ap}
use Rattle.steps.specs.Ask.{is_store}
use Rattle.steps.specs.Laws.{no_store}
use Rattle.steps.specs.Picks.{by_eq}
use Rattle.steps.specs.Queues.Ring.{load}
use Rattle.steps.specs.declared.ask.After.{After}
use Rattle.steps.specs.declared.ask.After.TheVariants.{GoOn, Done}
use Rattle.steps.specs.declared.indices.enums.ReleaseState.{ReleaseState}
use Rattle.steps.specs.declared.indices.unique.Acquire.{Acquire}
use Rattle.steps.specs.declared.indices.unique.AcquireStage.{AcquireStage}
use Rattle.steps.specs.declared.indices.unique.AcquireStage.TheVariants as acquires
use Rattle.steps.specs.declared.indices.unique.Release.{Release}
use Rattle.steps.specs.declared.indices.unique.ReleaseStage.{ReleaseStage}
use Rattle.steps.specs.declared.indices.unique.ReleaseStage.TheVariants as releases
use Rattle.steps.specs.declared.indices.looks.BorrowedIndices.{BorrowedIndices}
use Rattle.steps.specs.declared.indices.looks.IsLocked.{IsLocked}
use Rattle.steps.specs.Indices.Unique.{acquire_asks, acquire_takes, at_release, release_asks, release_takes}
use Rattle.steps.specs.Indices.Unique.{release_after, release_left, state_after, borrowed_after, locked_after}

-- an acquire has no store
pub acquire_tells : (c : Acquire) (stage : AcquireStage) (room : Unit {0}) (m n : ℕ)
    → IsTrue (is_store (acquire_asks c.capacity stage))
    → (acquire_takes c stage m ≡ acquire_takes c stage n) × (room ≡ room)
acquire_tells c acquires.LoadsHead room m n t = no_store t
acquire_tells c (acquires.LoadsNext head) room m n t = no_store t
acquire_tells c (acquires.ExchangesHead head next) room m n t = no_store t
acquire_tells c (acquires.Claims index) room m n t = no_store t
acquire_tells c (acquires.Scans index) room m n t = no_store t

module _ {M : Type 0} where
  -- the store of a release tells it nothing
  pub release_tells : (lock : Bool) (c : Release M) (stage : ReleaseStage) (index : ℕ)
      (room : Unit {0}) (m n : ℕ) → IsTrue (is_store (release_asks lock c.capacity index stage))
      → (release_takes lock c stage m ≡ release_takes lock c stage n) × (room ≡ room)
  release_tells lock c releases.ClearsFlag index room m n t = no_store t
  release_tells lock c releases.LoadsHead index room m n t = no_store t
  release_tells lock c (releases.StoresNext head) index room m n t = (refl, refl)
  release_tells lock c (releases.ExchangesHead head) index room m n t = no_store t
  release_tells lock c releases.Subtracts index room m n t = no_store t

  -- one more than `release_left` of the call, and 0 once the call has ended
  abbrev release_then : After (Release M) ReleaseState → ℕ
  release_then (GoOn d) = release_left d.stage + 1
  release_then (Done e) = 0

  -- each step of a release in the default mode after which it goes on leaves fewer steps than were left before
  release_stage_fewer : (c : Release M) (stage : ReleaseStage) (k : ℕ)
      → release_then (release_takes false c stage k) ≤ release_left stage
  release_stage_fewer c releases.ClearsFlag k = omega arith
  release_stage_fewer c releases.LoadsHead k = omega arith
  release_stage_fewer c (releases.StoresNext head) k = omega arith
  release_stage_fewer c (releases.ExchangesHead head) k =
      by_eq (λ a. release_then a ≤ 1) k head (Done (state_after false head))
      (GoOn (at_release c releases.Subtracts)) (λ e. omega arith) (λ e. omega arith)
  release_stage_fewer c releases.Subtracts k = omega arith

  -- where a release that may not lock goes on after a step, `release_left` is less
  pub release_fewer : (c d : Release M) (k : ℕ) → release_after false c k ≡ GoOn d
      → release_left d.stage < release_left c.stage
  release_fewer c d k goes =
      let e = ap release_then goes in let f = release_stage_fewer c c.stage k in omega arith

-- a load is no store, so there is no store whose old value it could use
pub load_tells : {A : Type 0} (word : ℕ) (after : ℕ → A) (room : Unit {0}) (m n : ℕ)
    → IsTrue (is_store (load word)) → (after m ≡ after n) × (room ≡ room)
load_tells word after room m n t = no_store t

-- the count never goes on: it ends with its first step
pub borrowed_fewer : (c d : BorrowedIndices) (n : ℕ) → borrowed_after c n ≡ GoOn d → 0 < 0
borrowed_fewer c d n goes = cc

-- the look at the lock never goes on: it ends with its first step
pub locked_fewer : (c d : IsLocked) (n : ℕ) → locked_after c n ≡ GoOn d → 0 < 0
locked_fewer c d n goes = cc
