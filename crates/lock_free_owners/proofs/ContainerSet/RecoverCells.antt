-- How the loop of a container's recovery over cells goes on from one cell: to the next one, or past the last.
use Rattle.lock_free_owners.proofs.Names.{◌≡◌, ℕ, ◌+◌, ◌<◌, ◌≤◌, nat_lt, nat_tests, arith, by_test, by_eq, List}
use Rattle.lock_free_owners.proofs.Names.{goes_to, After, DeadOwner, Buffer, ReleaseState, Coding, View}
use Rattle.steps.specs.declared.container.recover.Recover.{Recover}
use Rattle.steps.specs.declared.container.recover.RecoverStage.{RecoverStage}
use Rattle.steps.specs.declared.container.recover.RecoverStage.TheVariants as recovers
use Rattle.threaded.specs.Driver.{Next}
use Rattle.history_owners.specs.ContainerRecovery.{Came}
use Rattle.lock_free_owners.specs.Container.RecoverTurns.{recover_goes, RecoverAt, RecoverEnds, at_cell}

module _ {T : Type 0} (code : Coding T) (given : DeadOwner) (capacity cell : ℕ) where
  -- The recovery of a container of this capacity, at this stage.
  abbrev stands : RecoverStage → Recover T (Buffer 128)
  stands stage = record { capacity = capacity; stage = stage; of = record {} }

  -- The recovery at this cell.
  abbrev here : Recover T (Buffer 128)
  here = at_cell capacity cell

  -- the recovery stands at its next stage, or has ended, after it has loaded the cell
  abbrev There : View T → View T → Buffer 128 → List (ℕ × Came T) → After (Recover T (Buffer 128)) ReleaseState → Type 0
  There base w room visits a = Next (λ (z : View T). z.capacity) (RecoverAt code given) (RecoverEnds code given) base a (room, visits) w

  -- where the load of this cell, which found k, has led the recovery
  abbrev Loaded : View T → View T → Buffer 128 → List (ℕ × Came T) → ℕ → Type 0
  Loaded base w room visits k = There base w room visits (recover_goes code given here k)

  -- A loaded cell of the owner leads the recovery to the load of its change number.
  pub comes_own : {base w : View T} {room : Buffer 128} {visits : List (ℕ × Came T)} {k : ℕ} → k ≡ given.owner → Loaded base w room visits k
      → RecoverAt code given base w (stands (recovers.LoadsCount cell)) (room, visits)
  comes_own k_is_owner loaded = grind (arith, by_eq)

  -- A loaded cell that is not the owner's leads the recovery to the next cell.
  pub comes_next : {base w : View T} {room : Buffer 128} {visits : List (ℕ × Came T)} {k : ℕ} → (k ≡ given.owner → ⊥) → cell + 1 < capacity
      → Loaded base w room visits k → RecoverAt code given base w (at_cell capacity (cell + 1)) (room, visits)
  comes_next other within loaded = grind (arith, by_eq, by_test, nat_lt, goes_to, nat_tests)

  -- A last cell that is not the owner's leads the recovery to its load of the counter.
  pub comes_past : {base w : View T} {room : Buffer 128} {visits : List (ℕ × Came T)} {k : ℕ} → (k ≡ given.owner → ⊥) → capacity ≤ cell + 1
      → Loaded base w room visits k → RecoverAt code given base w (stands recovers.LoadsCounterAgain) (room, visits)
  comes_past other last loaded = grind (arith, by_eq, by_test, nat_lt, goes_to, nat_tests)
