-- How the loop of a container's find over cells goes on from one cell: to the next one, or to its end.
use Rattle.lock_free_owners.proofs.Names.{◌≡◌, ℕ, ◌+◌, ◌<◌, ◌≤◌, nat_lt, nat_tests, arith, by_test, by_eq, List}
use Rattle.lock_free_owners.proofs.Names.{After, Buffer, Coding, View}
use Rattle.steps.specs.Indices.Robust.Parts.{one_more}
use Rattle.steps.specs.declared.container.find.Find.{Find}
use Rattle.steps.specs.declared.container.find.FindStage.{FindStage}
use Rattle.steps.specs.declared.container.find.FindStage.TheVariants as finds
use Rattle.threaded.specs.Driver.{Next}
use Rattle.lock_free_owners.specs.Container.FindTurns.{find_goes, FindAt, FindDone, at_cell}

-- A find for this owner stands at this cell of a container of this capacity, and has counted `found` indices so far.
module _ {T : Type 0} (code : Coding T) (owner capacity cell found : ℕ) where
  -- The find in a container of this capacity, at this stage.
  abbrev stands : FindStage → Find T (Buffer 128)
  stands stage = record { capacity = capacity; stage = stage; of = record {} }

  -- The find at this cell.
  abbrev here : Find T (Buffer 128)
  here = at_cell capacity cell found

  -- the find stands at its next stage, or has ended, after it has loaded the cell
  abbrev There : View T → View T → Buffer 128 → List (ℕ × T) → After (Find T (Buffer 128)) ℕ → Type 0
  There base w room copies a = Next (λ (z : View T). z.capacity) (FindAt code owner) (FindDone code owner) base a (room, copies) w

  -- where the load of this cell, which found k, has led the find
  abbrev Loaded : View T → View T → Buffer 128 → List (ℕ × T) → ℕ → Type 0
  Loaded base w room copies k = There base w room copies (find_goes code owner here k)

  -- A loaded cell of the owner leads the find to the load of its change number.
  pub comes_own : {base w : View T} {room : Buffer 128} {copies : List (ℕ × T)} {k : ℕ} → k ≡ owner → Loaded base w room copies k
      → FindAt code owner base w (stands (finds.LoadsCount cell (one_more found))) (room, copies)
  comes_own k_is_owner loaded = grind (arith, by_eq)

  -- A loaded cell that is not the owner's leads the find to the next cell.
  pub comes_next : {base w : View T} {room : Buffer 128} {copies : List (ℕ × T)} {k : ℕ} → (k ≡ owner → ⊥) → cell + 1 < capacity
      → Loaded base w room copies k → FindAt code owner base w (at_cell capacity (cell + 1) found) (room, copies)
  comes_next other within loaded = grind (arith, by_eq, by_test, nat_lt, nat_tests)

  -- A loaded last cell that is not the owner's ends the find.
  pub comes_past : {base w : View T} {room : Buffer 128} {copies : List (ℕ × T)} {k : ℕ} → (k ≡ owner → ⊥) → capacity ≤ cell + 1
      → Loaded base w room copies k → FindDone code owner base found (room, copies) w
  comes_past other last loaded = grind (arith, by_eq, by_test, nat_lt, nat_tests)
