-- How a call of a robust set goes on between two turns, and that the loops over its cells go from a
-- cell to the next one.
use Rattle.lock_free_owners.proofs.Names.{◌≡◌, ◌∙◌, ℕ, ◌+◌, ◌<◌, ◌==◌, nat_lt, if◌then◌else◌, arith}
use Rattle.lock_free_owners.proofs.Names.{nat_tests, at_acquire, acquire_tries, acquire_after}
use Rattle.lock_free_owners.proofs.Names.{borrowed_counted, borrowed_after, empty, greatest, count_comes_to, by_test}
use Rattle.lock_free_owners.proofs.Names.{After, GoOn, Done, View}
use Rattle.steps.specs.Indices.Robust.Parts.{one_more}
use Rattle.steps.specs.declared.indices.robust.acquire.Acquire.{Acquire}
use Rattle.steps.specs.declared.indices.robust.acquire.AcquireStage.TheVariants as acquires
use Rattle.steps.specs.declared.indices.robust.looks.BorrowedIndices.{BorrowedIndices}
use Rattle.steps.specs.declared.indices.robust.parts.Count.{Count}
use Rattle.steps.specs.declared.indices.robust.parts.Count.TheVariants as counts
use Rattle.steps.specs.declared.indices.robust.parts.Counted.{Counted}
use Rattle.steps.specs.declared.indices.robust.recover.Recover.{Recover}
use Rattle.steps.specs.declared.indices.robust.recover.RecoverStage.TheVariants as recovers
use Rattle.threaded.specs.declared.driver.seated.Seated.{Seated}
use Rattle.lock_free_owners.specs.Robust.Turns.{Goes, StaysAtBoard}

module _ {T C E : Type 0} (at : View T → View T → C → Unit {0} → Type 0) (ends : View T → E → Unit {0} → View T → Type 0) where
  -- Where a step has led to a next stage, the call is under way at it.
  pub gone_on : {base v w : View T} {c d : C} {a : After C E} → Goes at ends v c a w → a ≡ GoOn d → at base v c tt → at base w d tt
  gone_on goes a_is at_holds = grind arith

  -- Where a step has ended the call, it has ended with that answer.
  pub has_ended : {base v w : View T} {c : C} {e : E} {a : After C E} → Goes at ends v c a w → a ≡ Done e → at base v c tt → ends base e tt w
  has_ended goes a_is at_holds = grind arith

-- steps, and then further ones, leave a seat at its table
pub stays_then : {Q : Type 0} {s t u : Seated (View ℕ) ℕ Q} → StaysAtBoard s t → StaysAtBoard t u → StaysAtBoard s u
stays_then first next =
    record { same = (next.same.0 ∙ first.same.0, next.same.1 ∙ first.same.1, next.same.2 ∙ first.same.2); board = next.board }

-- ---- an exchange of a cell leads to the next cell, or to no cell

module _ (capacity counter cell : ℕ) where
  -- The acquire at its exchange of this cell.
  abbrev pub fills : ℕ → Acquire
  fills index = record { capacity = capacity; stage = acquires.FillsCell counter index }

  -- an acquire that goes on to another cell has a greater index there, below the capacity
  abbrev FillsNext : ℕ → ℕ → Acquire → Type 0
  FillsNext other index d = d.stage ≡ acquires.FillsCell other index → (d ≡ fills index) × (cell < index) × (index < capacity)

  -- An acquire that goes on to another cell stands at a later one.
  pub fills_next : (heard : ℕ) {other index : ℕ} {d : Acquire} → acquire_after (fills cell) heard ≡ GoOn d → FillsNext other index d
  fills_next heard {other} {index} {d} = grind (arith, by_test, empty, at_acquire, acquire_tries, nat_lt, nat_tests)

-- ---- ---- a load of a cell by a count goes on to the next cell, too

module _ (capacity counter cell filled : ℕ) where
  -- The count at its load of this cell, with this many filled cells.
  abbrev pub loads : ℕ → ℕ → BorrowedIndices
  loads index found = record { capacity = capacity; count = counts.LoadsCell counter index found }

  -- a count that goes on to another cell has a greater index there, below the capacity
  abbrev LoadsNext : ℕ → ℕ → ℕ → BorrowedIndices → Type 0
  LoadsNext other index found d = d.count ≡ counts.LoadsCell other index found → (d ≡ loads index found) × (cell < index) × (index < capacity)

  -- A count of cells, read as a count of the borrowed indices.
  abbrev counted : After Count Counted → After BorrowedIndices ℕ
  counted a = borrowed_counted (loads cell filled) a

  -- A count that comes to the next cell stands at the load of it.
  comes_next : (seen : ℕ) {other index found : ℕ} {d : BorrowedIndices} → counted (count_comes_to capacity counter (cell + 1) seen) ≡ GoOn d
      → LoadsNext other index found d
  comes_next seen {other} {index} {found} {d} = grind (arith, by_test, nat_lt, greatest, nat_tests)

  -- A count that goes on to another cell stands at a later one.
  pub loads_next : (heard : ℕ) {other index found : ℕ} {d : BorrowedIndices} → borrowed_after (loads cell filled) heard ≡ GoOn d
      → LoadsNext other index found d
  loads_next heard = comes_next (if heard == empty then filled else one_more filled)

-- ---- a recovery that has come to a cell

-- The recovery at its load of this cell.
abbrev pub passes : ℕ → ℕ → Recover
passes capacity index = record { capacity = capacity; stage = recovers.LoadsCell index }
