-- A step of a call leaves the seat at its table, and a count goes on by it or ends.
use Rattle.lock_free_owners.proofs.Names.{◌≡◌, ◌∙◌, ℕ, sym, subst, After, GoOn, Done, Coding, CountOf, View}
use Rattle.steps.specs.declared.indices.robust.looks.BorrowedIndices.{BorrowedIndices}
use Rattle.threaded.specs.declared.driver.seated.Seated.{Seated}
use Rattle.lock_free_owners.specs.Container.Turns.{CountAt, CountEnds, CountGoes, StaysAtBoard}
use Rattle.lock_free_owners.proofs.RobustSet.Turns.{gone_on, has_ended}

-- steps, and then further ones, leave it at its table
pub stays_then : {T Q : Type 0} {size : ℕ} {s t u : Seated (View T) ℕ Q} → StaysAtBoard size s t → StaysAtBoard size t u → StaysAtBoard size s u
stays_then first next =
    record { same = (next.same.0 ∙ first.same.0, next.same.1 ∙ first.same.1, next.same.2 ∙ first.same.2); board = next.board }

-- A count, for a length or a test, that began in the view `base` and stands in the view v.
module _ {T : Type 0} (code : Coding T) (which : CountOf) {base v : View T} where
  -- A count that is equal to one under way is under way.
  pub count_as : {c d : BorrowedIndices} → c ≡ d → CountAt code which base v d tt → CountAt code which base v c tt
  count_as is at = subst (λ d. CountAt code which base v d tt) (sym is) at

  -- Where a step has led to a next stage, the count is under way at it.
  pub count_on : {w : View T} {c d : BorrowedIndices} {a : After BorrowedIndices ℕ} → CountGoes code which v c a w → a ≡ GoOn d → CountAt code which base v c tt
      → CountAt code which base w d tt
  count_on goes is at = gone_on (CountAt code which) (CountEnds code which) goes is at

  -- Where a step has come to the end of the count with a number, the count has ended with this number.
  pub count_over : {w : View T} {c : BorrowedIndices} {n : ℕ} {a : After BorrowedIndices ℕ} → CountGoes code which v c a w → a ≡ Done n
      → CountAt code which base v c tt → CountEnds code which base n tt w
  count_over goes is at = has_ended (CountAt code which) (CountEnds code which) goes is at
