-- A step of a call asks for one operation at most, which the view counts.
use Rattle.lock_free_owners.proofs.Names.{ℕ, ◌+◌, ◌≤◌, arith, Me, Owes}
use Rattle.atomic_table.specs.Table.{State}
use Rattle.steps.specs.declared.ask.Want.{Want}
use Rattle.steps.specs.declared.ask.Want.TheVariants as wants

-- The table has this rule and these words and slots, and `id` is the number of the seat; `asked` is how many operations a
-- view counts.
module _ {V : Type 0} (asked : V → ℕ) (holds : State (Unit {0}) V → Type 0) (words slots id : ℕ) where
  -- what a call owes for its want it owes with the view that counts at most one operation more
  pub counted_owes : (told : V → ℕ → V → Type 0) (want : Want (Unit {0})) (me : Me (Unit {0}) V)
      → Owes asked holds words slots id told want me
      → Owes asked holds words slots id (λ v n w. told v n w × (asked w ≤ asked v + 1)) want me
  counted_owes told (wants.Ask a) me owed = (
    owed.0,
    λ s r long at small.
        let (after, act, valid, kept, (tells, one_more, same_slots)) = owed.1 s r long at small in
        (after, act, valid, kept, ((tells, omega (arith, one_more)), one_more, same_slots)),
  )
  counted_owes told (wants.Question q) me owed = (owed, omega arith)
  counted_owes told wants.Nothing me owed = (owed, omega arith)
