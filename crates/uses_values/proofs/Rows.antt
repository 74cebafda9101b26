-- What a `send` hands back and what it does not.
use Rattle.std.proofs.Common.{ℕ, ◌<◌, ◌≤◌, ⊎_elim, arith}
use Rattle.zero_copy_loans.specs.declared.sender.Back.{Back}
use Rattle.zero_copy_loans.specs.declared.sender.Sender.{Sender}
use Rattle.zero_copy_loans.specs.Ends.{layout_of, HandsBack}
use Rattle.zero_copy_slots.specs.declared.Keeps.{Ghosts}

module _ {X K : Type 0} {rule : Ghosts K X} where
  -- refused: a place past all those that a word has room for
  no_place : (place : ℕ) (back : Back) (old new : Sender X K rule) → place < (layout_of old).room → (layout_of old).room ≤ back.place
      → HandsBack place back old new
      → ⊥
  no_place place back old new within past k =
      ⊎_elim (λ sent. let below = sent.0 in absurd (omega arith))
      (λ none.
      ⊎_elim (λ unsent. let same = unsent.2 in absurd (omega arith)) (λ foreign. let same = foreign.2 in absurd (omega arith)) none)
      k
