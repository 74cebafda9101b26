-- The book of a loan channel after a step of a call, from what the parts of the step have done to it: a
-- lemma, so that no goal computes the step.
use Rattle.std.proofs.Common.{◌≡◌, ℕ, Option, Some, None, List, fold, ap, sym, ◌∙◌}
use Rattle.steps.specs.declared.ask.After.{After}
use Rattle.steps.specs.Ask.{CameTo}
use Rattle.model.specs.declared.event.Answer.{Answer}
use Rattle.model.specs.declared.families.loan.Book.{Book}
use Rattle.model.specs.declared.families.loan.LoanStart.{LoanStart}
use Rattle.model.specs.declared.families.loan.calls.LoanFlight.{LoanFlight}
use Rattle.model.specs.declared.families.loan.effects.Effect.{Effect}
use Rattle.model.specs.Families.Loan.Calls.{after}
use Rattle.model.specs.Families.Loan.Steps.{effect_of, effects_of, book_after, ended_book, step}
use Rattle.model.specs.Step.{answer_in}

-- the answer that a call is said to have is the answer to which its step came
came : {C A : Type 0} (done : Option A) (call : C) (next : After C A) → CameTo done call next → done ≡ answer_in next
came None call next came_to = sym (ap answer_in came_to)
came (Some answer) call next came_to = sym (ap answer_in came_to)

-- A step leads a call from `flight` to `flight'`. Its events make `noted` of the book, and its end, if it is one, makes `settled` of that.
module _ (T : Type 0) (words : List ℕ) (push : Option (ℕ × ℕ)) (p : ℕ) (start : LoanStart)
    (flight flight' : LoanFlight) (old : ℕ) (book noted settled : Book) (effect : Effect)
    (done : Option (Answer T)) where
  -- the answer with which the step ends the call, if it ends it
  abbrev outcome : Option (Answer T)
  outcome = answer_in (after book.places flight old)

  -- the book that the parts of a step leave is what the step keeps
  pub kept_as : effect ≡ effect_of words push flight old → CameTo done flight' (after book.places flight old)
      → noted ≡ fold (book_after {T = T}) book (effects_of p effect done) → settled ≡ ended_book p start done noted
      → settled ≡ (step {T = T} words push p start flight old book).kept
  kept_as does came_to notes settles =
      settles
      ∙ ap (ended_book p start done) notes
      ∙ ap (λ o. ended_book p start o (fold (book_after {T = T}) book (effects_of p effect o))) (came done flight' (after book.places flight old) came_to)
      ∙ ap (λ f. ended_book p start outcome (fold (book_after {T = T}) book (effects_of p f outcome))) does
