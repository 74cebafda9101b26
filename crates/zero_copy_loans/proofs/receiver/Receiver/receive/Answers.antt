-- `Receiver::receive` (src/receiver.rt): its return meets the clauses `receives` and `none`.
use Rattle.std.proofs.Common.{rules, refl, inr, ◌∙◌}
use Rattle.zero_copy_loans.proofs.Ends.{received_none, received_one}
use Rattle.zero_copy_loans.proofs.Places.{past}
use Rattle.zero_copy_loans.proofs.receiver.Receiver.receive.Goals as goal

pub returns-in_err-word-clause-receives : goal.returns-in_err-word-clause-receives
returns-in_err-word-clause-receives g c =
    received_none _ _ _ c.from_residual.ensures (search rules) refl refl (search rules) (search rules)

pub returns-then-place-places-clause-receives : goal.returns-then-place-places-clause-receives
returns-then-place-places-clause-receives g c =
    received_one c.parts-number.result.0 c.parts-number.result.1 _ _ _ c.parts-number.ensures.within (search rules) refl refl (search rules)
    c.parts-number.ensures.is c.in_ok-word.ensures.popped.0

-- the word names a place that is none of the pool's: nothing is received
pub returns-else-place-places-clause-none : goal.returns-else-place-places-clause-none
returns-else-place-places-clause-none g c =
    inr (inr (
      c.in_ok-word.word,
      past _ _ _ _ _ _ c.parts-number.ensures.is c.parts-number.ensures.within c.if-place-places.false (c.places.ensures ∙ c.args.self.now.sized),
      c.in_ok-word.ensures.popped,
    ))

-- a word that names no place of the pool adds nothing to what was received
pub returns-else-place-places-clause-receives : goal.returns-else-place-places-clause-receives
returns-else-place-places-clause-receives g c =
    received_none _ _ _ refl (search rules) refl refl (search rules)
    (inr (inr (
      c.in_ok-word.word,
      past _ _ _ _ _ _ c.parts-number.ensures.is c.parts-number.ensures.within c.if-place-places.false (c.places.ensures ∙ c.args.self.now.sized),
      c.in_ok-word.ensures.popped,
    )))
