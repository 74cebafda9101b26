-- `Sender::send` (src/sender.rt): its return meets the clauses `back`, `sends` and `handed_back`.
use Rattle.std.proofs.Common.{rules, inl, refl, ◌∙◌}
use Rattle.zero_copy_loans.proofs.Ends.{handed_back, sent_back, sent_one}
use Rattle.zero_copy_loans.proofs.Places.{unsent}
use Rattle.zero_copy_loans.proofs.sender.Sender.send.Goals as goal

pub returns-then-not-has-clause-back : goal.returns-then-not-has-clause-back
returns-then-not-has-clause-back g c loaned = c.give_up-then-not-has.ensures.places loaned ∙ unsent _ _ loaned

-- where the push hands nothing back, one number more is sent, and none came back
pub returns-in_err-back-clause-sends : goal.returns-in_err-back-clause-sends
returns-in_err-back-clause-sends g c loaned has =
    sent_one _ _ _ _ _ c.from_residual.ensures has c.args.self.now.layout.fits (search rules) refl refl (search rules) (search rules)
    c.in_err-back.ensures.added

-- the word that the push handed back names the number and place that are answered
pub returns-clause-handed_back : goal.returns-clause-handed_back
returns-clause-handed_back g c =
    inl (
      c.parts-number.ensures.within,
      handed_back _ _ _ c.in_ok-back.back _ _ _ _ (search rules) c.parts-number.ensures.is c.settle.ensures.same.queues.0
          c.in_ok-back.ensures.handed_back,
    )

-- one number more is sent, and the one that the push handed back came back
pub returns-clause-sends : goal.returns-clause-sends
returns-clause-sends g c loaned has =
    sent_back _ _ _ _ c.in_ok-back.back _ _ has c.args.self.now.layout.fits
    c.parts-number.ensures.within (search rules) refl refl (search rules) (search rules)
    c.parts-number.ensures.is
    (handed_back _ _ _ _ _ _ _ _ refl refl c.settle.ensures.same.queues.0 c.in_ok-back.ensures.handed_back)
