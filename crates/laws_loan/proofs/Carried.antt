-- Where a party writes events of its own, each index in passing is still carried by the span
-- of its party's call.
use Rattle.laws_loan.proofs.Names.{◌≡◌, ◌≢◌, ℕ, ⊎_elim, List, ◌++◌, fold, sym, ap, subst, ◌∙◌, cases_eq, Event}
use Rattle.laws_loan.proofs.Names.{Span, own_after, span_of, AreOwn, span_of-own, span_of-other}
use Rattle.laws_loan.proofs.Invariant.{Carries}

-- the events `es`, behind `events`, are all of the party `p`, whose span before them is `from`
module _ {T : Type 0} (p : ℕ) (events es : List (Event T)) (own : AreOwn p es) {from : Span T} (span_is : span_of p events ≡ from) where
  -- the span of the party goes on with the events of its step
  pub span_then : span_of p (events ++ es) ≡ fold own_after from es
  span_then = span_of-own p events es own ∙ ap (λ span. fold own_after span es) span_is

  -- an index in passing in a party's call is still carried by its span, where the events leave it
  pub carried_on : (i q : ℕ) → Carries i (span_of q events) → (Carries i from → Carries i (fold own_after from es)) → Carries i (span_of q (events ++ es))
  carried_on i q carried mine =
      ⊎_elim
      (λ (here : q ≡ p).
      rw here (subst (Carries i) (sym span_then) (mine (subst (Carries i) span_is (rw (← here) carried)))))
      (λ (away : q ≢ p). subst (Carries i) (sym (span_of-other p q events es away own)) carried)
      (cases_eq q p)
