-- What a wrong body of a look at the single value would answer, and which of the call's clauses refuses that. It is said of every
-- history. A name says what the body does.
use Rattle.std.proofs.Common.{◌≡◌, ℕ, ◌<◌, ◌≤◌, Bool, true, false, not, Some, None, is_none, [], ◌∷◌, length, refl, ap, ◌∙◌}
use Rattle.std.proofs.Common.{length-append, arith}
use Rattle.model.specs.Families.Atomic.Reading.{holder_of}
use Rattle.lock_free.specs.HistoryView.View.{View}
use Rattle.lock_free.specs.Value.Contracts.{HasSeenProducer, HasSeenVersion, HasStored}
use Rattle.lock_free.specs.Value.Stored.{stored}
use Rattle.uses_laws.proofs.WrongBodies.{no_call}

module _ {T : Type 0} where
  -- a look at the version that answers the word of the role, which is 0 or 1
  pub version_answers_the_role : (word : ℕ) (v w : View T) → word ≤ 1 → 0 < length (stored w.seen) → HasSeenVersion word v w → ⊥
  version_answers_the_role word v w few some seen_version = absurd (omega (arith, seen_version.count))

  -- a look that answers the version of before a store that its pass knows of
  pub version_keeps_the_old_one : (x : T) (version : ℕ) (u v w : View T) → HasSeenVersion version u v → HasStored x v w
      → HasSeenVersion version v w
      → ⊥
  version_keeps_the_old_one x version u v w old store seen_version =
      absurd (omega (arith, old.count, seen_version.count, ap length store.list, length-append (stored v.seen) (x ∷ [])))

  -- a look that answers without a call
  pub version_without_a_step : (version : ℕ) (v : View T) → HasSeenVersion version v v → ⊥
  version_without_a_step version v seen_version = no_call _ _ _ _ v v refl seen_version.called

  -- a look at the role that answers false, though a party has the role as it ends
  pub has_producer_answers_false : (p : ℕ) (v w : View T) → holder_of w.seen ≡ Some p → HasSeenProducer false v w → ⊥
  has_producer_answers_false p v w has seen_producer = let e = seen_producer.holder ∙ ap (λ o. not (is_none o)) has in cc

  -- no look answers true though nobody has the role as it ends
  pub has_producer_answers_true : (v w : View T) → holder_of w.seen ≡ None → HasSeenProducer true v w → ⊥
  has_producer_answers_true v w none seen_producer = let e = seen_producer.holder ∙ ap (λ o. not (is_none o)) none in cc

  pub has_producer_without_a_step : (taken : Bool) (v : View T) → HasSeenProducer taken v v → ⊥
  has_producer_without_a_step taken v seen_producer = no_call _ _ _ _ v v refl seen_producer.called
