-- What a wrong body of a queue's peek, or of a look at one of its roles, would answer, and which of the call's clauses refuses
-- that. It is said of every history. A name says what the body does.
use Rattle.std.proofs.Common.{◌≡◌, ◌≢◌, ℕ, Bool, true, false, not, Option, Some, None, is_none, List, [], ◌∷◌, length}
use Rattle.std.proofs.Common.{length-append, slice_get, refl, sym, ap, ◌∙◌, arith}
use Rattle.std.proofs.lemmas.List.{append_cancel_left}
use Rattle.model.specs.declared.event.Item.{Item}
use Rattle.model.specs.Families.Queues.Reading.{handed_out, waiting, producer_of}
use Rattle.steps.specs.declared.queues.roles.Role.{Role}
use Rattle.steps.specs.declared.queues.roles.Role.TheVariants.{Producer, Consumer}
use Rattle.lock_free.specs.HistoryView.View.{View}
use Rattle.lock_free.specs.Queues.Contracts.{PopDone, HasPeeked, HasSeenRole}
use Rattle.uses_laws.proofs.WrongBodies.{no_call}

module _ {T : Type 0} where
  -- ---- peeks

  -- a peek that answers none, though a value waits as it ends
  pub peek_answers_none : (item : Item T) (rest : List (Item T)) (v w : View T) → waiting w.seen ≡ item ∷ rest → HasPeeked None v w → ⊥
  peek_answers_none item rest v w waits peeked =
      let first : None ≡ slice_get (item ∷ rest) 0 = peeked.oldest ∙ ap (λ xs. slice_get xs 0) waits in
      cc

  -- a peek that answers another value than the oldest
  pub peek_answers_another : (item other : Item T) (rest : List (Item T)) (v w : View T) → waiting w.seen ≡ item ∷ rest → other ≢ item
      → HasPeeked (Some other) v w → ⊥
  peek_answers_another item other rest v w waits ne peeked =
      let first : Some other ≡ slice_get (item ∷ rest) 0 = peeked.oldest ∙ ap (λ xs. slice_get xs 0) waits in
      let one : other ≡ item = cc in
      ne one

  -- a peek that answers a value, though none waits
  pub peek_answers_what_is_gone : (item : Item T) (v w : View T) → waiting w.seen ≡ [] → HasPeeked (Some item) v w → ⊥
  peek_answers_what_is_gone item v w none peeked =
      let first : Some item ≡ None = peeked.oldest ∙ ap (λ xs. slice_get xs 0) none in
      cc

  -- a peek that takes its value out, as a pop does
  pub peek_takes_out : (item : Item T) (answer : Option (Item T)) (v w : View T) → PopDone item v w → HasPeeked answer v w → ⊥
  peek_takes_out item answer v w popped peeked =
      absurd (omega (arith, ap length popped.1.list, ap length peeked.list, length-append (handed_out v.seen) (item ∷ [])))

  -- a peek that answers without a step
  pub peek_takes_no_step : (answer : Option (Item T)) (v : View T) → HasPeeked answer v v → ⊥
  peek_takes_no_step answer v peeked = no_call _ _ _ _ v v refl peeked.called

  -- ---- looks at a role

  -- a look that answers false, though somebody holds the role as it ends
  pub has_producer_answers_false : (holder : ℕ) (v w : View T) → producer_of w.seen ≡ Some holder → HasSeenRole Producer false v w → ⊥
  has_producer_answers_false holder v w held seen_role =
      let e : false ≡ true = seen_role.holder ∙ ap (λ o. not (is_none o)) held in
      cc

  -- no look answers true though nobody holds the role as it ends
  pub has_producer_answers_true : (v w : View T) → producer_of w.seen ≡ None → HasSeenRole Producer true v w → ⊥
  has_producer_answers_true v w none seen_role =
      let clash : true ≡ false = seen_role.holder ∙ ap (λ o. not (is_none o)) none in
      cc

  -- a look at the producer's role that looks at the consumer's
  pub has_producer_looks_at_consumer : (taken : Bool) (v w : View T) → HasSeenRole Consumer taken v w → HasSeenRole Producer taken v w → ⊥
  has_producer_looks_at_consumer taken v w wrong seen_role =
      let same_end = append_cancel_left v.made _ _ (sym wrong.called.made ∙ seen_role.called.made) in
      absurd (cc)

  -- a look at a role that answers without a step
  pub look_at_role_takes_no_step : (role : Role) (taken : Bool) (v : View T) → HasSeenRole role taken v v → ⊥
  look_at_role_takes_no_step role taken v seen_role = no_call _ _ _ _ v v refl seen_role.called
