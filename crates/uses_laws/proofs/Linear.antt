-- Where a call stands in a linearization, and that two calls stand there in their order.
use Rattle.std.proofs.Common.{◌≡◌, ◌≢◌, ◌⊎◌, ⊎_elim, ℕ, ◌+◌, ◌<◌, ◌≤◌, true, Option, Some, IfSome, List, [], ◌∷◌, length, get_or}
use Rattle.std.proofs.Common.{refl, sym, ap, subst, ◌∙◌, arith}
use Rattle.std.proofs.lemmas.Bool.{cases_eq, cases_lt}
use Rattle.std.proofs.lemmas.Option.{slice_get_read, get_or_from_slice_get}
use Rattle.std.specs.List.{slice_get, Contains}
use Rattle.model.specs.declared.event.Answer.{Answer}
use Rattle.model.specs.declared.event.Answer.TheVariants.{Truth}
use Rattle.model.specs.declared.event.Event.{Event}
use Rattle.model.specs.declared.event.Event.TheVariants.{Begun, Finished}
use Rattle.model.specs.declared.event.Start.TheVariants.{Atomic, Queues}
use Rattle.model.specs.declared.families.atomic.AtomicStart.TheVariants.{Store}
use Rattle.model.specs.declared.families.queues.QueueKind.TheVariants.{IndexQueue}
use Rattle.model.specs.declared.families.queues.QueueStart.TheVariants.{PushIndex}
use Rattle.model.specs.Linearizable.{Response, Call, response_in, calls_from, calls_of, Precedes, StandsBefore, Specification, IsLinearizable}
use Rattle.model.specs.Linearized.{as_list, as_value, is_push_or_pop, is_store_or_load}
use Rattle.model.proofs.Linearizable.Acting.{call_at, response_at, responded, passed}
use Rattle.model.proofs.Linearizable.Members.{none_there, split}
use Rattle.history.specs.declared.view.View.{View}
use Rattle.history.specs.Order.{StandsIn}
use Rattle.lock_free.specs.Coding.{one_word}
use Rattle.uses_laws.specs.Order.{PushedInOrder, StoredInOrder}

module _ {T : Type 0} where
  -- ---- a call responds after its invocation

  -- the response to a party stands no earlier than the events that were searched
  not_before : (p : ℕ) (es : List (Event T)) (n : ℕ) (r : Response T) → response_in p es n ≡ Some r → n ≤ r.place
  not_before p [] n r e = absurd (cc)
  not_before p (Finished q start answer ∷ es) n r e =
      go (λ x. not_before p es (n + 1) r x) (cases_eq q p)
    where
      -- the first of these events is the party's response, and stands at that place or later
      mine : q ≡ p → n ≤ r.place
      mine same =
          let is : Some (response_at n answer) ≡ Some r = sym (responded p q start answer es n same) ∙ e in
          let at : response_at n answer ≡ r = cc in
          let place : n ≡ r.place = ap (λ (z : Response T). z.place) at in
          omega arith

      theirs : (response_in p es (n + 1) ≡ Some r → n + 1 ≤ r.place) → q ≢ p → n ≤ r.place
      theirs later ne = omega (arith, later (sym (passed p q start answer es n ne) ∙ e))

      go : (response_in p es (n + 1) ≡ Some r → n + 1 ≤ r.place) → (q ≡ p) ⊎ (q ≢ p) → n ≤ r.place
      go later either = ⊎_elim mine (theirs later) either
  not_before p (x ∷ es) n r e = omega (arith, not_before p es (n + 1) r e)

  -- a call responds after its invocation
  responds : (es : List (Event T)) (n : ℕ) (call : Call T) (r : Response T) → Contains (calls_from es n) call → call.response ≡ Some r → call.place < r.place
  responds [] n call r there e = absurd (none_there call there)
  responds (Begun p start ∷ es) n call r there e =
      ⊎_elim here (λ more. responds es (n + 1) call r more e)
      (split (call_at n p start (response_in p es (n + 1))) call (calls_from es (n + 1)) there)
    where
      -- the call that the first event begins responds after its invocation
      here : call_at n p start (response_in p es (n + 1)) ≡ call → call.place < r.place
      here same =
          let is : response_in p es (n + 1) ≡ Some r = ap (λ (z : Call T). z.response) same ∙ e in
          let place : n ≡ call.place = ap (λ (z : Call T). z.place) same in
          omega (arith, not_before p es (n + 1) r is)
  responds (x ∷ es) n call r there e = responds es (n + 1) call r there e

  -- x and y are calls, r is the response to x, which comes before y
  module _ (x y : Call T) (r : Response T) (done : x.response ≡ Some r) (before : Precedes x y) where
    ends_before : r.place < y.place
    ends_before = subst (λ (o : Option (Response T)). StandsBefore o y.place) done before

    -- a call that precedes another is another
    apart : (history : List (Event T)) → Contains (calls_of history) x → x ≡ y → ⊥
    apart history there same =
        let place : x.place ≡ y.place = ap (λ (z : Call T). z.place) same in
        omega (arith, responds history 0 x r there done, ends_before)

  -- ---- a linearization

  module _ {S : Type 0} (spec : Specification T S) (history : List (Event T)) (order : IsLinearizable spec history) where
    -- it has each call of the object's that has ended, with its answer
    pub ended_there : (call : Call T) (r : Response T) → Contains (calls_of history) call → call.response ≡ Some r
        → spec.is_call call.start ≡ true → Contains order.sequential (call, r.answer)
    ended_there call r there done own =
        let at : IfSome call.response (λ response. spec.is_call call.start ≡ true → Contains order.sequential (call, response.answer)) =
        subst (λ (z : Call T). IfSome z.response (λ response. spec.is_call z.start ≡ true → Contains order.sequential (z, response.answer)))
        there.2 (order.completed there.0 call there.1) in
        let so : spec.is_call call.start ≡ true → Contains order.sequential (call, r.answer) =
        subst (λ (o : Option (Response T)). IfSome o (λ response. spec.is_call call.start ≡ true → Contains order.sequential (call, response.answer)))
        done at in
        so own

    abbrev entries : List (Call T × Answer T)
    entries = order.sequential

    read : (x : Call T × Answer T) → (there : Contains entries x) → slice_get entries there.0 ≡ Some x
    read x there = slice_get_read entries (length entries) there.0 x refl there.1 (sym there.2)

    -- if one call precedes another in the history, it stands before it in the linearization
    pub in_order : (x y : Call T) (a b : Answer T) (r : Response T) → (one : Contains entries (x, a)) → (two : Contains entries (y, b))
        → Contains (calls_of history) x → x.response ≡ Some r → Precedes x y → one.0 < two.0
    in_order x y a b r one two there done before = ⊎_elim (λ less. less) (λ most. ⊎_elim (same) (other most) (cases_eq two.0 one.0)) (cases_lt one.0 two.0)
      where
        -- the two calls do not stand at one place of the order
        same : two.0 ≡ one.0 → one.0 < two.0
        same e =
            let first = read (x, a) one in
            let second = read (y, b) two in
            let both : Some (y, b) ≡ Some (x, a) = sym second ∙ (ap (slice_get entries) e ∙ first) in
            let is : (y, b) ≡ (x, a) = cc in
            absurd (apart x y r done before history there (sym (ap (λ (z : Call T × Answer T). z.0) is)))

        -- the second call does not stand before the first
        other : two.0 ≤ one.0 → two.0 ≢ one.0 → one.0 < two.0
        other most ne =
            let less : two.0 < one.0 = omega arith in
            let never = order.real_time two.0 one.0 (x, a) less one.1 in
            let at : get_or entries two.0 (x, a) ≡ (y, b) = get_or_from_slice_get entries two.0 (y, b) (x, a) (read (y, b) two) in
            let now : Precedes (get_or entries one.0 (x, a)).0 (get_or entries two.0 (x, a)).0 =
            subst (λ (z : Call T × Answer T). Precedes z.0 (get_or entries two.0 (x, a)).0) (sym one.2)
            (subst (λ (z : Call T × Answer T). Precedes x z.0) (sym at) before) in
            absurd (never now)

-- two pushes of one caller stand in a linearization in their order
pub pushed_in_order : (capacity first second p q : ℕ) (old between new : View ℕ) (history : List (Event ℕ))
    → IsLinearizable (as_list IndexQueue capacity) history
    → (x : StandsIn p (Queues (PushIndex first)) (Truth true) old between history)
    → (y : StandsIn q (Queues (PushIndex second)) (Truth true) between new history)
    → Precedes x.call y.call → PushedInOrder capacity first second history
pushed_in_order capacity first second p q old between new history order x y before =
    let one = ended_there (as_list IndexQueue capacity) history order x.call (response_at x.ends (Truth true)) x.there x.answered (ap is_push_or_pop x.named) in
    let two = ended_there (as_list IndexQueue capacity) history order y.call (response_at y.ends (Truth true)) y.there y.answered (ap is_push_or_pop y.named) in
    record {
      order = order;
      place = one.0;
      later = two.0;
      before =
          in_order (as_list IndexQueue capacity) history order x.call y.call (Truth true) (Truth true) (response_at x.ends (Truth true)) one two
          x.there x.answered before;
      first_push = (x.call, slice_get_read order.sequential (length order.sequential) one.0 (x.call, Truth true) refl one.1 (sym one.2), x.named);
      second_push = (y.call, slice_get_read order.sequential (length order.sequential) two.0 (y.call, Truth true) refl two.1 (sym two.2), y.named);
    }

-- two stores of one caller stand in a linearization in their order
pub stored_in_order : (first second p q : ℕ) (old between new : View ℕ) (history : List (Event ℕ))
    → IsLinearizable (as_value one_word) history
    → (x : StandsIn p (Atomic (Store first)) (Truth true) old between history)
    → (y : StandsIn q (Atomic (Store second)) (Truth true) between new history)
    → Precedes x.call y.call → StoredInOrder first second history
stored_in_order first second p q old between new history order x y before =
    let one = ended_there (as_value one_word) history order x.call (response_at x.ends (Truth true)) x.there x.answered (ap is_store_or_load x.named) in
    let two = ended_there (as_value one_word) history order y.call (response_at y.ends (Truth true)) y.there y.answered (ap is_store_or_load y.named) in
    record {
      order = order;
      place = one.0;
      later = two.0;
      before =
          in_order (as_value one_word) history order x.call y.call (Truth true) (Truth true) (response_at x.ends (Truth true)) one two
          x.there x.answered before;
      first_store = (x.call, slice_get_read order.sequential (length order.sequential) one.0 (x.call, Truth true) refl one.1 (sym one.2), x.named);
      second_store = (y.call, slice_get_read order.sequential (length order.sequential) two.0 (y.call, Truth true) refl two.1 (sym two.2), y.named);
    }
