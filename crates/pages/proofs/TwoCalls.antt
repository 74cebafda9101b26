-- A history of two calls that have ended, one before the other or both at once, is linearizable only in one of two orders.
use Rattle.std.proofs.Common.{All, ◌⊎◌, inl, inr}
use Rattle.std.specs.List.{AllPairs, Contains}
use Rattle.model.proofs.Names.{IfSome, List, Some, [], ap, arith, subst, sym, ℕ, ⊎_elim, ◌<◌, ◌∙◌, ◌∷◌, ◌≡◌, ◌≢◌, ◌≤◌}
use Rattle.model.proofs.Linearizable.Members.{none_there, split, either, three_of_two}
use Rattle.pages.specs.Machine.{Called, Event, IsLegal, IsLinearizable, Object, calls_from}

-- A call that has ended: the history has its invocation at `place`, and its response at `end`.
pub record Ended (Call Answer : Type 0) : Type 0 where
  pub place : ℕ
  pub party : ℕ
  pub call : Call
  pub end : ℕ
  pub answer : Answer

-- the call as the calls of its history list it
abbrev pub called : {Call Answer : Type 0} → Ended Call Answer → Called Call Answer
called c = record { place = c.place; party = c.party; call = c.call; response = Some (c.end, c.answer) }

-- The history has just two calls, and both have ended.
pub record HasTwo {Call Answer : Type 0} (history : List (Event Call Answer)) : Type 0 where
  pub first : Ended Call Answer
  pub second : Ended Call Answer
  pub calls : calls_from history 0 ≡ called first ∷ called second ∷ []
  pub in_order : first.place < second.place  -- the calls stand in the order in which they were invoked

module _ {Call Answer State : Type 0} (o : Object Call Answer State) {history : List (Event Call Answer)} (has_two : HasTwo history) where
  open has_two use {first, second, calls, in_order}

  -- an entry of a sequence: a call and its answer
  abbrev Entry : Type 0
  Entry = Called Call Answer × Answer

  abbrev one : Entry
  one = (called first, first.answer)

  abbrev two : Entry
  two = (called second, second.answer)

  -- The object takes the first call before the second; or the second before the first, if it was
  -- invoked no later than the first responded.
  abbrev InOneOrder : Type 0
  InOneOrder = IsLegal o o.opening (one ∷ two ∷ []) ⊎ (IsLegal o o.opening (two ∷ one ∷ []) × (second.place ≤ first.end))

  is_one_of : (x : Entry) → Contains (calls_from history 0) x.0 → (one.0 ≡ x.0) ⊎ (two.0 ≡ x.0)
  is_one_of x is = either one.0 two.0 x.0 (subst (λ cs. Contains cs x.0) calls is)

  both : {A : Type 0} (x : Entry) → x ≡ one → x ≡ two → A
  both x e f =
      let same_place : first.place ≡ second.place = ap (λ (x : Entry). x.0.place) (sym e ∙ f) in
      absurd (omega (arith, in_order))

  -- a legal sequence that contains both calls, and no other, has them in one of the two orders
  ordered : (xs : List Entry) → IsLegal o o.opening xs → All (λ x. Contains (calls_from history 0) x.0) xs
      → Contains xs one → Contains xs two → AllPairs (λ x y. x.0 ≢ y.0) xs
      → AllPairs (λ x y. IfSome y.0.response (λ r. x.0.place ≤ r.0)) xs → InOneOrder
  ordered [] legal invoked mine theirs once real_time = absurd (none_there one mine)
  ordered (x ∷ []) legal invoked mine theirs once real_time =
      ⊎_elim (λ is. ⊎_elim (λ too. both x is too) (λ more. absurd (none_there two more)) (split x two [] theirs)) (λ more. absurd (none_there one more))
      (split x one [] mine)
  ordered (x ∷ y ∷ []) legal invoked mine theirs once real_time =
      ⊎_elim (λ is. ⊎_elim (λ too. both x is too) (λ next. inl (in_turn is next)) (either x y two theirs))
      (λ is. ⊎_elim (λ front. inr (swapped front is)) (λ too. both y is too) (either x y two theirs))
      (either x y one mine)
    where
      in_turn : x ≡ one → y ≡ two → IsLegal o o.opening (one ∷ two ∷ [])
      in_turn e f = subst (λ x. IsLegal o o.opening (x ∷ two ∷ [])) e (subst (λ y. IsLegal o o.opening (x ∷ y ∷ [])) f legal)

      -- where the second comes first it was invoked no later than the first responded
      swapped : x ≡ two → y ≡ one → IsLegal o o.opening (two ∷ one ∷ []) × (second.place ≤ first.end)
      swapped e f = (
        subst (λ x. IsLegal o o.opening (x ∷ one ∷ [])) e (subst (λ y. IsLegal o o.opening (x ∷ y ∷ [])) f legal),
        subst (λ (x : Entry). x.0.place ≤ first.end) e
            (subst (λ (y : Entry). IfSome y.0.response (λ r. x.0.place ≤ r.0)) f (real_time 0 1 x (omega arith) (omega arith))),
      )
  ordered (x ∷ y ∷ z ∷ rest) legal invoked mine theirs once real_time =
      absurd
      (three_of_two one.0 two.0 x.0 y.0 z.0
      (is_one_of x (invoked 0 x (omega arith))) (is_one_of y (invoked 1 x (omega arith))) (is_one_of z (invoked 2 x (omega arith)))
      (once 0 1 x (omega arith) (omega arith)) (once 0 2 x (omega arith) (omega arith)) (once 1 2 x (omega arith) (omega arith)))

  -- a linearizable history has its two calls in one of the two orders
  pub in_one_order : IsLinearizable o history → InOneOrder
  in_one_order linearizable =
      let ended : All (λ (call : Called Call Answer). IfSome call.response (λ r. Contains linearizable.sequence (call, r.1))) (one.0 ∷ two.0 ∷ []) =
      subst (All (λ (call : Called Call Answer). IfSome call.response (λ r. Contains linearizable.sequence (call, r.1)))) calls linearizable.completed in
      let mine : Contains linearizable.sequence one = ended 0 one.0 (omega arith) in
      let theirs : Contains linearizable.sequence two = ended 1 two.0 (omega arith) in
      ordered linearizable.sequence linearizable.legal linearizable.invoked mine theirs linearizable.once linearizable.real_time

  -- a history whose first call ends before its second begins is not linearizable where the object refuses this order
  pub in_turn_alone : (IsLegal o o.opening (one ∷ two ∷ []) → ⊥) → first.end < second.place → IsLinearizable o history → ⊥
  in_turn_alone never before linearizable =
      ⊎_elim never (λ (other : IsLegal o o.opening (two ∷ one ∷ []) × (second.place ≤ first.end)). omega (arith, other.1))
      (in_one_order linearizable)

  -- a history is not linearizable where the object refuses both orders of its two calls
  pub neither_order : (IsLegal o o.opening (one ∷ two ∷ []) → ⊥) → (IsLegal o o.opening (two ∷ one ∷ []) → ⊥) → IsLinearizable o history → ⊥
  neither_order never not_either linearizable =
      ⊎_elim never (λ (other : IsLegal o o.opening (two ∷ one ∷ []) × (second.place ≤ first.end)). not_either other.0) (in_one_order linearizable)
