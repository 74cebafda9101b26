-- Strong linearizability: the order in which calls act goes on as a history does, and linearizes it where each call acts once.
use Rattle.model.proofs.Names.{Bool, Event, IsLegal, List, Start, [], ap, false, map, moments, refl, true, ℕ, ◌++◌, ◌+◌, ◌∷◌, ◌≡◌}
use Rattle.model.specs.declared.event.Event.TheVariants.{Acted, Begun}
use Rattle.std.proofs.Common.{None}
use Rattle.model.specs.Linearizable.{Specification}
use Rattle.model.specs.StronglyLinearizable.{Ordered, ordered, IsLinearizedBy, AreStronglyLinearizable}
use Rattle.model.proofs.Linearizable.Acting.{order_in, ActsOnce}
use Rattle.model.proofs.Linearizable.Members.{put}
use Rattle.model.proofs.Linearizable.Order.{linearizable, in_that_order}

module _ {T : Type 0} (is_call : Start T → Bool) where
  -- the calls of a history in the order in which they act, from this place on
  abbrev order_from : List (Event T) → ℕ → (ℕ → ℕ) → List (Ordered T)
  order_from es place begun = map ordered (order_in is_call es place begun)

  abbrev GoesOn : List (Event T) → List (Event T) → ℕ → (ℕ → ℕ) → Type 0
  GoesOn es more place begun =
      (added : List (Ordered T)) × (order_from (es ++ more) place begun ≡ order_from es place begun ++ added)

  -- what a history is longer by adds calls at the end of its order
  goes_on : (es more : List (Event T)) (place : ℕ) (begun : ℕ → ℕ) → GoesOn es more place begun
  goes_on [] more place begun = (order_from more place begun, refl)
  goes_on (Begun p start ∷ es) more place begun = let r = goes_on es more (place + 1) (put p place begun) in (r.0, r.1)
  goes_on (Acted p start answer ∷ es) more place begun = go (is_call start) refl (goes_on es more (place + 1) begun)
    where
      -- The cases are whether the call that acts is one of the object.
      go : (b : Bool) → is_call start ≡ b → GoesOn es more (place + 1) begun → GoesOn (Acted p start answer ∷ es) more place begun
      go true is r = (r.0, rw is (ap (λ xs. record { place = begun p; party = p; start = start; answer = answer } ∷ xs) r.1))
      go false is r = (r.0, rw is r.1)
  goes_on (e ∷ es) more place begun = let r = goes_on es more (place + 1) begun in (r.0, r.1)

  -- the calls of a history in the order in which they act
  abbrev pub order : List (Event T) → List (Ordered T)
  order history = order_from history 0 (λ p. 0)

module _ {T State : Type 0} (spec : Specification T State)
    (others : (s : State) (start : Start T) → spec.is_call start ≡ false → spec.object.after s start ≡ s) where
  -- that order linearizes a history in which each call acts once
  pub by_acts : (history : List (Event T)) → ActsOnce spec.is_call history (λ p. None) → IsLegal spec.object (moments history)
      → IsLinearizedBy spec (order spec.is_call history) history
  by_acts history once legal =
      record { by = linearizable spec others {history = history} once legal; is = ap (map ordered) (in_that_order spec others history once legal) }

-- histories that are linearized by that order are strongly linearizable
pub strongly : {T State : Type 0} (IsHistory : List (Event T) → Type 0) (spec : Specification T State)
    → ((history : List (Event T)) → IsHistory history → IsLinearizedBy spec (order spec.is_call history) history)
    → AreStronglyLinearizable IsHistory spec
strongly IsHistory spec each =
    record { order = order spec.is_call; each = each; grows = λ history more. goes_on spec.is_call history more 0 (λ p. 0) }
