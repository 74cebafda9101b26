-- Strong linearizability, as Golab, Higham and Woelfel define it: one function orders the calls of each history, and of a
-- history that goes on the order goes on.
use Rattle.std.specs.Prelude.{◌≡◌, ℕ, List, ◌++◌, map}
use Rattle.model.specs.declared.event.Start.{Start}
use Rattle.model.specs.declared.event.Answer.{Answer}
use Rattle.model.specs.declared.event.Event.{Event}
use Rattle.model.specs.Linearizable.{Call, Specification, IsLinearizable}

-- A call as it stands in an order: where it was invoked in the history, by which party, what it is, and its answer.
-- Its response is left out, since the call may still be pending.
pub record Ordered (T : Type 0) : Type 0 where
  pub place : ℕ
  pub party : ℕ
  pub start : Start T
  pub answer : Answer T

module _ {T : Type 0} where
  abbrev pub ordered : Call T × Answer T → Ordered T
  ordered x = record { place = x.0.place; party = x.0.party; start = x.0.start; answer = x.1 }

  -- The history is linearizable, with its calls in this order.
  pub record IsLinearizedBy {State : Type 0} (spec : Specification T State) (order : List (Ordered T)) (history : List (Event T))
      : Type 0 where
    pub by : IsLinearizable spec history
    pub is : map ordered by.sequential ≡ order

-- These histories are strongly linearizable: `order` is one function of all of them, by which each is linearized, and what
-- a history is longer by only adds calls at the end of its order.
pub record AreStronglyLinearizable {T State : Type 0} (IsHistory : List (Event T) → Type 0) (spec : Specification T State)
    : Type 0 where
  pub order : List (Event T) → List (Ordered T)
  pub each : (history : List (Event T)) → IsHistory history → IsLinearizedBy spec (order history) history
  pub grows : (history more : List (Event T)) → (added : List (Ordered T)) × (order (history ++ more) ≡ order history ++ added)
