-- Two pushes of a queue, or two stores of a value, in a linearization of all threads' calls, and what two looks have in common.
use Rattle.std.specs.Prelude.{◌≡◌, ◌<◌, ◌++◌, ℕ, true, Some, List}
use Rattle.std.specs.List.{slice_get}
use Rattle.model.specs.declared.event.Answer.{Answer}
use Rattle.model.specs.declared.event.Answer.TheVariants.{Truth}
use Rattle.model.specs.declared.event.Event.{Event}
use Rattle.model.specs.declared.event.Start.TheVariants.{Atomic, Queues}
use Rattle.model.specs.declared.families.atomic.AtomicStart.TheVariants.{Store}
use Rattle.model.specs.declared.families.queues.QueueKind.TheVariants.{IndexQueue}
use Rattle.model.specs.declared.families.queues.QueueStart.TheVariants.{PushIndex}
use Rattle.model.specs.Linearizable.{Call, IsLinearizable}
use Rattle.model.specs.Linearized.{as_list, as_value}
use Rattle.model.specs.StronglyLinearizable.{IsLinearizedBy, Ordered}
use Rattle.lock_free.specs.Coding.{one_word}

-- the call at this place of the sequential order is a push of this number that answers true
abbrev pub IsPushAt : List (Call ℕ × Answer ℕ) → (place number : ℕ) → Type 0
IsPushAt sequential place number =
    (call : Call ℕ) × (slice_get sequential place ≡ Some (call, Truth true)) × (call.start ≡ Queues (PushIndex number))

-- The calls have a linearization in which a push of `first` stands before a push of `second`.
pub record PushedInOrder (capacity first second : ℕ) (events : List (Event ℕ)) : Type 0 where
  pub order : IsLinearizable (as_list IndexQueue capacity) events
  pub place : ℕ
  pub later : ℕ
  pub before : place < later
  pub first_push : IsPushAt order.sequential place first
  pub second_push : IsPushAt order.sequential later second

-- the call at this place of the sequential order is a store of this number that answers true
abbrev pub IsStoreAt : List (Call ℕ × Answer ℕ) → (place number : ℕ) → Type 0
IsStoreAt sequential place number =
    (call : Call ℕ) × (slice_get sequential place ≡ Some (call, Truth true)) × (call.start ≡ Atomic (Store number))

-- The stores and loads have a linearization in which a store of `first` stands before a store of `second`.
pub record StoredInOrder (first second : ℕ) (events : List (Event ℕ)) : Type 0 where
  pub order : IsLinearizable (as_value one_word) events
  pub place : ℕ
  pub later : ℕ
  pub before : place < later
  pub first_store : IsStoreAt order.sequential place first
  pub second_store : IsStoreAt order.sequential later second

-- All that was known at the first look is linearized by an order, and all that is known at the second one by that order with
-- further calls at its end.
pub record LooksAgree (capacity : ℕ) (before after : List (Event ℕ)) : Type 0 where
  pub past : List (Ordered ℕ)
  pub added : List (Ordered ℕ)
  pub first : IsLinearizedBy (as_list IndexQueue capacity) past before
  pub second : IsLinearizedBy (as_list IndexQueue capacity) (past ++ added) after
