-- The lists that the calls of a queue answer as.
use Rattle.std.specs.Prelude.{ℕ, Option, Some, None, List, [], ◌∷◌, ◌++◌, length, drop, nat_lt, slice_get}
use Rattle.model.specs.declared.event.Item.{Item}
use Rattle.model.specs.declared.event.Item.TheVariants.{Index, Value}
use Rattle.model.specs.declared.event.Start.{Start}
use Rattle.model.specs.declared.event.Start.TheVariants.{Queues}
use Rattle.model.specs.declared.event.Answer.{Answer}
use Rattle.model.specs.declared.event.Answer.TheVariants as answers
use Rattle.model.specs.declared.families.queues.QueueStart.TheVariants.{PushIndex, Push, Pop}
use Rattle.model.specs.declared.families.queues.QueueKind.{QueueKind}
use Rattle.model.specs.declared.families.queues.QueueKind.TheVariants.{IndexQueue, Overflow, Queue}
use Rattle.model.specs.Objects.{Object}
-- a value stands behind all others where there is room; the front leaves where there are too many
pub use Rattle.steps.specs.Objects.Lists.{appended, cut, cut_off}

module _ {T : Type 0} where
  -- the answer of a pop, and of a push that hands back
  abbrev pub answer_of_item : Option (Item T) → Answer T
  answer_of_item None = answers.PoppedNone
  answer_of_item (Some (Index index)) = answers.PoppedIndex index
  answer_of_item (Some (Value value)) = answers.Popped value

  -- ---- the bounded list

  -- the items of a bounded list after a call
  abbrev pub list_after : ℕ → List (Item T) → Start T → List (Item T)
  list_after capacity items (Queues (PushIndex index)) = appended capacity items (Index index)
  list_after capacity items (Queues (Push value)) = appended capacity items (Value value)
  list_after capacity items (Queues Pop) = drop 1 items
  list_after capacity items other = items

  -- what a bounded list answers: a push whether there was room, a pop the oldest item, if there is one
  abbrev pub list_answer : ℕ → List (Item T) → Start T → Answer T
  list_answer capacity items (Queues (PushIndex index)) =
      answers.Truth (nat_lt (length items) capacity)
  list_answer capacity items (Queues (Push value)) =
      answers.Truth (nat_lt (length items) capacity)
  list_answer capacity items (Queues Pop) = answer_of_item (slice_get items 0)
  list_answer capacity items other = answers.Done

  -- Push appends and answers true where the length is below the capacity, else it answers false and changes nothing.
  -- Pop takes the front, or answers None.
  abbrev pub bounded_list : ℕ → Object T (List (Item T))
  bounded_list capacity =
      record { opening = []; after = list_after capacity; answer = list_answer capacity }

  -- ---- the overflowing list

  -- the items of a list that overflows after a call: a push drops the oldest one where it has no room
  abbrev pub overflow_after : ℕ → List (Item T) → Start T → List (Item T)
  overflow_after capacity items (Queues (PushIndex index)) =
      cut capacity (items ++ Index index ∷ [])
  overflow_after capacity items (Queues (Push value)) = cut capacity (items ++ Value value ∷ [])
  overflow_after capacity items (Queues Pop) = drop 1 items
  overflow_after capacity items other = items

  -- What a list that overflows answers: a push the item that it dropped,
  -- if it dropped one, a pop the oldest item, if there is one.
  abbrev pub overflow_answer : ℕ → List (Item T) → Start T → Answer T
  overflow_answer capacity items (Queues (PushIndex index)) =
      answer_of_item (cut_off capacity (items ++ Index index ∷ []))
  overflow_answer capacity items (Queues (Push value)) =
      answer_of_item (cut_off capacity (items ++ Value value ∷ []))
  overflow_answer capacity items (Queues Pop) = answer_of_item (slice_get items 0)
  overflow_answer capacity items other = answers.Done

  -- Push appends, and where the length then passes the capacity the front leaves and is answered, else None. Pop takes
  -- the front, or answers None.
  abbrev pub overflowing_list : ℕ → Object T (List (Item T))
  overflowing_list capacity =
      record { opening = []; after = overflow_after capacity; answer = overflow_answer capacity }

  -- the list that the calls of a kind answer as
  abbrev pub list_of : QueueKind → ℕ → Object T (List (Item T))
  list_of IndexQueue capacity = bounded_list capacity
  list_of Overflow capacity = overflowing_list capacity
  list_of Queue capacity = bounded_list capacity
