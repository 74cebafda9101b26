-- What each answer of a pop tells: the item that was taken out, or that the queue was empty.
use Rattle.lock_free_queues.proofs.Names.{Option, Some, None, IfSome, IfNone, Item, option_map}
use Rattle.history.specs.declared.view.View.{View}
use Rattle.lock_free_queues.specs.Queues.Contracts.{HasPopped, WasEmpty, PopDone, PopEmpty, FoundNone, PopOldest, PopFoundNone}

module _ {T V : Type 0} (named : V → Item T) (old new : View T) where
  -- What a bounded queue's pop answers is what its call of the history answers.
  pub has_popped : (answer : Option V) → IfSome answer (λ x. PopDone (named x) old new) → IfNone answer (PopEmpty old new)
      → HasPopped (option_map named answer) old new
  has_popped None done empty = empty.0
  has_popped (Some x) done empty = done.0

-- A pop that found none met an empty queue.
pub was_empty : {T V : Type 0} (old new : View T) (answer : Option V) → IfNone answer (PopEmpty old new) → IfNone answer (WasEmpty old new)
was_empty old new None empty = empty.1
was_empty old new (Some x) empty = tt

-- what a pop of an overflowing queue, whose pushes take values out too, answers
module _ {T V : Type 0} (named : V → Item T) (old new : View T) where
  -- What an overflowing queue's pop answers is what its call of the history answers.
  pub oldest_popped : (answer : Option V) → IfSome answer (λ x. PopOldest (named x) old new) → IfNone answer (PopFoundNone old new)
      → HasPopped (option_map named answer) old new
  oldest_popped None done none = none.0
  oldest_popped (Some x) done none = done.0

-- A pop of an overflowing queue that answers none found none.
pub has_found_none : {T V : Type 0} (old new : View T) (answer : Option V) → IfNone answer (PopFoundNone old new) → IfNone answer (FoundNone old new)
has_found_none old new None none = none.1
has_found_none old new (Some x) none = tt
