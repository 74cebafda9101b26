-- What differs between the kinds of queues.
use Rattle.std.specs.Prelude.{◌≡◌, ℕ, ◌+◌, ◌*◌, replicate}
use Rattle.steps.specs.declared.queues.roles.Role.{Role}
use Rattle.steps.specs.declared.queues.roles.Role.TheVariants.{Producer, Consumer}
use Rattle.model.specs.declared.event.Item.TheVariants.{Index, Value}
use Rattle.model.specs.declared.families.queues.QueueKind.{QueueKind}
use Rattle.model.specs.declared.families.queues.QueueKind.TheVariants.{IndexQueue, Overflow, Queue}
use Rattle.model.specs.Coding.{Coding}
use Rattle.model.specs.Families.Queues.Opening.{cells_of}
use Rattle.model.specs.Families.Queues.Reading.{published, handed_out}
use Rattle.history.specs.declared.view.View.{View}
use Rattle.lock_free_queues.specs.Queues.Opened.{opened_view, over_opened_view}

-- how many words the cells of a queue have, whose values have `size` words
abbrev pub words_in_cells : ℕ → QueueKind → ℕ → ℕ
words_in_cells size IndexQueue capacity = capacity
words_in_cells size Overflow capacity = capacity + 1
words_in_cells size Queue capacity = size * capacity

-- How many values wait at most, and how many cells there are: the capacity, and in an overflowing queue one more while
-- a push is under way.
abbrev pub most_waiting : QueueKind → ℕ → ℕ
most_waiting kind capacity = cells_of kind capacity

module _ {T : Type 0} where
  -- From `old` to `new` no value was taken out. Of an overflowing queue, whose pushes take values out
  -- too, nothing is said.
  abbrev pub NoneTaken : QueueKind → (old new : View T) → Type 0
  NoneTaken IndexQueue old new = handed_out new.seen ≡ handed_out old.seen
  NoneTaken Overflow old new = Unit {0}
  NoneTaken Queue old new = handed_out new.seen ≡ handed_out old.seen

  -- From `old` to `new` nothing happened that only the holder of the role may do: of the producer's
  -- nothing was published, of the consumer's nothing taken out.
  abbrev pub NoneMarked : Role → QueueKind → (old new : View T) → Type 0
  NoneMarked Producer kind old new = published new.seen ≡ published old.seen
  NoneMarked Consumer kind old new = NoneTaken kind old new

  -- what the first pass of a queue knows that opens at `position`, after as many pushes and pops of one item
  abbrev pub opened_by : Coding T → QueueKind → (capacity position : ℕ) → View T
  opened_by code IndexQueue capacity position = opened_view 1 (Index 0) capacity position
  opened_by code Overflow capacity position = over_opened_view capacity position
  opened_by code Queue capacity position =
      opened_view code.size (Value (code.value_of (replicate code.size 0))) capacity position
