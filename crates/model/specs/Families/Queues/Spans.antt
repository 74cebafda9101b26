-- What a call of a queue writes between its begin and its end.
use Rattle.std.specs.Prelude.{◌≡◌, ◌⊎◌, ℕ, zero, suc, true, List, [], ◌∷◌}
use Rattle.model.specs.declared.event.Item.{Item}
use Rattle.model.specs.declared.event.Item.TheVariants.{Index, Value}
use Rattle.model.specs.declared.event.Start.{Start}
use Rattle.model.specs.declared.event.Start.TheVariants.{Queues}
use Rattle.model.specs.declared.event.Answer.{Answer}
use Rattle.model.specs.declared.event.Answer.TheVariants.{Truth, PoppedIndex, Popped}
use Rattle.model.specs.declared.event.Event.{Event}
use Rattle.model.specs.declared.families.queues.QueueStart.{QueueStart}
use Rattle.model.specs.declared.families.queues.QueueStart.TheVariants.{PushIndex, Push, Pop, Peek}
use Rattle.model.specs.declared.families.queues.QueueKind.{QueueKind}
use Rattle.model.specs.declared.families.queues.QueueKind.TheVariants.{IndexQueue, Overflow, Queue}
use Rattle.model.specs.Families.Queues.Reading.{published, handed_out}
use Rattle.model.specs.Reading.{moments, Span}
use Rattle.model.specs.Shape.{IsOpen, IsOpenFor}

module _ {T : Type 0} where
  -- the moments of a call that finished with this answer: pushes and pops have one
  abbrev pub moments_of : QueueStart T → Answer T → List (Start T × Answer T)
  moments_of (PushIndex index) answer = (Queues (PushIndex index), answer) ∷ []
  moments_of (Push value) answer = (Queues (Push value), answer) ∷ []
  moments_of Pop answer = (Queues Pop, answer) ∷ []
  moments_of other answer = []

  -- A value of a push or pop as it goes through the cells of the queue. In an overflowing queue without
  -- capacity it goes through none: it is handed back at once.
  abbrev pub through_cells : QueueKind → ℕ → Item T → List (Item T)
  through_cells IndexQueue capacity item = item ∷ []
  through_cells Overflow zero item = []
  through_cells Overflow (suc less) item = item ∷ []
  through_cells Queue capacity item = item ∷ []

  -- The values that a push with this answer published: its value if the push was taken. An overflowing
  -- queue takes each push, but publishes none without capacity.
  abbrev pub published_by_push : QueueKind → ℕ → Item T → Answer T → List (Item T)
  published_by_push IndexQueue capacity item (Truth true) = item ∷ []
  published_by_push IndexQueue capacity item answer = []
  published_by_push Overflow capacity item answer = through_cells Overflow capacity item
  published_by_push Queue capacity item (Truth true) = item ∷ []
  published_by_push Queue capacity item answer = []

  -- what a call with this answer published
  abbrev pub published_by : QueueKind → ℕ → QueueStart T → Answer T → List (Item T)
  published_by kind capacity (PushIndex index) answer =
      published_by_push kind capacity (Index index) answer
  published_by kind capacity (Push value) answer =
      published_by_push kind capacity (Value value) answer
  published_by kind capacity start answer = []

  -- the values that a push or a pop with this answer handed out
  abbrev pub handed_out_by : QueueKind → ℕ → Answer T → List (Item T)
  handed_out_by kind capacity (PoppedIndex index) = through_cells kind capacity (Index index)
  handed_out_by kind capacity (Popped value) = through_cells kind capacity (Value value)
  handed_out_by kind capacity answer = []

  -- the values that a call handed out; a peek leaves its value
  abbrev pub handed_out_in : QueueKind → ℕ → QueueStart T → Answer T → List (Item T)
  handed_out_in kind capacity Peek answer = []
  handed_out_in kind capacity start answer = handed_out_by kind capacity answer

  -- what a finished call has written in its span
  pub record Wrote (kind : QueueKind) (capacity : ℕ) (start : QueueStart T) (answer : Answer T)
      (wrote : List (Event T)) : Type 0 where
    pub moments : moments wrote ≡ moments_of start answer
    pub published : published wrote ≡ published_by kind capacity start answer
    pub handed_out : handed_out wrote ≡ handed_out_in kind capacity start answer

  -- ---- where an event may stand

  -- the push of this item
  abbrev pub push_of : Item T → Start T
  push_of (Index index) = Queues (PushIndex index)
  push_of (Value value) = Queues (Push value)

  -- a push publishes its own value, once
  abbrev pub MayPublish : Item T → Span T → Type 0
  MayPublish item span = IsOpenFor (push_of item) (λ wrote. published wrote ≡ []) span

  -- the calls that hand values out: in an overflowing queue pushes too
  abbrev pub HandsOut : QueueKind → Start T → Type 0
  HandsOut IndexQueue call = call ≡ Queues Pop
  HandsOut Overflow call = (call ≡ Queues Pop) ⊎ (item : Item T) × (call ≡ push_of item)
  HandsOut Queue call = call ≡ Queues Pop

  -- a call hands a value out once
  abbrev pub MayHandOut : QueueKind → Span T → Type 0
  MayHandOut kind span = IsOpen (HandsOut kind) (λ wrote. handed_out wrote ≡ []) span
