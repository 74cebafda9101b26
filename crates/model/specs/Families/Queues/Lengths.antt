-- What the calls `len`, `is_empty`, `is_full` and `peek` of a queue answer.
use Rattle.std.specs.Prelude.{◌≡◌, ℕ, ◌==◌, List, length, slice_get}
use Rattle.model.specs.declared.event.Start.TheVariants.{Queues}
use Rattle.model.specs.declared.event.Answer.TheVariants.{Truth, Number}
use Rattle.model.specs.declared.event.Event.{Event}
use Rattle.model.specs.declared.event.Event.TheVariants.{Finished}
use Rattle.model.specs.declared.families.queues.QueueStart.TheVariants.{Peek, Len, IsEmpty, IsFull}
use Rattle.model.specs.Families.Queues.Objects.{answer_of_item}
use Rattle.model.specs.Families.Queues.Reading.{waiting}
use Rattle.model.specs.Moments.{HeldSometime}

module _ {T : Type 0} where
  -- The answer of `len`, `is_empty` or `is_full` is right for the number of values that waited at one
  -- moment of the call. A peek answers the oldest of those that wait as it ends, or None.
  abbrev pub TellsLength : ℕ → List (Event T) → Event T → Type 0
  TellsLength capacity before (Finished p (Queues Len) answer) =
      HeldSometime p (λ part. answer ≡ Number (length (waiting part))) before
  TellsLength capacity before (Finished p (Queues IsEmpty) answer) =
      HeldSometime p (λ part. answer ≡ Truth (length (waiting part) == 0)) before
  TellsLength capacity before (Finished p (Queues IsFull) answer) =
      HeldSometime p (λ part. answer ≡ Truth (length (waiting part) == capacity)) before
  TellsLength capacity before (Finished p (Queues Peek) answer) =
      answer ≡ answer_of_item (slice_get (waiting before) 0)
  TellsLength capacity before e = Unit {0}
