-- How the events of the single value are read.
use Rattle.std.specs.Prelude.{ℕ, true, Option, Some, None, List, [], ◌∷◌, fold}
use Rattle.std.specs.List.{flat_map}
use Rattle.model.specs.declared.event.Start.TheVariants.{Atomic}
use Rattle.model.specs.declared.event.Answer.TheVariants.{Truth}
use Rattle.model.specs.declared.event.Event.{Event}
use Rattle.model.specs.declared.event.Event.TheVariants.{Acted, Finished}
use Rattle.model.specs.declared.families.atomic.AtomicStart.TheVariants.{AcquireProducer, ReleaseProducer, Store}

module _ {T : Type 0} where
  -- the role is held from an acquire that finished true to a giving back that finished
  abbrev pub holder_after : Option ℕ → Event T → Option ℕ
  holder_after holder (Finished p (Atomic AcquireProducer) (Truth true)) = Some p
  holder_after holder (Finished p (Atomic ReleaseProducer) answer) = None
  holder_after holder e = holder

  -- who holds the producer's role after these events
  abbrev pub holder_of : List (Event T) → Option ℕ
  holder_of events = fold holder_after None events

  -- ---- the values that were stored, in the order in which they came to stand

  -- the value that the event stores, if it stores one
  abbrev pub stores : Event T → List T
  stores (Acted p (Atomic (Store value)) answer) = value ∷ []
  stores e = []

  -- all values that were stored, in order
  abbrev pub stored : List (Event T) → List T
  stored events = flat_map stores events
