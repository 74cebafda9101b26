-- What a step of a call of the single value writes down.
use Rattle.std.specs.Prelude.{ℕ, true, Option, Some, None, List, [], ◌∷◌}
use Rattle.model.specs.declared.event.Answer.{Answer}
use Rattle.model.specs.declared.event.Answer.TheVariants.{Truth}
use Rattle.model.specs.declared.event.Event.{Event}
use Rattle.model.specs.declared.event.Event.TheVariants.{Acted}
use Rattle.model.specs.declared.event.Start.TheVariants.{Atomic}
use Rattle.model.specs.declared.families.atomic.AtomicStart.{AtomicStart}
use Rattle.model.specs.declared.families.atomic.AtomicStart.TheVariants.{AcquireProducer, ReleaseProducer, Store, Load}
use Rattle.model.specs.declared.families.atomic.calls.AtomicFlight.{AtomicFlight}
use Rattle.model.specs.Coding.{Coding}
use Rattle.model.specs.Families.Atomic.Calls.{after, goes_back}
use Rattle.model.specs.Step.{Step, answer_in}

module _ {T : Type 0} where
  -- A store that is done with true acts at its last step, by which it adds 1 to the version, and a load at its last, by
  -- which it finds the version unchanged.
  abbrev pub acted : ℕ → AtomicStart T → Option (Answer T) → List (Event T)
  acted p (Store value) (Some (Truth true)) = Acted p (Atomic (Store value)) (Truth true) ∷ []
  acted p Load (Some answer) = Acted p (Atomic Load) answer ∷ []
  acted p start outcome = []

  -- the role is held from the end of an acquire that answers true to the end of the giving back
  abbrev pub producer_after : ℕ → AtomicStart T → Option (Answer T) → Option ℕ → Option ℕ
  producer_after p AcquireProducer (Some (Truth true)) producer = Some p
  producer_after p ReleaseProducer (Some answer) producer = None
  producer_after p start outcome producer = producer

  -- ---- all that a step comes to

  -- all that a step of a call of the single value comes to, where its word has this old value
  abbrev pub step : Coding T → ℕ → AtomicStart T → AtomicFlight T → ℕ → Option ℕ
      → Step (AtomicFlight T) (Option ℕ) T
  step code p start flight old producer =
      record {
        after = after code flight old;
        back = goes_back flight old;
        wrote = acted p start (answer_in (after code flight old));
        kept = producer_after p start (answer_in (after code flight old)) producer;
      }
