-- What a turn leaves as it was: the calls of the other parties, and how long a channel's submission queue is.
use Rattle.std.specs.Prelude.{◌≡◌, ℕ, Option, Some, None}
use Rattle.model.specs.declared.families.Registry.{Registry}
use Rattle.model.specs.declared.families.Registry.TheVariants as registries
use Rattle.model.specs.declared.turn.Turn.{Turn}
use Rattle.model.specs.Promises.Turns.{IsParty}
use Rattle.model.specs.World.{World, flight_in}

module _ {T : Type 0} where
  -- the calls of the other parties stand where they stood
  abbrev pub OthersStay : World T → Turn T → World T → Type 0
  OthersStay old turn new = (q : ℕ) → ¬ IsParty turn q → flight_in new q ≡ flight_in old q

  -- how many indices a channel's submission queue has room for
  abbrev pub queue_in : Registry T → Option ℕ
  queue_in (registries.Loan book) = Some book.queue
  queue_in kept = None

  -- the submission queue keeps its capacity
  abbrev pub KeepsQueue : (old new : World T) → Type 0
  KeepsQueue old new = queue_in new.kept ≡ queue_in old.kept
