-- Whether a pass has the producer's role, by what it made.
use Rattle.std.specs.Prelude.{◌≡◌, ℕ, ◌+◌, List, sum_by}
use Rattle.model.specs.declared.event.Event.{Event}
use Rattle.history_value.specs.Value.{takes_producer, gives_producer}

module _ {T : Type 0} where
  -- the pass that made these events lacks the producer's role: it gave back each time what it had acquired
  abbrev pub LacksProducer : List (Event T) → Type 0
  LacksProducer made = sum_by takes_producer made ≡ sum_by gives_producer made

  -- from `old` to `new` the producer's role was acquired `taken` times more, and given
  -- back `given` times more
  pub record Moved (taken given : ℕ) (old new : List (Event T)) : Type 0 where
    pub takes : sum_by takes_producer new ≡ sum_by takes_producer old + taken
    pub gives : sum_by gives_producer new ≡ sum_by gives_producer old + given
