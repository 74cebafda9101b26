-- Positions of a queue, by a history: how many were published, or handed out, before.
use Rattle.std.specs.Prelude.{◌≡◌, ◌≤◌, ℕ, ◌+◌, List, ◌∷◌, ◌++◌, length}
use Rattle.model.specs.declared.event.Event.{Event}
use Rattle.model.specs.declared.event.Event.TheVariants.{Published, HandedOut}
use Rattle.model.specs.declared.event.Item.{Item}
use Rattle.model.specs.Families.Queues.Book.{AnswersRight}
use Rattle.model.specs.Families.Queues.Lengths.{TellsLength}
use Rattle.model.specs.Families.Queues.Reading.{published, handed_out, waiting}
use Rattle.model.specs.Families.Queues.Roles.{GrantsRight}
use Rattle.model.specs.Reading.{Each}
use Rattle.history_queues.specs.Overflow.{ByOverHolder}
use Rattle.history.specs.Roles.{ByHolder}

module _ {T : Type 0} where
  -- the party published this value at this position
  pub record IsPublished (p i : ℕ) (x : Item T) (events : List (Event T)) : Type 0 where
    pub before : List (Event T)
    pub after : List (Event T)
    pub is : events ≡ before ++ Published p x ∷ after
    -- its position is the number of values published before
    pub rank : i ≡ length (published before)

  -- the party took this value from this position
  pub record IsTaken (p i : ℕ) (x : Item T) (events : List (Event T)) : Type 0 where
    pub before : List (Event T)
    pub after : List (Event T)
    pub is : events ≡ before ++ HandedOut p x ∷ after
    -- its position is the number of values taken out before
    pub rank : i ≡ length (handed_out before)

  -- What every history of a queue of this capacity says of itself: at any time what
  -- was handed out is a beginning of what was published, and at most the capacity
  -- waits; each answer is right; and who publishes, or takes out, has the role.
  pub record IsSound (capacity : ℕ) (events : List (Event T)) : Type 0 where
    -- what was published was handed out, in order, or waits
    pub book : (part rest : List (Event T)) → events ≡ part ++ rest
        → published part ≡ handed_out part ++ waiting part
    -- no more than the capacity waits
    pub few : (part rest : List (Event T)) → events ≡ part ++ rest → length (waiting part) ≤ capacity
    -- each push and pop answers right
    pub answers : Each (AnswersRight capacity) events
    -- each answer on lengths is right
    pub lengths : Each (TellsLength capacity) events
    -- each answer on roles is right
    pub roles : Each GrantsRight events
    -- who publishes or takes out has the role
    pub holders : Each ByHolder events

  -- What every history of an overflowing queue of this capacity says of itself: at any time what was handed out is a
  -- beginning of what was published, each value as the oldest that waited, and at most one more than the capacity
  -- waits; each answer is right; and who publishes has the producer's role, who takes out one of the two.
  pub record IsOverSound (capacity : ℕ) (events : List (Event T)) : Type 0 where
    -- what was published was handed out, in order, or waits
    pub book : (part rest : List (Event T)) → events ≡ part ++ rest
        → published part ≡ handed_out part ++ waiting part
    -- at most one value more than the capacity waits
    pub few : (part rest : List (Event T)) → events ≡ part ++ rest
        → length (waiting part) ≤ capacity + 1
    -- what is handed out is the oldest that waits
    pub oldest : (before after : List (Event T)) (p : ℕ) (x : Item T)
        → events ≡ before ++ HandedOut p x ∷ after
        → (rest : List (Item T)) × (waiting before ≡ x ∷ rest)
    -- each push and pop answers right
    pub answers : Each (AnswersRight capacity) events
    -- each answer on lengths is right
    pub lengths : Each (TellsLength capacity) events
    -- each answer on roles is right
    pub roles : Each GrantsRight events
    -- who publishes has the producer's role, and who takes out one of the two
    pub holders : Each ByOverHolder events
