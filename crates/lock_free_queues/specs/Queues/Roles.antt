-- Which roles a pass lacks, by what it made.
use Rattle.std.specs.Prelude.{◌≡◌, ℕ, ◌+◌, List, sum_by}
use Rattle.steps.specs.declared.queues.roles.Role.{Role}
use Rattle.steps.specs.declared.queues.roles.Role.TheVariants.{Producer, Consumer}
use Rattle.model.specs.declared.event.Event.{Event}
use Rattle.history.specs.Roles.{takes, gives}

-- the other role of a queue
abbrev pub other_role : Role → Role
other_role Producer = Consumer
other_role Consumer = Producer

module _ {T : Type 0} where
  -- the pass that made these events lacks the role: it gave back each time what it had acquired
  abbrev pub LacksRole : Role → List (Event T) → Type 0
  LacksRole role made = sum_by (takes role) made ≡ sum_by (gives role) made

  -- from `old` to `new` the role was acquired `taken` times more, and given back `given` times more
  pub record Moved (role : Role) (taken given : ℕ) (old new : List (Event T)) : Type 0 where
    pub takes : sum_by (takes role) new ≡ sum_by (takes role) old + taken
    pub gives : sum_by (gives role) new ≡ sum_by (gives role) old + given
