-- Both ends of a queue into which one pass was parted: each has half of the share, and one of the two roles.
use Rattle.std.specs.Prelude.{◌≡◌, ◌≤◌, ◌+◌, ℕ, true, List, [], ◌∷◌, ◌++◌}
use Rattle.model.specs.declared.event.Answer.TheVariants.{Truth}
use Rattle.model.specs.declared.event.Event.{Event}
use Rattle.model.specs.declared.event.Event.TheVariants.{Begun, Finished}
use Rattle.model.specs.declared.event.Start.TheVariants.{Queues}
use Rattle.steps.specs.declared.queues.roles.Role.{Role}
use Rattle.steps.specs.declared.queues.roles.Role.TheVariants as roles
use Rattle.history.specs.Roles.{acquire_start}
use Rattle.lock_free.specs.History.{AreFirst, IsBeginning}
use Rattle.lock_free.specs.HistoryView.View.{View}
use Rattle.lock_free.specs.Shares.{half_of}

module _ {T : Type 0} where
  -- the events of an acquire by which the party takes the role
  abbrev pub role_taken : ℕ → Role → List (Event T)
  role_taken by role =
      Begun by (Queues (acquire_start role)) ∷ Finished by (Queues (acquire_start role)) (Truth true) ∷ []

  -- This end has half of the pass's share. What the pass had seen is a beginning of what it has seen, and the
  -- turns known before are the first of its own.
  pub record IsHalf (old new : View T) : Type 0 where
    pub share : new.share ≡ half_of old.share
    pub since : IsBeginning old.seen new.seen
    pub first : AreFirst old.turns new.turns

  -- Each end has half of the pass. Beyond what the pass had made, each end has made one call, which
  -- took its role. Together they have asked for at most three operations more, each of which may be
  -- aside (no step of a call).
  pub record HasParted (old producer consumer : View T) : Type 0 where
    pub producing : IsHalf old producer
    pub consuming : IsHalf old consumer
    pub by : ℕ
    pub then_by : ℕ
    -- the one end has taken the producer's role
    pub produces : producer.made ≡ old.made ++ role_taken by roles.Producer
    -- the other end has taken the consumer's role
    pub consumes : consumer.made ≡ role_taken then_by roles.Consumer
    pub asked : producer.asked + consumer.asked ≤ old.asked + 3
    pub aside : producer.aside + consumer.aside ≤ old.aside + 3
