-- Strong linearizability of the runs of machines: of each queue, and of the single value.
use Rattle.std.specs.Prelude.{◌≡◌, ℕ, List}
use Rattle.model.specs.declared.event.Event.{Event}
use Rattle.model.specs.declared.families.queues.QueueKind.{QueueKind}
use Rattle.model.specs.declared.turn.Kind.{Kind}
use Rattle.model.specs.declared.turn.Kind.TheVariants.{Atomic}
use Rattle.model.specs.Coding.{Coding}
use Rattle.model.specs.Linearized.{as_list, as_value}
use Rattle.model.specs.StronglyLinearizable.{AreStronglyLinearizable}
use Rattle.model.specs.Turns.{IsReached}
use Rattle.model.specs.World.{Trace}
use Rattle.laws_queues.specs.Kinds.{machine_kind}

-- These are the events of a machine of this coding, kind and capacity after some list of turns.
pub record AreOfRun {T : Type 0} (code : Coding T) (kind : Kind) (capacity : ℕ) (events : List (Event T)) : Type 0 where
  pub trace : Trace T
  pub reached : IsReached trace
  pub coded : trace.world.coding ≡ code
  pub of_kind : trace.world.kind ≡ kind
  pub sized : trace.world.capacity ≡ capacity
  pub is : events ≡ trace.events

-- All runs of a queue, and all runs of the single value, are strongly linearizable: pushes and pops as one list, stores and
-- loads as one value.
pub record StrongRuns (T : Type 0) : Type 0 where
  pub queues : (code : Coding T) (kind : QueueKind) (capacity : ℕ)
      → AreStronglyLinearizable (AreOfRun code (machine_kind kind) capacity) (as_list kind capacity)
  pub value : (code : Coding T) (capacity : ℕ) → AreStronglyLinearizable (AreOfRun code Atomic capacity) (as_value code)
