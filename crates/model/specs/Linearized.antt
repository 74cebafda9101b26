-- Which calls of a run are linearizable, and as which object: one line a kind.
use Rattle.std.specs.Prelude.{ℕ, Bool, true, false, List}
use Rattle.model.specs.declared.event.Item.{Item}
use Rattle.model.specs.declared.event.Start.{Start}
use Rattle.model.specs.declared.event.Start.TheVariants as starts
use Rattle.model.specs.declared.families.atomic.AtomicStart.TheVariants.{Store, Load}
use Rattle.model.specs.declared.families.queues.QueueKind.{QueueKind}
use Rattle.model.specs.declared.families.queues.QueueKind.TheVariants as queue_kinds
use Rattle.model.specs.declared.families.queues.QueueStart.TheVariants.{PushIndex, Push, Pop}
use Rattle.model.specs.declared.turn.Kind.{Kind}
use Rattle.model.specs.declared.turn.Kind.TheVariants.{IndexQueue, Overflow, Queue, Atomic}
use Rattle.model.specs.Coding.{Coding}
use Rattle.model.specs.Families.Atomic.Promises.{value_of_zeros}
use Rattle.model.specs.Families.Queues.Objects.{list_of}
use Rattle.model.specs.Linearizable.{Specification, IsLinearizable}
use Rattle.model.specs.World.{Trace}

module _ {T : Type 0} where
  -- the calls of a queue that are linearizable
  abbrev pub is_push_or_pop : Start T → Bool
  is_push_or_pop (starts.Queues (PushIndex index)) = true
  is_push_or_pop (starts.Queues (Push value)) = true
  is_push_or_pop (starts.Queues Pop) = true
  is_push_or_pop other = false

  -- The object as which pushes and pops are linearizable: the bounded list of this capacity, or for
  -- the overflowing queue the list that overflows.
  abbrev pub as_list : QueueKind → ℕ → Specification T (List (Item T))
  as_list kind capacity = record { is_call = is_push_or_pop; object = list_of kind capacity }

  -- the calls of the single value that are linearizable
  abbrev pub is_store_or_load : Start T → Bool
  is_store_or_load (starts.Atomic (Store value)) = true
  is_store_or_load (starts.Atomic Load) = true
  is_store_or_load other = false

  -- The object as which stores and loads are linearizable: one value, which is at first the one
  -- whose words are all 0.
  abbrev pub as_value : Coding T → Specification T T
  as_value code = record { is_call = is_store_or_load; object = value_of_zeros code }

  -- The calls of a run are linearizable: pushes and pops of a queue, stores and loads of the single
  -- value. For the other kinds this says nothing.
  abbrev pub IsLinearized : Kind → Trace T → Type 0
  IsLinearized IndexQueue t =
      IsLinearizable (as_list queue_kinds.IndexQueue t.world.capacity) t.events
  IsLinearized Overflow t =
      IsLinearizable (as_list queue_kinds.Overflow t.world.capacity) t.events
  IsLinearized Queue t =
      IsLinearizable (as_list queue_kinds.Queue t.world.capacity) t.events
  IsLinearized Atomic t = IsLinearizable (as_value t.world.coding) t.events
  IsLinearized kind t = Unit {0}

  -- the run is linearizable, where its kind is a queue or the single value
  abbrev pub IsLinearizableRun : Trace T → Type 0
  IsLinearizableRun t = IsLinearized t.world.kind t
