-- What is promised of every run of a queue and of the single value makes it linearizable.
use Rattle.model.proofs.Names.{Answer, Coding, Event, IsKept, IsKeptBy, Item, Kind, List, QueueKind}
use Rattle.model.proofs.Names.{Start, Trace, [], arith, false, moments, promise_of, true, ℕ, ◌∷◌, ◌≡◌}
use Rattle.model.specs.declared.families.queues.QueueKind.TheVariants as queue_kinds
use Rattle.model.specs.declared.turn.Kind.TheVariants.{IndexQueue, Overflow, Queue, Atomic}
use Rattle.model.specs.Families.Atomic.Promises as value_promises
use Rattle.model.specs.Families.Queues.Objects.{list_of}
use Rattle.model.specs.Families.Queues.Promises as queue_promises
use Rattle.model.specs.Linearized.{is_push_or_pop, as_list, is_store_or_load, as_value, IsLinearized, IsLinearizableRun}
use Rattle.model.specs.StronglyLinearizable.{IsLinearizedBy}
use Rattle.model.proofs.Linearizable.Strong.{order, by_acts}
use Rattle.model.proofs.Linearizable.Spans.{acts_once}

module _ {T : Type 0} where
  -- ---- the queues

  -- A finished push or pop has acted once in its span, with its answer.
  one_of_list : (kind : QueueKind) (capacity : ℕ) (start : Start T) (answer : Answer T) (wrote : List (Event T))
      → is_push_or_pop start ≡ true → queue_promises.wrote kind capacity start answer wrote
      → moments wrote ≡ (start, answer) ∷ []
  one_of_list = grind arith

  -- A call that is no push or pop leaves the list as it is.
  others_of_list : (kind : QueueKind) (capacity : ℕ) (items : List (Item T)) (start : Start T)
      → is_push_or_pop start ≡ false → (list_of kind capacity).after items start ≡ items
  others_of_list = grind arith

  -- A run of a queue that keeps its promise is linearizable, in the order in which its calls act.
  pub list_by_acts : (kind : QueueKind) {t : Trace T} → IsKeptBy (queue_promises.promise kind) t
      → IsLinearizedBy (as_list kind t.world.capacity) (order is_push_or_pop t.events) t.events
  list_by_acts kind {t} kept =
      by_acts (as_list kind t.world.capacity) (others_of_list kind t.world.capacity) t.events
      (acts_once (queue_promises.promise kind) t.world.capacity is_push_or_pop (one_of_list kind t.world.capacity) t.events kept.spans) kept.promised.moments

  -- ---- the single value

  -- A finished store or load has acted once in its span, with its answer.
  one_of_value : (capacity : ℕ) (start : Start T) (answer : Answer T) (wrote : List (Event T))
      → is_store_or_load start ≡ true → value_promises.wrote capacity start answer wrote
      → moments wrote ≡ (start, answer) ∷ []
  one_of_value = grind arith

  others_of_value : (code : Coding T) (value : T) (start : Start T) → is_store_or_load start ≡ false
      → (value_promises.value_of_zeros code).after value start ≡ value
  others_of_value = grind arith

  -- A run of the single value that keeps its promise is linearizable, in the order in which its calls act.
  pub value_by_acts : {t : Trace T} → IsKeptBy value_promises.promise t
      → IsLinearizedBy (as_value t.world.coding) (order is_store_or_load t.events) t.events
  value_by_acts {t} kept =
      by_acts (as_value t.world.coding) (others_of_value t.world.coding) t.events
      (acts_once value_promises.promise t.world.capacity is_store_or_load (one_of_value t.world.capacity) t.events kept.spans) kept.promised.moments

  -- ---- every kind

  -- the history of each queue and value that keeps its promises is linearizable; of other kinds nothing is said
  by_kind : (kind : Kind) (t : Trace T) → IsKeptBy (promise_of kind) t → IsLinearized kind t
  by_kind IndexQueue t kept = let o = list_by_acts queue_kinds.IndexQueue {t = t} kept in o.by
  by_kind Overflow t kept = let o = list_by_acts queue_kinds.Overflow {t = t} kept in o.by
  by_kind Queue t kept = let o = list_by_acts queue_kinds.Queue {t = t} kept in o.by
  by_kind Atomic t kept = let o = value_by_acts {t = t} kept in o.by
  by_kind kind t kept = tt

  pub run_linearizable : (t : Trace T) → IsKept t → IsLinearizableRun t
  run_linearizable t kept = by_kind t.world.kind t kept
