-- A history of a queue is linearizable as its list: a bounded one, or the overflowing one.
use Rattle.history.proofs.Names.{ℕ, List, sym, subst, Coding, IsLinearizable, as_list, IsLinearized}
use Rattle.model.specs.declared.event.Event.{Event}
use Rattle.model.specs.declared.families.queues.QueueKind.{QueueKind}
use Rattle.history.proofs.Names.{run_linearizable, Trace}
use Rattle.laws_queues.proofs.Queues.Invariant.{machine_kind}
use Rattle.model.specs.declared.families.queues.QueueKind.TheVariants.{IndexQueue, Overflow, Queue}
use Rattle.laws_queues.proofs.Queues.Sound.{kept_on}
use Rattle.history.specs.History.{IsHistory}
use Rattle.history_queues.proofs.QueueRuns.{queue_run}

module _ {T : Type 0} (code : Coding T) (capacity : ℕ) where
  -- linearized as its kind has it, a history is linearizable as the list of its queue
  as_its_list : (kd : QueueKind) (t : Trace T) → IsLinearized (machine_kind kd) t → IsLinearizable (as_list kd t.world.capacity) t.events
  as_its_list IndexQueue t linearized = linearized
  as_its_list Overflow t linearized = linearized
  as_its_list Queue t linearized = linearized

  -- every history of a queue is linearizable as its list: a bounded one, or the overflowing one
  pub queue_linearizable : (kd : QueueKind) (events : List (Event T))
      → IsHistory code (machine_kind kd) capacity events → IsLinearizable (as_list kd capacity) events
  queue_linearizable kd events history =
      let t = history.trace in
      let r = history.run in
      let run_here = queue_run code capacity kd t r in
      let all : IsLinearized (machine_kind kd) t = subst (λ k. IsLinearized k t) r.of_kind
      (run_linearizable t (kept_on kd t r.of_kind run_here.reached.coded run_here.reached.admitted run_here.fresh)) in
      subst (λ es. IsLinearizable (as_list kd capacity) es) (sym history.is)
      (subst (λ n. IsLinearizable (as_list kd n) t.events) r.sized (as_its_list kd t all))
