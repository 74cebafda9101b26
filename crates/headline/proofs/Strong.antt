-- The runs of queues and of the single value are strongly linearizable, in the order in which calls act.
use Rattle.std.proofs.Common.{◌≡◌, ℕ, List, ap, subst, sym}
use Rattle.model.specs.declared.event.Event.{Event}
use Rattle.model.specs.declared.families.queues.QueueKind.{QueueKind}
use Rattle.model.specs.declared.turn.Kind.TheVariants.{Atomic}
use Rattle.model.specs.Coding.{Coding}
use Rattle.model.specs.Linearized.{as_list, as_value, is_push_or_pop, is_store_or_load}
use Rattle.model.specs.Promises.{IsKeptBy}
use Rattle.model.specs.Promises.Families.{promise_of}
use Rattle.model.specs.StronglyLinearizable.{IsLinearizedBy}
use Rattle.model.proofs.Linearizable.Kinds.{list_by_acts, value_by_acts}
use Rattle.model.proofs.Linearizable.Strong.{order, strongly}
use Rattle.model.proofs.Orders.{reached_kept}
use Rattle.laws_queues.proofs.Queues.Sound.{promised_by}
use Rattle.laws_queues.specs.Kinds.{machine_kind}
use Rattle.machine.proofs.Laws.{laws_of}
use Rattle.headline.specs.Strong.{AreOfRun, StrongRuns}

module _ {T : Type 0} (code : Coding T) (capacity : ℕ) where
  list_of_run : (kind : QueueKind) (events : List (Event T)) → AreOfRun code (machine_kind kind) capacity events
      → IsLinearizedBy (as_list kind capacity) (order is_push_or_pop events) events
  list_of_run kind events r =
      let t = r.trace in
      subst (λ es. IsLinearizedBy (as_list kind capacity) (order is_push_or_pop es) es) (sym r.is)
      (subst (λ n. IsLinearizedBy (as_list kind n) (order is_push_or_pop t.events) t.events) r.sized
      (list_by_acts kind (subst (λ P. IsKeptBy P t) (promised_by kind t r.of_kind) (reached_kept laws_of t r.reached))))

  value_of_run : (events : List (Event T)) → AreOfRun code Atomic capacity events
      → IsLinearizedBy (as_value code) (order is_store_or_load events) events
  value_of_run events r =
      let t = r.trace in
      subst (λ es. IsLinearizedBy (as_value code) (order is_store_or_load es) es) (sym r.is)
      (subst (λ z. IsLinearizedBy (as_value z) (order is_store_or_load t.events) t.events) r.coded
      (value_by_acts (subst (λ P. IsKeptBy P t) (ap (promise_of {T = T}) r.of_kind) (reached_kept laws_of t r.reached))))

pub strong_runs : (T : Type 0) → StrongRuns T
strong_runs T =
    record {
      queues = λ code kind capacity. strongly (AreOfRun code (machine_kind kind) capacity) (as_list kind capacity) (list_of_run code capacity kind);
      value = λ code capacity. strongly (AreOfRun code Atomic capacity) (as_value code) (value_of_run code capacity);
    }
