-- What a pass has seen is linearizable as the model has it, in the order in which calls act, however many turns others take: no
-- push has found the last position, and no store the last version.
use Rattle.std.proofs.Common.{ℕ, ap, subst, sym}
use Rattle.model.specs.declared.families.queues.QueueKind.{QueueKind}
use Rattle.model.specs.declared.families.queues.QueueKind.TheVariants as queue_kinds
use Rattle.model.specs.declared.turn.Kind.TheVariants as kinds
use Rattle.model.specs.Coding.{Coding, one_word}
use Rattle.model.specs.Families.Atomic.Promises as value_promises
use Rattle.model.specs.Families.Queues.Objects.{list_of}
use Rattle.model.specs.Families.Queues.Promises as queue_promises
use Rattle.model.specs.Linearized.{as_list, as_value, is_push_or_pop, is_store_or_load}
use Rattle.model.specs.Promises.{IsKeptBy}
use Rattle.model.specs.Promises.Families.{promise_of}
use Rattle.model.specs.Promises.Spans.{StandsRight}
use Rattle.model.specs.Reading.{Each}
use Rattle.model.specs.StronglyLinearizable.{IsLinearizedBy}
use Rattle.model.specs.World.{Trace}
use Rattle.model.proofs.Linearizable.Kinds.{list_by_acts, value_by_acts}
use Rattle.model.proofs.Linearizable.Strong.{order}
use Rattle.laws_queues.specs.Kinds.{machine_kind}
use Rattle.laws_queues.proofs.Queues.Sound as queues
use Rattle.laws_value.proofs.Sound as value
use Rattle.history.specs.declared.view.View.{View}
use Rattle.history.specs.History.{Knows, run_of}
use Rattle.history.proofs.KnownRuns.{known_run}
use Rattle.history_queues.proofs.QueueRuns.{queue_run}
use Rattle.pages.specs.IndexQueue as index
use Rattle.pages.specs.OverflowingQueue as overflowing
use Rattle.pages.specs.Queue as values
use Rattle.pages.specs.Value as single
use Rattle.pages.specs.QueueBridge.{code_of}
use Rattle.pages.proofs.Overflowing as overflows
use Rattle.pages.proofs.Queue as indices
use Rattle.pages.proofs.Value as registers
use Rattle.pages.proofs.ValuesQueue as value_queues
use Rattle.pages_threads.specs.Known.{PassesAreStronglyLinearizable, PassesRun, index_page, overflowing_page, queue_page, value_page}
use Rattle.pages_threads.proofs.Passing.{strongly}

-- ---- queues

module _ {T : Type 0} (code : Coding T) (kind : QueueKind) (capacity : ℕ) (v : View T) (knows : Knows code (machine_kind kind) capacity v) where
  abbrev now : Trace T
  now = run_of code (machine_kind kind) capacity v.turns

  kept : IsKeptBy (queue_promises.promise kind) now
  kept =
      let r = known_run knows in
      let on = queue_run code capacity kind now r in
      subst (λ P. IsKeptBy P now) (queues.promised_by kind now r.of_kind)
      (queues.kept_on kind now r.of_kind on.reached.coded on.reached.admitted on.fresh)

  spans_of_queues : Each (StandsRight (queue_promises.promise kind) capacity) v.seen
  spans_of_queues =
      let r = known_run knows in
      subst (Each (StandsRight (queue_promises.promise kind) capacity)) (sym knows.is)
      (subst (λ n. Each (StandsRight (queue_promises.promise kind) n) now.events) r.sized kept.spans)

  linear_of_queues : IsLinearizedBy (as_list kind capacity) (order is_push_or_pop v.seen) v.seen
  linear_of_queues =
      let r = known_run knows in
      subst (λ es. IsLinearizedBy (as_list kind capacity) (order is_push_or_pop es) es) (sym knows.is)
      (subst (λ n. IsLinearizedBy (as_list kind n) (order is_push_or_pop now.events) now.events) r.sized (list_by_acts kind {t = now} kept))

-- ---- the value

module _ {T : Type 0} (code : Coding T) (capacity : ℕ) (v : View T) (knows : Knows code kinds.Atomic capacity v) where
  abbrev now_of_value : Trace T
  now_of_value = run_of code kinds.Atomic capacity v.turns

  kept_of_value : IsKeptBy value_promises.promise now_of_value
  kept_of_value =
      let r = known_run knows in
      subst (λ P. IsKeptBy P now_of_value) (ap (promise_of {T = T}) r.of_kind) (value.kept_on now_of_value r.of_kind r.reached.coded r.fresh)

  spans_of_value : Each (StandsRight value_promises.promise capacity) v.seen
  spans_of_value =
      let r = known_run knows in
      subst (Each (StandsRight value_promises.promise capacity)) (sym knows.is)
      (subst (λ n. Each (StandsRight value_promises.promise n) now_of_value.events) r.sized kept_of_value.spans)

  linear_of_value : IsLinearizedBy (as_value code) (order is_store_or_load v.seen) v.seen
  linear_of_value =
      let r = known_run knows in
      subst (λ es. IsLinearizedBy (as_value code) (order is_store_or_load es) es) (sym knows.is)
      (subst (λ z. IsLinearizedBy (as_value z) (order is_store_or_load now_of_value.events) now_of_value.events) r.coded
      (value_by_acts {t = now_of_value} kept_of_value))

-- ---- the pages

pub of_index : (capacity : ℕ) → PassesRun (index_page capacity) → PassesAreStronglyLinearizable (index_page capacity) (index.bounded_list capacity)
of_index capacity passes =
    let kind = queue_kinds.IndexQueue in
    strongly (index_page capacity) (list_of kind capacity) (index.bounded_list capacity) (indices.is_list capacity) passes (queue_promises.promise kind)
    (spans_of_queues one_word kind capacity) (linear_of_queues one_word kind capacity)

pub of_overflowing : (capacity : ℕ) → PassesRun (overflowing_page capacity)
    → PassesAreStronglyLinearizable (overflowing_page capacity) (overflowing.overflowing_list capacity)
of_overflowing capacity passes =
    let kind = queue_kinds.Overflow in
    strongly (overflowing_page capacity) (list_of kind capacity) (overflowing.overflowing_list capacity) (overflows.is_list capacity) passes
    (queue_promises.promise kind) (spans_of_queues one_word kind capacity) (linear_of_queues one_word kind capacity)

pub of_value : PassesRun value_page → PassesAreStronglyLinearizable value_page single.register
of_value passes =
    strongly value_page (value_promises.value_of_zeros one_word) single.register registers.is_register passes value_promises.promise
    (spans_of_value one_word 1) (linear_of_value one_word 1)

pub of_values : {T : Type 0} (how : values.Written T) (capacity : ℕ) → PassesRun (queue_page how capacity)
    → PassesAreStronglyLinearizable (queue_page how capacity) (values.bounded_list capacity)
of_values how capacity passes =
    let kind = queue_kinds.Queue in
    strongly (queue_page how capacity) (list_of kind capacity) (values.bounded_list capacity) (value_queues.is_list how capacity) passes
    (queue_promises.promise kind) (spans_of_queues (code_of how) kind capacity) (linear_of_queues (code_of how) kind capacity)
