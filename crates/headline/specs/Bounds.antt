-- How many steps a call takes at most, by the kind of its machine.
use Rattle.std.specs.Prelude.{ℕ}
use Rattle.model.specs.declared.event.Start.{Start}
use Rattle.model.specs.declared.event.Start.TheVariants as starts
use Rattle.model.specs.declared.families.queues.QueueKind.TheVariants as queues
use Rattle.model.specs.declared.turn.Kind.{Kind}
use Rattle.model.specs.declared.turn.Kind.TheVariants.{IndexQueue, Overflow, Queue, Atomic, Bits, Counts, Indices, Robust, Container, Loan}
use Rattle.model.specs.Families.Atomic.Bounds as of_value
use Rattle.model.specs.Families.Bits.Bounds.{most_bits_steps, most_counts_steps}
use Rattle.model.specs.Families.Container.Bounds as of_container
use Rattle.model.specs.Families.Indices.Bounds as of_indices
use Rattle.model.specs.Families.Indices.Robust.Bounds as of_robust
use Rattle.model.specs.Families.Loan.Bounds as of_loan
use Rattle.model.specs.Families.Queues.Bounds as of_queue

-- How many steps a call takes at most, by the capacity, the number of words of a value (`size`), and how
-- often the call has turned back to the start of a loop (`backs`). A call of another family takes no step,
-- since it cannot begin.
abbrev pub most_steps : {T : Type 0} → Kind → ℕ → ℕ → Start T → ℕ → ℕ
most_steps IndexQueue capacity size (starts.Queues start) backs = of_queue.most_steps size queues.IndexQueue start backs
most_steps Overflow capacity size (starts.Queues start) backs = of_queue.most_steps size queues.Overflow start backs
most_steps Queue capacity size (starts.Queues start) backs = of_queue.most_steps size queues.Queue start backs
most_steps Atomic capacity size (starts.Atomic start) backs = of_value.most_steps size start backs
most_steps Bits capacity size (starts.Bits start) backs = most_bits_steps capacity start backs
most_steps Counts capacity size (starts.Bits start) backs = most_counts_steps capacity start
most_steps Indices capacity size (starts.Indices start) backs = of_indices.most_steps capacity start backs
most_steps Robust capacity size (starts.Robust start) backs = of_robust.most_steps capacity start backs
most_steps Container capacity size (starts.Container start) backs = of_container.most_steps capacity size start backs
most_steps Loan capacity size (starts.Loan start) backs = of_loan.most_steps capacity start backs
most_steps kind capacity size start backs = 0
