-- A run of a queue is a run as the laws of queues have it.
use Rattle.std.proofs.Common.{arith}
use Rattle.history.proofs.Names.{ℕ, Coding, Trace}
use Rattle.model.specs.declared.families.queues.QueueKind.{QueueKind}
use Rattle.laws_queues.proofs.Queues.Invariant.{machine_kind}
use Rattle.history.specs.History.{IsRun}
use Rattle.history.proofs.Reached.{IsRunOn}

-- a run of a queue of any kind is a run as the laws of queues have it
pub queue_run : {T : Type 0} (code : Coding T) (capacity : ℕ) (kd : QueueKind) (t : Trace T) → IsRun code (machine_kind kd) capacity t → IsRunOn t
queue_run = grind arith
