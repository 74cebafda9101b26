-- The machines of queues.
use Rattle.model.specs.declared.families.queues.QueueKind.{QueueKind}
use Rattle.model.specs.declared.families.queues.QueueKind.TheVariants as queues
use Rattle.model.specs.declared.turn.Kind.{Kind}
use Rattle.model.specs.declared.turn.Kind.TheVariants as kinds

-- the kind of the machine that has this queue
abbrev pub machine_kind : QueueKind → Kind
machine_kind queues.IndexQueue = kinds.IndexQueue
machine_kind queues.Overflow = kinds.Overflow
machine_kind queues.Queue = kinds.Queue
