-- The machines of queues, and which of them are bounded.
use Rattle.model.specs.declared.families.queues.QueueKind.{QueueKind}
use Rattle.model.specs.declared.families.queues.QueueKind.TheVariants as queues
pub use Rattle.laws_queues.specs.Kinds.{machine_kind}

-- a queue of this kind refuses a push where it is full: a queue of indices or of values does, an
-- overflowing one does not
abbrev pub IsBounded : QueueKind → Type 0
IsBounded queues.Overflow = ⊥
IsBounded kind = Unit {0}
