-- As which object calls of a kind answer that run whole.
use Rattle.model.specs.declared.families.queues.QueueKind.TheVariants as queues
use Rattle.model.specs.declared.turn.Kind.{Kind}
use Rattle.model.specs.declared.turn.Kind.TheVariants as kinds
use Rattle.model.specs.Linearized.{as_value}
use Rattle.model.specs.Turns.{IsReached}
use Rattle.model.specs.World.{Trace}
use Rattle.headline_whole.specs.Dialogues.{RepliesAs, calls_of}
use Rattle.headline_whole.specs.Objects.{whole_list, whole_places, whole_counts, whole_stack, whole_owners, whole_map}
use Rattle.headline_whole.specs.Whole.{AnswersAs}

module _ {T : Type 0} where
  -- The finished calls gave, one after another, the answers of the object of this kind. Of a loan channel
  -- nothing is said.
  abbrev pub AnswersWhole : Kind → (t : Trace T) → IsReached t → Type 0
  AnswersWhole kinds.IndexQueue t r = AnswersAs (whole_list queues.IndexQueue t.world.capacity) t.events
  AnswersWhole kinds.Overflow t r = AnswersAs (whole_list queues.Overflow t.world.capacity) t.events
  AnswersWhole kinds.Queue t r = AnswersAs (whole_list queues.Queue t.world.capacity) t.events
  AnswersWhole kinds.Atomic t r = AnswersAs (as_value t.world.coding) t.events
  AnswersWhole kinds.Bits t r = AnswersAs (whole_places t.world.capacity) t.events
  AnswersWhole kinds.Counts t r = AnswersAs (whole_counts t.world.capacity) t.events
  AnswersWhole kinds.Indices t r = AnswersAs (whole_stack t.world.capacity) t.events
  AnswersWhole kinds.Robust t r = RepliesAs (whole_owners t.world.capacity) (calls_of t r)
  AnswersWhole kinds.Container t r = RepliesAs (whole_map t.world.capacity) (calls_of t r)
  AnswersWhole kind t r = Unit {0}
