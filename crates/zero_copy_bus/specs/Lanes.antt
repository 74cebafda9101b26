-- The identities of the two queues of a lane.
use Rattle.lock_free_queues.specs.Queues.Rings.{QueueId, queue_id}
use Rattle.zero_copy_bus.specs.declared.lane.Lane.{Lane}

-- the queue by which slots go out to the subscriber
abbrev pub submission_of : Lane → QueueId
submission_of lane = queue_id lane.submission

-- the queue by which slots come back to the publisher
abbrev pub completion_of : Lane → QueueId
completion_of lane = queue_id lane.completion
