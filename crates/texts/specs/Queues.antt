-- The calls of the queues, as a schedule names them and as they print.
use Rattle.std.specs.Prelude.{ℕ, ◌-◌, ◌^◌, List, ◌++◌, Option, Some, None, Result, Ok, Err, if◌then◌else◌, bytes_eq, codes, decimal}
use Rattle.model.specs.declared.event.Item.{Item}
use Rattle.model.specs.declared.event.Item.TheVariants.{Index, Value}
use Rattle.model.specs.declared.event.Start.{Start}
use Rattle.model.specs.declared.event.Start.TheVariants.{Queues}
use Rattle.model.specs.declared.families.queues.QueueStart.{QueueStart}
use Rattle.model.specs.declared.families.queues.QueueStart.TheVariants.{AcquireProducer, ReleaseProducer}
use Rattle.model.specs.declared.families.queues.QueueStart.TheVariants.{AcquireConsumer, ReleaseConsumer, PushIndex}
use Rattle.model.specs.declared.families.queues.QueueStart.TheVariants.{Push, Pop, Peek, HasProducer, HasConsumer, Len, IsEmpty, IsFull}
use Rattle.texts.specs.declared.error.Cause.{Cause}
use Rattle.texts.specs.declared.error.Cause.TheVariants.{UnknownCall}
use Rattle.texts.specs.Reading.{◌>>=◌, number_at}

-- ---- how they are read

-- the call with this name after which no value follows: one on a role, a pop, or a question of length or of a role
abbrev pub call_without_value : List ℕ → Option (QueueStart ℕ)
call_without_value name =
    if bytes_eq name (codes "acquire_producer") then Some AcquireProducer
    else if bytes_eq name (codes "release_producer") then Some ReleaseProducer
    else if bytes_eq name (codes "acquire_consumer") then Some AcquireConsumer
    else if bytes_eq name (codes "release_consumer") then Some ReleaseConsumer
    else if bytes_eq name (codes "pop") then Some Pop
    else if bytes_eq name (codes "len") then Some Len
    else if bytes_eq name (codes "is_empty") then Some IsEmpty
    else if bytes_eq name (codes "is_full") then Some IsFull
    else if bytes_eq name (codes "has_producer") then Some HasProducer
    else if bytes_eq name (codes "has_consumer") then Some HasConsumer
    else None

-- a push of the index that these words begin with, and the words that are left
unfoldable pub push_index : List (List ℕ) → Result (Start ℕ × List (List ℕ)) Cause
push_index ws = do
  index ← number_at (2 ^ 64 - 1) ws
  Ok (Queues (PushIndex index.0), index.1)

-- a push of the value that these words begin with, and the words that are left
unfoldable pub push_value : List (List ℕ) → Result (Start ℕ × List (List ℕ)) Cause
push_value ws = do
  value ← number_at (2 ^ 128 - 1) ws
  Ok (Queues (Push value.0), value.1)

-- the call with this name that every queue has, and the words that are left; any other name is unknown
unfoldable pub any_queue_call : List ℕ → List (List ℕ) → Result (Start ℕ × List (List ℕ)) Cause
any_queue_call name ws =
    elim (call_without_value name) [ Some start ↦ Ok (Queues start, ws) | None ↦ Err UnknownCall ]

-- the call with this name that both bounded queues have, which is a peek or one of every queue, and the words
-- that are left
abbrev pub any_bounded_call : List ℕ → List (List ℕ) → Result (Start ℕ × List (List ℕ)) Cause
any_bounded_call name ws =
    if bytes_eq name (codes "peek") then Ok (Queues Peek, ws) else any_queue_call name ws

-- the call of a queue of indices with this name, and the words that are left: a push of an index, or a call
-- of a bounded queue
unfoldable pub index_queue_call : List ℕ → List (List ℕ) → Result (Start ℕ × List (List ℕ)) Cause
index_queue_call name ws =
    if bytes_eq name (codes "push") then push_index ws else any_bounded_call name ws

-- the call of an overflowing queue with this name, and the words that are left: a push of an index, or a call
-- of every queue
unfoldable pub overflow_call : List ℕ → List (List ℕ) → Result (Start ℕ × List (List ℕ)) Cause
overflow_call name ws =
    if bytes_eq name (codes "push") then push_index ws else any_queue_call name ws

-- the call of a queue of values with this name, and the words that are left: a push of a value, or a call of
-- a bounded queue
unfoldable pub value_queue_call : List ℕ → List (List ℕ) → Result (Start ℕ × List (List ℕ)) Cause
value_queue_call name ws =
    if bytes_eq name (codes "push") then push_value ws else any_bounded_call name ws

-- ---- how they print

-- a call, as a schedule names it
abbrev pub call_text : QueueStart ℕ → List ℕ
call_text AcquireProducer = codes "acquire_producer"
call_text ReleaseProducer = codes "release_producer"
call_text AcquireConsumer = codes "acquire_consumer"
call_text ReleaseConsumer = codes "release_consumer"
call_text (PushIndex index) = codes "push " ++ decimal index
call_text (Push value) = codes "push " ++ decimal value
call_text Pop = codes "pop"
call_text Peek = codes "peek"
call_text HasProducer = codes "has_producer"
call_text HasConsumer = codes "has_consumer"
call_text Len = codes "len"
call_text IsEmpty = codes "is_empty"
call_text IsFull = codes "is_full"

-- an item, as it is printed
abbrev pub item_text : Item ℕ → List ℕ
item_text (Index n) = decimal n
item_text (Value n) = decimal n
