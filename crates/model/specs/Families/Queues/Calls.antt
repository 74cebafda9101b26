-- The calls of a queue: which a kind has, and how one under way goes on.
use Rattle.std.specs.Prelude.{ℕ, ◌==◌, Bool, false, Option, Some, None, List, replicate, slice_set, []}
use Rattle.steps.specs.declared.ask.Want.{Want}
use Rattle.steps.specs.declared.ask.After.{After}
use Rattle.steps.specs.declared.copied.OneWord.{OneWord}
use Rattle.steps.specs.declared.copied.Buffer as buffers
use Rattle.steps.specs.Copied.{kept_in_one, value_in}
use Rattle.steps.specs.Routine.{went_on}
use Rattle.steps.specs.Queues.Roles.{acquire_want, acquire_after, release_want, release_after, look_want, look_after}
use Rattle.steps.specs.Queues.Ring.{first_push, push_want, push_after, first_pop, pop_want, pop_after, pop_kept, pop_answer}
use Rattle.steps.specs.Queues.Peek.{first_peek, peek_want, peek_after, peek_kept}
use Rattle.steps.specs.Queues.Lengths.{first_len, len_want, len_after, turns_back}
use Rattle.steps.specs.Queues.Overflow as overflow
use Rattle.model.specs.declared.event.Answer.{Answer}
use Rattle.model.specs.declared.event.Answer.TheVariants as answers
use Rattle.model.specs.declared.families.Flight.{Flight}
use Rattle.model.specs.declared.families.Flight.TheVariants as flights
use Rattle.model.specs.declared.families.queues.QueueStart.{QueueStart}
use Rattle.model.specs.declared.families.queues.QueueStart.TheVariants as starts
use Rattle.model.specs.declared.families.queues.calls.RoleCall.TheVariants.{Acquire, Release, Look}
use Rattle.model.specs.declared.families.queues.calls.RingCall.TheVariants as rings
use Rattle.model.specs.declared.families.queues.calls.OverflowCall.TheVariants as overflows
use Rattle.model.specs.declared.families.queues.calls.LengthOf.{LengthOf}
use Rattle.model.specs.declared.families.queues.calls.LengthOf.TheVariants as measures
use Rattle.model.specs.declared.families.queues.calls.QueueFlight.{QueueFlight}
use Rattle.model.specs.declared.families.queues.calls.QueueFlight.TheVariants.{Role, Indices, Values, Overflow, Length}
use Rattle.model.specs.declared.families.queues.QueueKind.{QueueKind}
use Rattle.model.specs.declared.families.queues.QueueKind.TheVariants as kinds
use Rattle.model.specs.Coding.{Coding, one_word}
use Rattle.model.specs.Step.{Going, as_call}

-- ---- the words

-- the word of the write position
abbrev pub write_word : ℕ
write_word = 0

-- the word of the read position
abbrev pub read_word : ℕ
read_word = 1

-- the word of the producer's role
abbrev pub producer_word : ℕ
producer_word = 2

-- the word of the consumer's role
abbrev pub consumer_word : ℕ
consumer_word = 3

-- an index lies in one word, as it is
abbrev pub words_of_index : ℕ → List ℕ
words_of_index = one_word.words_of

-- ---- the calls that begin

-- an acquire of the role of this word as it begins
abbrev pub acquire_of : {T : Type 0} → ℕ → QueueFlight T
acquire_of word = Role (Acquire (record { call = record { word = word }; given = tt; room = tt }))

-- a release of the role of this word as it begins
abbrev pub release_of : {T : Type 0} → ℕ → QueueFlight T
release_of word = Role (Release (record { call = record { word = word }; given = tt; room = tt }))

-- a look at the role of this word as it begins
abbrev pub look_of : {T : Type 0} → ℕ → QueueFlight T
look_of word = Role (Look (record { call = record { word = word }; given = tt; room = tt }))

-- The room (a call's own memory) of one word, in which nothing was put yet.
abbrev pub fresh : OneWord
fresh = record { 0 = 0 }

-- a room for the words of a value, of which none is loaded yet
abbrev pub fresh_cell : buffers.Buffer 128
fresh_cell = record { words = replicate 128 0 }

-- The push of an index as it begins, which the two queues of indices have.
abbrev pub push_index_of : {T : Type 0} → QueueKind → ℕ → ℕ → Option (QueueFlight T)
push_index_of kinds.IndexQueue capacity index =
    Some (Indices (rings.Push
    (record { call = first_push capacity; given = index; room = tt })))
push_index_of kinds.Overflow capacity index =
    Some (Overflow (overflows.Push
    (record { call = overflow.first_push capacity; given = index; room = fresh })))
push_index_of kinds.Queue capacity index = None

-- the push of a value as it begins, which only a queue of values has
abbrev pub push_value_of : {T : Type 0} → QueueKind → ℕ → T → Option (QueueFlight T)
push_value_of kinds.IndexQueue capacity value = None
push_value_of kinds.Overflow capacity value = None
push_value_of kinds.Queue capacity value =
    Some (Values (rings.Push
    (record { call = first_push capacity; given = value; room = tt })))

-- the pop as it begins, in a queue of this kind and capacity
abbrev pub pop_of : {T : Type 0} → QueueKind → ℕ → QueueFlight T
pop_of kinds.IndexQueue capacity =
    Indices (rings.Pop (record { call = first_pop capacity; given = tt; room = fresh }))
pop_of kinds.Overflow capacity =
    Overflow (overflows.Pop
    (record { call = overflow.first_pop capacity; given = tt; room = fresh }))
pop_of kinds.Queue capacity =
    Values (rings.Pop
    (record { call = first_pop capacity; given = tt; room = fresh_cell }))

-- The peek (a look at the oldest value) as it begins, which only bounded queues have.
abbrev pub peek_of : {T : Type 0} → QueueKind → ℕ → Option (QueueFlight T)
peek_of kinds.IndexQueue capacity =
    Some (Indices (rings.Peek
    (record { call = first_peek capacity; given = tt; room = fresh })))
peek_of kinds.Overflow capacity = None
peek_of kinds.Queue capacity =
    Some (Values (rings.Peek
    (record { call = first_peek capacity; given = tt; room = fresh_cell })))

-- a call on the length as it begins
abbrev pub length_of : {T : Type 0} → LengthOf → ℕ → QueueFlight T
length_of which capacity =
    Length which (record { call = first_len capacity; given = tt; room = tt })

module _ {T : Type 0} where
  -- the call that begins, or None where the kind has no such call
  abbrev pub first : QueueKind → ℕ → QueueStart T → Option (QueueFlight T)
  first kind capacity starts.AcquireProducer = Some (acquire_of producer_word)
  first kind capacity starts.ReleaseProducer = Some (release_of producer_word)
  first kind capacity starts.AcquireConsumer = Some (acquire_of consumer_word)
  first kind capacity starts.ReleaseConsumer = Some (release_of consumer_word)
  first kind capacity (starts.PushIndex index) = push_index_of kind capacity index
  first kind capacity (starts.Push value) = push_value_of kind capacity value
  first kind capacity starts.Pop = Some (pop_of kind capacity)
  first kind capacity starts.Peek = peek_of kind capacity
  first kind capacity starts.HasProducer = Some (look_of producer_word)
  first kind capacity starts.HasConsumer = Some (look_of consumer_word)
  first kind capacity starts.Len = Some (length_of measures.Len capacity)
  first kind capacity starts.IsEmpty =
      Some (length_of measures.IsEmpty capacity)
  first kind capacity starts.IsFull =
      Some (length_of measures.IsFull capacity)

-- ---- the calls under way

module _ {T : Type 0} where
  -- what a call under way wants next
  abbrev pub want : Coding T → QueueFlight T → Want (Unit {0})
  want code (Role (Acquire run)) = acquire_want run.call
  want code (Role (Release run)) = release_want run.call
  want code (Role (Look run)) = look_want run.call
  want code (Indices (rings.Push run)) = push_want words_of_index run.call run.given
  want code (Indices (rings.Pop run)) = pop_want run.call
  want code (Indices (rings.Peek run)) = peek_want run.call
  want code (Values (rings.Push run)) = push_want code.words_of run.call run.given
  want code (Values (rings.Pop run)) = pop_want run.call
  want code (Values (rings.Peek run)) = peek_want run.call
  want code (Overflow (overflows.Push run)) = overflow.push_want run.call run.given
  want code (Overflow (overflows.Pop run)) = overflow.pop_want run.call
  want code (Length which run) = len_want run.call

-- what a pop of an index answers
abbrev pub popped : {T : Type 0} → Option ℕ → Answer T
popped None = answers.PoppedNone
popped (Some index) = answers.PoppedIndex index

-- what a pop of a value answers
abbrev pub popped_value : {T : Type 0} → Option T → Answer T
popped_value None = answers.PoppedNone
popped_value (Some value) = answers.Popped value

-- The answer of a call on the length, where this number of values wait.
abbrev pub length_answer : {T : Type 0} → LengthOf → ℕ → ℕ → Answer T
length_answer measures.Len capacity number = answers.Number number
length_answer measures.IsEmpty capacity number = answers.Truth (number == 0)
length_answer measures.IsFull capacity number =
    answers.Truth (number == capacity)

-- whether the call begins a turn of its loop again once it is handed this old value
abbrev pub goes_back : {T : Type 0} → QueueFlight T → ℕ → Bool
goes_back (Role call) old = false
goes_back (Indices call) old = false
goes_back (Values call) old = false
goes_back (Overflow (overflows.Push run)) old = false
goes_back (Overflow (overflows.Pop run)) old = overflow.goes_back run.call.stage old
goes_back (Length which run) old = turns_back run.call.stage old

-- the value that the words in the room make
abbrev pub read_in : {T : Type 0} → Coding T → buffers.Buffer 128 → T
read_in code room = value_in code.value_of code.size room.words

-- a word is put to its place in the room
abbrev pub kept_at : buffers.Buffer 128 → (at word : ℕ) → buffers.Buffer 128
kept_at room at word = record room { words = slice_set room.words at word }

-- The answer of a call that answers what its last step gave, whatever its argument and its
-- room (its own memory).
abbrev pub as_it_is : {E G M : Type 0} → E → G → M → E
as_it_is end given room = end

module _ {T : Type 0} where
  -- how a call under way goes on from the old value of its word
  abbrev pub after : Coding T → QueueFlight T → ℕ → After (QueueFlight T) (Answer T)
  after code (Role (Acquire run)) old =
      as_call (λ r. Role (Acquire r)) answers.Truth
      (went_on as_it_is run.given run.room (acquire_after run.call old))
  after code (Role (Release run)) old =
      as_call (λ r. Role (Release r)) (λ _. answers.Done)
      (went_on as_it_is run.given run.room (release_after run.call old))
  after code (Role (Look run)) old =
      as_call (λ r. Role (Look r)) answers.Truth
      (went_on as_it_is run.given run.room (look_after run.call old))
  after code (Indices (rings.Push run)) old =
      as_call (λ r. Indices (rings.Push r)) answers.Truth
      (went_on as_it_is run.given run.room (push_after 1 run.call old))
  after code (Indices (rings.Pop run)) old =
      as_call (λ r. Indices (rings.Pop r)) popped
      (went_on (λ end given room. pop_answer room.0 end) run.given
      (pop_kept kept_in_one run.call run.room old) (pop_after 1 run.call old))
  after code (Indices (rings.Peek run)) old =
      as_call (λ r. Indices (rings.Peek r)) popped
      (went_on (λ end given room. pop_answer room.0 end) run.given
      (peek_kept kept_in_one run.call run.room old) (peek_after 1 run.call old))
  after code (Values (rings.Push run)) old =
      as_call (λ r. Values (rings.Push r)) answers.Truth
      (went_on as_it_is run.given run.room (push_after code.size run.call old))
  after code (Values (rings.Pop run)) old =
      as_call (λ r. Values (rings.Pop r)) popped_value
      (went_on (λ end given room. pop_answer (read_in code room) end) run.given
      (pop_kept kept_at run.call run.room old) (pop_after code.size run.call old))
  after code (Values (rings.Peek run)) old =
      as_call (λ r. Values (rings.Peek r)) popped_value
      (went_on (λ end given room. pop_answer (read_in code room) end) run.given
      (peek_kept kept_at run.call run.room old) (peek_after code.size run.call old))
  after code (Overflow (overflows.Push run)) old =
      as_call (λ r. Overflow (overflows.Push r)) popped
      (went_on (λ end given room. overflow.push_answer given room.0 end) run.given
      (overflow.push_kept run.call run.room old) (overflow.push_after run.call old))
  after code (Overflow (overflows.Pop run)) old =
      as_call (λ r. Overflow (overflows.Pop r)) popped
      (went_on (λ end given room. overflow.pop_answer room.0 end) run.given
      (overflow.pop_kept run.call run.room old) (overflow.pop_after run.call old))
  after code (Length which run) old =
      as_call (λ r. Length which r) (length_answer which run.call.capacity)
      (went_on as_it_is run.given run.room (len_after run.call old))

  -- the family's call under way, as one of a machine
  abbrev pub going : Coding T → QueueFlight T → Going (Flight T) T
  going code flight =
      record {
        want = want code flight;
        after = λ old.
            as_call flights.Queues (λ answer. answer) (after code flight old);
        rows = λ kept said. [];
        most = 3;
      }
