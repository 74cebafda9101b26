-- The two kinds of bounded queue, the index queue and the queue of values: their calls as calls of one
-- kind, and the facts that hold of both.
use Rattle.laws_queues.proofs.Names.{◌≡◌, ℕ, ◌+◌, nat_lt, Bool, true, false, Option, Some, None, List, [], ◌∷◌}
use Rattle.laws_queues.proofs.Names.{length, set, fold, map, drop, slice_get, refl, After, Buffer, OneWord, value_in}
use Rattle.laws_queues.proofs.Names.{kept_in_one, one_put_in, push_want, push_after, pop_want, pop_after, pop_kept}
use Rattle.laws_queues.proofs.Names.{peek_want, peek_after, peek_kept, Quiet, Peek}
use Rattle.laws_queues.proofs.Names.{went_on, Answer, Event, Published, HandedOut, Acted, Finished, Queues}
use Rattle.laws_queues.proofs.Names.{QueueStart, PushIndex, Push, Pop, Roles, QueueFlight, Indices, Values, Effect}
use Rattle.laws_queues.proofs.Names.{QueueKind, IndexQueue, Queue, Coding, IsCoding, AnswersRight, most_steps}
use Rattle.laws_queues.proofs.Names.{kept_at, as_it_is, TellsLength, answer_of_item, appended, list_of, cells_of}
use Rattle.laws_queues.proofs.Names.{waiting, producer_after, consumer_after, GrantsRight, Wrote, push_of}
use Rattle.laws_queues.proofs.Names.{push_effect, pop_effect, roles_after, pending_at, answers_from, as_call}
use Rattle.std.proofs.Common.{arith}
use Rattle.steps.specs.declared.ask.Want.{Want}
use Rattle.steps.specs.Queues.Ring.{pop_answer}
use Rattle.model.specs.declared.event.Answer.TheVariants as answers
use Rattle.model.specs.declared.families.Flight.TheVariants as flights
use Rattle.model.specs.declared.families.queues.calls.RingCall.{RingCall}
use Rattle.model.specs.declared.families.queues.calls.RingCall.TheVariants as rings
use Rattle.model.specs.Families.Queues.Spans.{HandsOut}
use Rattle.laws_queues.proofs.Queues.Core.{Core}
use Rattle.laws_queues.proofs.Queues.Keeping.{RingKeeps, Keeps}
use Rattle.laws_queues.proofs.Queues.Knows.{in_one, in_cell, has_written, Hangs, listed, number_of, At}
use Rattle.laws_queues.proofs.Queues.Values.{Val, encoded, item}
use Rattle.laws_queues.proofs.Ring.Knows.{ring_number, PushAt, PopAt, PeekAt}

-- which of the two bounded queues it is: that of indices or that of values
pub data Ring : Type 0 where
  of_indices : Ring
  of_values : Ring

-- the kind of machine of a bounded queue
abbrev pub kind_of : Ring → QueueKind
kind_of of_indices = IndexQueue
kind_of of_values = Queue

-- ---- the room of a pop and of a peek

-- the room into which a pop or a peek reads the words of an element
abbrev pub Room : Ring → Type 0
Room of_indices = OneWord
Room of_values = Buffer 128

-- the words in the room of a pop or a peek
abbrev pub words_in : (r : Ring) → Room r → List ℕ
words_in of_indices room = in_one room
words_in of_values room = in_cell room

-- the room with one more word read into it
abbrev pub with_word : (r : Ring) → Room r → ℕ → ℕ → Room r
with_word of_indices room at word = kept_in_one room at word
with_word of_values room at word = kept_at room at word

-- a word that is put into the room is set among its words
pub put_in : (r : Ring) (room : Room r) (at word : ℕ) → words_in r (with_word r room at word) ≡ set (words_in r room) at word
put_in of_indices room at word = one_put_in room at word
put_in of_values room at word = refl

-- ---- the calls

module _ {T : Type 0} where
  -- a call of a bounded queue as a call of any queue
  abbrev pub flight : (r : Ring) → RingCall (Val T (kind_of r)) (Room r) → QueueFlight T
  flight of_indices call = Indices call
  flight of_values call = Values call

  -- the begin of a push of `v`
  abbrev pub push : (r : Ring) → Val T (kind_of r) → QueueStart T
  push of_indices v = PushIndex v
  push of_values v = Push v

  -- the answer of a pop that takes `v`
  abbrev pub got : (r : Ring) → Val T (kind_of r) → Answer T
  got of_indices v = answers.PoppedIndex v
  got of_values v = answers.Popped v

  -- what a pop answers: an element, or that there is none
  abbrev pub popped_of : (r : Ring) → Option (Val T (kind_of r)) → Answer T
  popped_of r None = answers.PoppedNone
  popped_of r (Some v) = got r v

module _ {T : Type 0} (en : Coding T) (r : Ring) where
  -- the coding of elements
  abbrev pub enc : Coding (Val T (kind_of r))
  enc = encoded en (kind_of r)

  -- the element that the words of a room say
  abbrev pub read_in : Room r → Val T (kind_of r)
  read_in room = value_in enc.value_of enc.size (words_in r room)

  -- what a call of a bounded queue asks of the words next
  abbrev pub ring_want : RingCall (Val T (kind_of r)) (Room r) → Want (Unit {0})
  ring_want (rings.Push run) = push_want enc.words_of run.call run.given
  ring_want (rings.Pop run) = pop_want run.call
  ring_want (rings.Peek run) = peek_want run.call

  -- how the call goes on, or ends, where `old` is the old value of the word that it asked for
  abbrev pub ring_after : RingCall (Val T (kind_of r)) (Room r) → ℕ → After (QueueFlight T) (Answer T)
  ring_after (rings.Push run) old =
      as_call (λ x. flight r (rings.Push x)) answers.Truth
      (went_on as_it_is run.given run.room (push_after enc.size run.call old))
  ring_after (rings.Pop run) old =
      as_call (λ x. flight r (rings.Pop x)) (popped_of r)
      (went_on (λ end given room. pop_answer (read_in room) end) run.given
      (pop_kept (with_word r) run.call run.room old) (pop_after enc.size run.call old))
  ring_after (rings.Peek run) old =
      as_call (λ x. flight r (rings.Peek x)) (popped_of r)
      (went_on (λ end given room. pop_answer (read_in room) end) run.given
      (peek_kept (with_word r) run.call run.room old) (peek_after enc.size run.call old))

  -- what the call's next step writes of the queue and of acts
  abbrev pub ring_effect : RingCall (Val T (kind_of r)) (Room r) → Effect T
  ring_effect (rings.Push run) = push_effect (item (kind_of r) run.given) run.call.stage
  ring_effect (rings.Pop run) = pop_effect (item (kind_of r) (read_in run.room)) run.call.stage
  ring_effect (rings.Peek run) = Quiet

-- ---- facts about both kinds of bounded queue

-- words of an element are of a coding, for the index queue and the queue of values
pub are_words : {T : Type 0} → (en : Coding T) (r : Ring) → IsCoding en → IsCoding (encoded en (kind_of r))
are_words en of_indices coding = record { some = omega arith; few = omega arith; sized = λ v. refl; given_back = λ v. refl }
are_words en of_values coding = coding

-- a bounded queue has as many cells as its capacity
pub cells_are : (r : Ring) (c : ℕ) → cells_of (kind_of r) c ≡ c
cells_are = grind arith

module _ (T : Type 0) where
  -- no call of a bounded queue is a pending push
  pub calm : (r : Ring) (position : ℕ) (call : RingCall (Val T (kind_of r)) (Room r))
      → pending_at position (Some (flights.Queues (flight {T = T} r call))) ≡ None
  calm = grind arith

  -- of a bounded queue `Hangs` asks nothing
  pub none_hangs : (r : Ring) (c : ℕ) (k : Core (Val T (kind_of r))) (o : Option (ℕ × ℕ)) → Hangs T (kind_of r) c k o
  none_hangs = grind arith

  -- a pop hands its element out
  pub hands_out : (r : Ring) → HandsOut {T = T} (kind_of r) (Queues Pop)
  hands_out = grind arith

module _ {T : Type 0} where
  -- a call of a bounded queue writes nothing before its end
  pub wrote_none : (r : Ring) (c : ℕ) (k : Core (Val T (kind_of r))) (p : ℕ) (call : RingCall (Val T (kind_of r)) (Room r))
      → has_written {T = T} c k p (flight r call) ≡ []
  wrote_none = grind arith

  -- how many steps a call of a bounded queue has taken at most, by its stage
  pub number : (en : Coding T) (r : Ring) (call : RingCall (Val T (kind_of r)) (Room r)) (backs : ℕ)
      → number_of en (flight r call) backs ≡ ring_number (encoded en (kind_of r)) (words_in r) call
  number en of_indices call backs = refl
  number en of_values call backs = refl

  -- a push that stands as one of a bounded queue stands as one of any queue
  pub push_here : (en : Coding T) (r : Ring) (c : ℕ) (ro : Roles) (k : Core (Val T (kind_of r))) (p : ℕ)
      (v : Val T (kind_of r)) (call : RingCall (Val T (kind_of r)) (Room r))
      → PushAt (encoded en (kind_of r)) (words_in r) c ro k p v call → At en (kind_of r) c ro k p (push r v) (flight r call)
  push_here en of_indices c ro k p v call standing = standing
  push_here en of_values c ro k p v call standing = standing

  -- a pop that stands as one of a bounded queue stands as one of any queue
  pub pop_here : (en : Coding T) (r : Ring) (c : ℕ) (ro : Roles) (k : Core (Val T (kind_of r))) (p : ℕ) (call : RingCall (Val T (kind_of r)) (Room r))
      → PopAt (encoded en (kind_of r)) (words_in r) c ro k p call → At en (kind_of r) c ro k p Pop (flight r call)
  pop_here en of_indices c ro k p call standing = standing
  pop_here en of_values c ro k p call standing = standing

  -- a peek that stands as one of a bounded queue stands as one of any queue
  pub peek_here : (en : Coding T) (r : Ring) (c : ℕ) (ro : Roles) (k : Core (Val T (kind_of r))) (p : ℕ) (call : RingCall (Val T (kind_of r)) (Room r))
      → PeekAt (encoded en (kind_of r)) (words_in r) c ro k p call → At en (kind_of r) c ro k p Peek (flight r call)
  peek_here en of_indices c ro k p call standing = standing
  peek_here en of_values c ro k p call standing = standing

  -- where pushes and pops of a bounded queue keep what they know, those of its kind do
  pub ring_keeps : (en : Coding T) (r : Ring) {c : ℕ} {ro : Roles} {k k' : Core (Val T (kind_of r))} {q : ℕ}
      → RingKeeps (encoded en (kind_of r)) c ro k k' q → Keeps en (kind_of r) c ro k k' q
  ring_keeps en of_indices keeps = keeps
  ring_keeps en of_values keeps = keeps

  -- ---- the list

  -- a push puts its value at the end of the list, if there is room
  pub list_after_push : (r : Ring) (c : ℕ) (xs : List (Val T (kind_of r))) (v : Val T (kind_of r))
      → fold (list_of (kind_of r) c).after (listed (kind_of r) c xs) (Queues (push r v) ∷ [])
      ≡ appended c (map (item {T = T} (kind_of r)) xs) (item (kind_of r) v)
  list_after_push of_indices c xs v = refl
  list_after_push of_values c xs v = refl

  -- a push answers whether the list has fewer values than the capacity
  pub list_answers_push : (r : Ring) (c : ℕ) (xs : List (Val T (kind_of r))) (v : Val T (kind_of r))
      → answers_from (list_of (kind_of r) c) (listed (kind_of r) c xs) (Queues (push r v) ∷ [])
      ≡ answers.Truth (nat_lt (length (map (item {T = T} (kind_of r)) xs)) c) ∷ []
  list_answers_push of_indices c xs v = refl
  list_answers_push of_values c xs v = refl

  -- a pop takes the front off the list
  pub list_after_pop : (r : Ring) (c : ℕ) (xs : List (Val T (kind_of r)))
      → fold (list_of (kind_of r) c).after (listed (kind_of r) c xs) (Queues Pop ∷ []) ≡ drop 1 (map (item {T = T} (kind_of r)) xs)
  list_after_pop of_indices c xs = refl
  list_after_pop of_values c xs = refl

  -- a pop answers the front of the list, or None
  pub list_answers_pop : (r : Ring) (c : ℕ) (xs : List (Val T (kind_of r)))
      → answers_from (list_of (kind_of r) c) (listed (kind_of r) c xs) (Queues Pop ∷ []) ≡ answer_of_item (slice_get (map (item {T = T} (kind_of r)) xs) 0) ∷ []
  list_answers_pop of_indices c xs = refl
  list_answers_pop of_values c xs = refl

  -- as a list the queue has the items of its elements
  pub listed_is : (r : Ring) (c : ℕ) (xs : List (Val T (kind_of r))) → listed {T = T} (kind_of r) c xs ≡ map (item (kind_of r)) xs
  listed_is of_indices c xs = refl
  listed_is of_values c xs = refl

  -- the answer with the item of an element is the one that a pop gives for it
  pub answer_is : (r : Ring) (v : Val T (kind_of r)) → answer_of_item {T = T} (Some (item (kind_of r) v)) ≡ got r v
  answer_is of_indices v = refl
  answer_is of_values v = refl

  -- ---- the events of a push

  -- the end of a push leaves the roles
  pub push_roles : (r : Ring) (p : ℕ) (v : Val T (kind_of r)) (o : Option (Answer T)) (ro : Roles) → roles_after p (push r v) o ro ≡ ro
  push_roles = grind arith

  module _ (r : Ring) (c : ℕ) (before : List (Event T)) (p : ℕ) (v : Val T (kind_of r)) (b : Bool) where
    -- the end of a push grants no role
    pub push_grants : GrantsRight before (Finished p (Queues (push r v)) (answers.Truth b))
    push_grants = grind arith

    -- the end of a push tells no length
    pub push_tells : TellsLength c before (Finished p (Queues (push r v)) (answers.Truth b))
    push_tells = grind arith

    -- the end of a push leaves the producer's role with its holder
    pub push_producer : (o : Option ℕ) → producer_after {T = T} o (Finished p (Queues (push r v)) (answers.Truth b)) ≡ o
    push_producer = grind arith

    -- the end of a push leaves the consumer's role with its holder
    pub push_consumer : (o : Option ℕ) → consumer_after {T = T} o (Finished p (Queues (push r v)) (answers.Truth b)) ≡ o
    push_consumer = grind arith

  -- a push that answers false tells the truth where as many values wait as the capacity
  pub false_is_right : (r : Ring) (c : ℕ) (before : List (Event T)) (p : ℕ) (v : Val T (kind_of r))
      → length (waiting before) ≡ c
      → AnswersRight c before (Acted p (Queues (push r v)) (answers.Truth false))
  false_is_right = grind arith

  -- a push that answers true is right after any events
  pub true_is_right : (r : Ring) (c : ℕ) (before : List (Event T)) (p : ℕ) (v : Val T (kind_of r))
      → AnswersRight c before (Acted p (Queues (push r v)) (answers.Truth true))
  true_is_right = grind arith

  -- a push by its name in this kind of queue is the push of its item
  pub named : (r : Ring) (v : Val T (kind_of r)) → Queues (push {T = T} r v) ≡ push_of (item (kind_of r) v)
  named of_indices v = refl
  named of_values v = refl

  -- a push that answers false writes its act alone before its end
  pub wrote_false : (r : Ring) (c p : ℕ) (v : Val T (kind_of r))
      → Wrote {T = T} (kind_of r) c (push r v) (answers.Truth false)
      (Acted p (Queues (push r v)) (answers.Truth false) ∷ [])
  wrote_false = grind arith

  -- a push that answers true writes that it published its value, and then its act
  pub wrote_true : (r : Ring) {c : ℕ} (p : ℕ) (v : Val T (kind_of r))
      → Wrote {T = T} (kind_of r) c (push r v) (answers.Truth true)
      (Published p (item (kind_of r) v) ∷ Acted p (Queues (push r v)) (answers.Truth true) ∷ [])
  wrote_true of_indices p v = record { moments = refl; published = refl; handed_out = refl }
  wrote_true of_values p v = record { moments = refl; published = refl; handed_out = refl }

  -- a push takes at most three steps, and one for each word of a value
  pub most_push : (en : Coding T) (r : Ring) (v : Val T (kind_of r)) (backs : ℕ)
      → most_steps en.size (kind_of r) (push r v) backs ≡ 3 + (encoded en (kind_of r)).size
  most_push en of_indices v backs = refl
  most_push en of_values v backs = refl

  -- ---- the events of a pop

  -- a pop that hands an element out gives an answer that is right
  pub got_is_right : (r : Ring) (c : ℕ) (before : List (Event T)) (p : ℕ) (v : Val T (kind_of r)) → AnswersRight c before (Acted p (Queues Pop) (got r v))
  got_is_right = grind arith

  -- a pop that answers a value writes that it handed the value out, and then its act
  pub wrote_got : (r : Ring) {c : ℕ} (p : ℕ) (v : Val T (kind_of r))
      → Wrote {T = T} (kind_of r) c Pop (got r v) (HandedOut p (item (kind_of r) v) ∷ Acted p (Queues Pop) (got r v) ∷ [])
  wrote_got of_indices p v = record { moments = refl; published = refl; handed_out = refl }
  wrote_got of_values p v = record { moments = refl; published = refl; handed_out = refl }

  -- a pop takes at most three steps, and one for each word of a value
  pub most_pop : (en : Coding T) (r : Ring) (backs : ℕ) → most_steps {T = T} en.size (kind_of r) Pop backs ≡ 3 + (encoded en (kind_of r)).size
  most_pop en of_indices backs = refl
  most_pop en of_values backs = refl

  -- ---- the end of a peek

  -- a peek takes at most two steps, and one for each word of a value
  pub most_peek : (en : Coding T) (r : Ring) (backs : ℕ) → most_steps {T = T} en.size (kind_of r) Peek backs ≡ 2 + (encoded en (kind_of r)).size
  most_peek en of_indices backs = refl
  most_peek en of_values backs = refl
