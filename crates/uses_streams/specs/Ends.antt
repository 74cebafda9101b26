-- What clauses see of the ends of a stream: which values a sender has sent and a receiver has received, and
-- whether the end was sent or has come.
use Rattle.std.specs.Prelude.{◌≡◌, ℕ, Bool, true, false, Option, Some, None, List, [], ◌∷◌, ◌++◌}
use Rattle.history.specs.declared.view.View.{View}
use Rattle.lock_free_queues.specs.Queues.Rings.{QueueId, producer_queue, consumer_queue, queue_of, producer_view, consumer_view, view}
use Rattle.steps.specs.declared.words.Words.{Ghosts}
use Rattle.uses_streams.specs.declared.element.Element.{Element}
use Rattle.uses_streams.specs.declared.element.Element.TheVariants as elements
use Rattle.uses_streams.specs.declared.ends.Arrival.{Arrival}
use Rattle.uses_streams.specs.declared.ends.Arrival.TheVariants as arrivals
use Rattle.uses_streams.specs.declared.ends.Sender.{Sender}
use Rattle.uses_streams.specs.declared.ends.Receiver.{Receiver}
use Rattle.uses_streams.specs.declared.ends.Sent.{Sent}
use Rattle.uses_streams.specs.declared.ends.Received.{Received}
use Rattle.uses_streams.specs.Streams.{values_in, has_end, ends_once, pushed_by, popped_by}

module _ {T : Type 0} where
  -- what the receiver finds by a pop: nothing, a value or the end
  abbrev pub arrival_of : Option (Element T) → Arrival T
  arrival_of None = arrivals.Nothing
  arrival_of (Some (elements.Value x)) = arrivals.Value x
  arrival_of (Some elements.End) = arrivals.End

  -- the value that came, if one did
  abbrev pub arrived : Arrival T → List T
  arrived (arrivals.Value x) = x ∷ []
  arrived arrival = []

  -- whether the end has come
  abbrev pub is_end : Arrival T → Bool
  is_end arrivals.End = true
  is_end arrival = false

  -- `P` holds if nothing came
  abbrev pub IfNothing : Arrival T → Type 0 → Type 0
  IfNothing arrivals.Nothing P = P
  IfNothing arrival P = Unit {0}

  -- `P` holds of the value, if one came
  abbrev pub IfValue : Arrival T → (T → Type 0) → Type 0
  IfValue (arrivals.Value x) P = P x
  IfValue arrival P = Unit {0}

  -- both lists have grown by the same values at their end
  abbrev pub GainAlike : (xs more_xs ys more_ys : List T) → Type 0
  GainAlike xs more_xs ys more_ys = (gained : List T) × (more_xs ≡ xs ++ gained) × (more_ys ≡ ys ++ gained)

  module _ {words : Ghosts (Element T)} where
    -- what the sender knows of the queue's history
    abbrev pub sender_view : Sender T words → View (Element T)
    sender_view s = producer_view s.producer

    -- what the receiver knows of the stream's queue
    abbrev pub receiver_view : Receiver T words → View (Element T)
    receiver_view r = consumer_view r.consumer

    -- what a sender that has ended knows of the queue
    abbrev pub sent_view : Sent T words → View (Element T)
    sent_view s = view s.pass

    -- what a receiver that has ended knows of the queue
    abbrev pub received_view : Received T words → View (Element T)
    received_view r = view r.pass

    -- how many words an element of the stream has
    abbrev pub sender_words : Sender T words → ℕ
    sender_words s = words.WORDS

    -- how many words an element of the stream has
    abbrev pub receiver_words : Receiver T words → ℕ
    receiver_words r = words.WORDS

    -- the queue of the sender
    abbrev pub sender_queue : Sender T words → QueueId
    sender_queue s = producer_queue s.producer

    -- the queue of the receiver
    abbrev pub receiver_queue : Receiver T words → QueueId
    receiver_queue r = consumer_queue r.consumer

    -- the queue of a sender that has ended
    abbrev pub sent_queue : Sent T words → QueueId
    sent_queue s = queue_of s.pass

    -- the queue of a receiver that has ended
    abbrev pub received_queue : Received T words → QueueId
    received_queue r = queue_of r.pass

    -- the values that the sender has sent so far
    abbrev pub sent_so_far : Sender T words → List T
    sent_so_far s = values_in (pushed_by (producer_view s.producer))

    -- the values that the receiver has received so far
    abbrev pub received_so_far : Receiver T words → List T
    received_so_far r = values_in (popped_by (consumer_view r.consumer))

    -- the values that the sender has sent in all
    abbrev pub sent : Sent T words → List T
    sent s = values_in (pushed_by (view s.pass))

    -- the values that the receiver has received in all
    abbrev pub received : Received T words → List T
    received r = values_in (popped_by (view r.pass))

    -- whether the sender has sent the end
    abbrev pub has_finished : Sent T words → Bool
    has_finished s = has_end (pushed_by (view s.pass))

    -- whether the end was sent once, and nothing after it
    abbrev pub has_finished_once : Sent T words → Bool
    has_finished_once s = ends_once (pushed_by (view s.pass))

    -- whether the receiver has met the end of the stream
    abbrev pub is_at_end : Receiver T words → Bool
    is_at_end r = has_end (popped_by (consumer_view r.consumer))

    -- whether the receiver had met the end of the stream
    abbrev pub has_ended : Received T words → Bool
    has_ended r = has_end (popped_by (view r.pass))
