-- What clauses see of a channel: its parts, how many places it has, and what is known of all that went through it.
use Rattle.std.specs.Prelude.{◌≡◌, ◌≤◌, ℕ, ◌+◌, List}
use Rattle.history.specs.declared.view.View.{View}
use Rattle.lock_free_queues.specs.Queues.Contracts.{HasJoined, HasSplit}
use Rattle.lock_free_queues.specs.Queues.Overflowing.{HasHistory, MissesNothing}
use Rattle.lock_free_queues.specs.Queues.Rings.{QueueId, queue_id, queue_of, view}
use Rattle.lock_free_sets.specs.UniqueIndexSet as sets
use Rattle.lock_free_sets.specs.UniqueIndexSet.{capacity_of, IsPassOf}
use Rattle.lock_free_sets.specs.declared.mpmc.unique_index_set.UniqueIndexSet.{UniqueIndexSet}
use Rattle.zero_copy_loans.specs.declared.channel.Channel.{Channel}
use Rattle.zero_copy_loans.specs.declared.receiver.ReceiverParts.{ReceiverParts}
use Rattle.zero_copy_loans.specs.declared.sender.SenderParts.{SenderParts}
use Rattle.zero_copy_loans.specs.declared.words.Layout.{Layout}
use Rattle.zero_copy_loans.specs.declared.receiver.Receiver.{Receiver}
use Rattle.zero_copy_loans.specs.declared.sender.Sender.{Sender}
use Rattle.zero_copy_loans.specs.Ends.{receives_shape, sends_shape, HasBegun, HasReadAll, HasSentAll, HasWaited}
use Rattle.zero_copy_loans.specs.Ends.{received_queue, received_view, returned_view, sent_queue, sent_view, taken_view}
use Rattle.zero_copy_loans.specs.Numbers.{Shape, HasAll}
use Rattle.zero_copy_slots.specs.declared.Keeps.{Ghosts}

-- how many atomic steps the passes of both ends have counted
abbrev pub steps_of : SenderParts → ReceiverParts → ℕ
steps_of sends receives =
    (sets.view sends.pass).asked + ((sent_view sends).asked + (received_view receives).asked)
    + ((taken_view sends).asked + (returned_view receives).asked)

module _ {X K : Type 0} {rule : Ghosts K X} where
  -- the channel's set of places
  abbrev pub set_in : Channel X K rule → UniqueIndexSet
  set_in c = c.set

  -- the queue through which places are sent
  abbrev pub submission_in : Channel X K rule → QueueId
  submission_in c = queue_id c.submission

  -- the queue through which places come back
  abbrev pub completion_in : Channel X K rule → QueueId
  completion_in c = queue_id c.completion

  -- how many places the channel has
  abbrev pub places_of : Channel X K rule → ℕ
  places_of c = capacity_of (set_in c)

  -- the number that the next sender begins with
  abbrev pub next_in : Channel X K rule → ℕ
  next_in c = c.next

  -- how its words are made
  abbrev pub layout_of : Channel X K rule → Layout
  layout_of c = c.layout

  -- the channel's shape: the room of a place, how many places, and how many may wait
  abbrev pub shape_of : Channel X K rule → Shape
  shape_of c =
      record { room = (layout_of c).room; places = places_of c; capacity = (submission_in c).capacity }

  -- what it knows of the queue by which values are sent
  abbrev pub sending_view : Channel X K rule → View ℕ
  sending_view c = view c.sending

  -- what it knows of the set
  abbrev pub set_view : Channel X K rule → View ℕ
  set_view c = sets.view c.pass

  -- what the pass knows of the queue through which places come back
  abbrev pub returning_view : Channel X K rule → View ℕ
  returning_view c = view c.returning

  -- how many atomic steps its passes have counted
  abbrev pub steps_in : Channel X K rule → ℕ
  steps_in c = (set_view c).asked + (sending_view c).asked + (returning_view c).asked

  -- the channel's pass of its submission queue knows that values of exactly these numbers were sent, came
  -- back and were received
  abbrev pub HasPassedOn : List ℕ → List ℕ → List ℕ → Channel X K rule → Type 0
  HasPassedOn sent back received c = HasAll (shape_of c) sent back received (sending_view c)

  -- a sender's parts are passes of this channel's set and queues
  abbrev pub IsSenderOf : Channel X K rule → SenderParts → Type 0
  IsSenderOf c parts =
      IsPassOf (set_in c) parts.pass × (sent_queue parts ≡ submission_in c) × (queue_of parts.completion ≡ completion_in c)

  -- these parts are of a receiver of this channel
  abbrev pub IsReceiverOf : Channel X K rule → ReceiverParts → Type 0
  IsReceiverOf c parts = (received_queue parts ≡ submission_in c) × (queue_of parts.completion ≡ completion_in c)

  -- the set, both queues and the layout are the same
  abbrev pub IsSameChannel : Channel X K rule → Channel X K rule → Type 0
  IsSameChannel old new =
      (set_in new ≡ set_in old) × (submission_in new ≡ submission_in old) × (completion_in new ≡ completion_in old)
      × (layout_of new ≡ layout_of old)

  -- Passes were split off for both ends, one after the other: of the set, and two of each queue.
  pub record HasOpened (old new : Channel X K rule) (sends : SenderParts) (receives : ReceiverParts) : Type 0 where
    -- of the set's pass one was split off for the sender
    pub set : HasSplit (set_view old) (set_view new) (sets.view sends.pass)
    -- of the submission queue's pass one was split off for the sender, and then one for the receiver
    pub half : View ℕ
    pub cut : HasSplit (sending_view old) half (sent_view sends)
    pub again : HasSplit half (sending_view new) (received_view receives)
    -- of the completion queue's pass one was split off for the sender, and then one for the receiver
    pub other_half : View ℕ
    pub takes : HasSplit (returning_view old) other_half (taken_view sends)
    pub returns : HasSplit other_half (returning_view new) (returned_view receives)
    -- the sender's numbers go on from the channel's
    pub next : sends.next ≡ next_in old

  -- The passes of both were taken in again, that of the set and those of both queues: with the whole share it knows all
  -- that they sent and received, and that nothing else was.
  pub record HasRejoined (old new : Channel X K rule) (sends : SenderParts) (receives : ReceiverParts) : Type 0 where
    -- the sender's pass of the set was joined into the channel's
    pub set : HasJoined (set_view old) (sets.view sends.pass) (set_view new)
    -- both ends' passes of the submission queue were joined into the channel's
    pub half : View ℕ
    pub taken_in : HasJoined (sending_view old) (sent_view sends) half
    pub both : HasJoined half (received_view receives) (sending_view new)
    -- both ends' passes of the completion queue were joined into the channel's
    pub other_half : View ℕ
    pub took : HasJoined (returning_view old) (taken_view sends) other_half
    pub returned : HasJoined other_half (returned_view receives) (returning_view new)
    -- the channel's pass has a history of the queue's kind, and with the whole share it misses nothing
    pub history : HasHistory (submission_in old).capacity (sending_view new)
    pub all : MissesNothing (sending_view new)
    pub next : next_in new ≡ sends.next

  -- A sender made of the parts `sends` sent `count` values, of which those with the numbers `back` came back,
  -- and was taken apart into the parts `left`.
  pub record HasSentThrough (c : Channel X K rule) (sends : SenderParts) (count : ℕ) (back : List ℕ) (left : SenderParts) : Type 0 where
    pub of : IsSenderOf c left
    pub sender : Sender X K rule
    pub begun : HasBegun sends sender
    pub shape : sends_shape sender ≡ shape_of c
    pub sent : HasSentAll count back sender left

  -- A receiver made of the parts `receives` received values, of which its reader told `told`, and was taken
  -- apart into the parts `left`.
  pub record HasReadThrough {A : Type 0} (c : Channel X K rule) (receives : ReceiverParts) (tells : ℕ → A → Type 0) (told : List A)
      (left : ReceiverParts) : Type 0 where
    pub of : IsReceiverOf c left
    pub receiver : Receiver X K rule
    pub waited : HasWaited receives receiver
    pub shape : receives_shape receiver ≡ shape_of c
    pub read : HasReadAll tells told receiver left
