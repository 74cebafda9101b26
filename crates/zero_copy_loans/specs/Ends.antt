-- What clauses see of the ends of a channel: what a sender has sent and has in its table of places, what a
-- receiver has received, and the parts of which both are made. A *view* is all that a pass or a guard knows
-- of its queue.
use Rattle.std.specs.Prelude.{◌≡◌, ◌≢◌, ◌⊎◌, ℕ, ◌+◌, ◌%◌, ◌^◌, ◌<◌, ◌≤◌, Option, Some, None, List, [], ◌∷◌, length, slice_set, vec_len}
use Rattle.std.specs.List.{range_with_len}
use Rattle.history.specs.declared.view.View.{View}
use Rattle.lock_free_loans.specs.Loan.Places.{place_at}
use Rattle.lock_free_loans.specs.Loan.Sender as loans
use Rattle.lock_free_loans.specs.declared.spsc.loan.places.Place.{Place}
use Rattle.lock_free_loans.specs.declared.spsc.loan.places.Place.TheVariants.{Free, Loaned}
use Rattle.model.specs.declared.event.Item.TheVariants.{Index}
use Rattle.lock_free_queues.specs.Queues.Rings.{QueueId, consumer_queue, consumer_view, producer_queue, producer_view, queue_of, view}
use Rattle.lock_free_queues.specs.Queues.Overflowing.{PushHandedBack}
use Rattle.lock_free_queues.specs.Queues.Contracts.{PopFoundNone, PopOldest, PushRefused}
use Rattle.lock_free_sets.specs.Unique.Contracts.{WasRefused}
use Rattle.lock_free_sets.specs.UniqueIndexSet.{set_of}
use Rattle.lock_free_loans.specs.declared.spsc.loan.LoanSender.{LoanSender}
use Rattle.zero_copy_loans.specs.declared.error.LoanFailure.{LoanFailure}
use Rattle.zero_copy_loans.specs.declared.error.LoanFailure.TheVariants.{NoPlace, NoValue, StillRead}
use Rattle.zero_copy_loans.specs.declared.error.ReadFailure.{ReadFailure}
use Rattle.zero_copy_loans.specs.declared.error.ReadFailure.TheVariants.{Slot, Other}
use Rattle.zero_copy_loans.specs.declared.receiver.Receiver.{Receiver}
use Rattle.zero_copy_loans.specs.declared.receiver.ReceiverParts.{ReceiverParts}
use Rattle.zero_copy_loans.specs.declared.receiver.Sample.{Sample}
use Rattle.zero_copy_loans.specs.declared.sender.Back.{Back}
use Rattle.zero_copy_loans.specs.declared.sender.Loan.{Loan}
use Rattle.zero_copy_loans.specs.declared.sender.Sender.{Sender}
use Rattle.zero_copy_loans.specs.declared.sender.SenderParts.{SenderParts}
use Rattle.zero_copy_loans.specs.declared.words.Layout.{Layout}
use Rattle.zero_copy_loans.specs.Numbers.{Shape, AreTold, HasSentNumbers, HasReceivedNumbers, SendsOn, ReceivesOn}
use Rattle.zero_copy_loans.specs.Words.{sender_in, word_of, IsWord}
use Rattle.zero_copy_slots.specs.Slots.{read_by, slots_in, written_by, IsUnreadable, IsUntaken}
use Rattle.zero_copy_slots.specs.declared.Keeps.{Ghosts}

-- the place of a sample, in which its value lies
abbrev pub received : Sample → ℕ
received sample = sample.place

-- the number under which the sample was sent
abbrev pub number_of : Sample → ℕ
number_of sample = sample.number

-- the numbers that came
abbrev pub numbers_of : Option Sample → List ℕ
numbers_of (Some sample) = number_of sample ∷ []
numbers_of None = []

-- the number that came back, if one did
abbrev pub numbers_back : Option Back → List ℕ
numbers_back (Some back) = back.number ∷ []
numbers_back None = []

-- the place that is written
abbrev pub loaned : {X K : Type 0} → Loan X K → ℕ
loaned loan = loan.place

-- what a sender that these parts make knows of the queue that it sends through
abbrev pub sent_view : SenderParts → View ℕ
sent_view parts = view parts.submission

-- which queue a sender of these parts sends through
abbrev pub sent_queue : SenderParts → QueueId
sent_queue parts = queue_of parts.submission

-- what a sender that these parts make knows of the queue by which places come back
abbrev pub taken_view : SenderParts → View ℕ
taken_view parts = view parts.completion

-- what a receiver that these parts make knows of the queue that it receives from
abbrev pub received_view : ReceiverParts → View ℕ
received_view parts = view parts.submission

-- which queue a receiver of these parts receives from
abbrev pub received_queue : ReceiverParts → QueueId
received_queue parts = queue_of parts.submission

-- what a receiver that these parts make knows of the queue by which places come back
abbrev pub returned_view : ReceiverParts → View ℕ
returned_view parts = view parts.completion

module _ {X K : Type 0} {rule : Ghosts K X} where
  -- ---- the sender

  -- the sender's own sender of places
  abbrev pub sender_of : Sender X K rule → LoanSender
  sender_of s = sender_in s.loans

  -- where the sender has each of its places
  abbrev pub places_of : Sender X K rule → List Place
  places_of s = loans.places_of (sender_of s)

  -- how many values the sender has that are not in a slot
  abbrev pub spares_in : Sender X K rule → ℕ
  spares_in s = vec_len s.spares

  -- the number of the value that is sent next
  abbrev pub next_of : Sender X K rule → ℕ
  next_of s = s.next

  -- how the sender makes its words, and for how many places
  abbrev pub layout_of : Sender X K rule → Layout
  layout_of s = s.layout

  -- how many places the sender has
  abbrev pub slots_of : Sender X K rule → ℕ
  slots_of s = (layout_of s).places

  -- what the sender knows of the queue that it sends through
  abbrev pub sends_view : Sender X K rule → View ℕ
  sends_view s = loans.submission_view (sender_of s)

  -- the queue through which the sender sends
  abbrev pub sends_queue : Sender X K rule → QueueId
  sends_queue s = loans.submission_of (sender_of s)

  -- the shape of the sender's channel
  abbrev pub sends_shape : Sender X K rule → Shape
  sends_shape s =
      record { room = (layout_of s).room; places = slots_of s; capacity = (sends_queue s).capacity }

  -- the word that is sent next with this place
  abbrev pub word_next : Sender X K rule → ℕ → ℕ
  word_next s place = word_of (layout_of s).room (next_of s) place

  -- there is a number under which this place can be sent next
  abbrev pub HasWord : Sender X K rule → ℕ → Type 0
  HasWord s place = IsWord (layout_of s).room (slots_of s) (next_of s) place

  -- there is no next number for this place, so nothing was sent: what was to be sent comes back
  abbrev pub IsUnsent : ℕ → Back → Sender X K rule → Sender X K rule → Type 0
  IsUnsent place back old new =
      ((slots_of old ≤ place) ⊎ (2 ^ 64 ≤ word_next old place))
      × (back.number ≡ next_of old) × (back.place ≡ place)
      × (sends_view new ≡ sends_view old) × (next_of new ≡ next_of old)

  -- the place is not Loaned here, so nothing was sent: what was to be sent comes back
  abbrev pub IsForeign : ℕ → Back → Sender X K rule → Sender X K rule → Type 0
  IsForeign place back old new =
      (¬ loans.IsLoaned place (sender_of old)) × (back.number ≡ next_of old) × (back.place ≡ place)
      × (sender_of new ≡ sender_of old) × (next_of new ≡ next_of old)

  -- What `send` answers when a value comes back. Either the queue handed its word back (the oldest that
  -- waited, or this one, if the queue takes none), or nothing was sent: there is no next number for the place
  -- (`IsUnsent`), or the place is not Loaned at this sender (`IsForeign`).
  abbrev pub HandsBack : ℕ → Back → Sender X K rule → Sender X K rule → Type 0
  HandsBack place back old new =
      (back.place < (layout_of old).room)
      × PushHandedBack (sends_queue old).capacity (word_next old place) (word_of (layout_of old).room back.number back.place)
      (sends_view old) (sends_view new)
      ⊎ IsUnsent place back old new
      ⊎ IsForeign place back old new

  -- the sender sends through the same queue, in the same way, and has sent nothing
  abbrev pub KeepsSends : Sender X K rule → Sender X K rule → Type 0
  KeepsSends old new =
      (sends_view new ≡ sends_view old) × loans.IsSame (sender_of old) (sender_of new) × (layout_of new ≡ layout_of old)
      × (next_of new ≡ next_of old)

  -- The sender has sent `count` values, with the numbers that came next, and the values with the numbers
  -- `back` came back.
  pub record HasSent (count : ℕ) (back : List ℕ) (old new : Sender X K rule) : Type 0 where
    -- the set, the queues and the layout are the same
    pub same : loans.IsSame (sender_of old) (sender_of new)
    pub layout : layout_of new ≡ layout_of old
    pub next : next_of new ≡ next_of old + count
    -- if the queue has room: whatever was sent before, these were sent next (`SendsOn`)
    pub sends : 0 < (sends_queue old).capacity
        → SendsOn (sends_shape old) (range_with_len (next_of old) count) back (sends_view old) (sends_view new)

  -- the parts are for the set and the queues of the sender
  abbrev pub IsOfSender : Sender X K rule → SenderParts → Type 0
  IsOfSender s parts =
      (set_of parts.pass ≡ loans.set_of_sender (sender_of s)) × (sent_queue parts ≡ sends_queue s)
      × (queue_of parts.completion ≡ loans.completion_of (sender_of s))

  -- the sender has sent nothing since it was made of its parts
  pub record HasBegun (parts : SenderParts) (s : Sender X K rule) : Type 0 where
    pub of : IsOfSender s parts
    pub next : next_of s ≡ parts.next
    pub sent : HasSentNumbers (sends_shape s) [] [] (sent_view parts) (sends_view s)

  -- The sender has sent `count` values, of which those with the numbers `back` came back, until it was taken
  -- apart into these parts.
  pub record HasSentAll (count : ℕ) (back : List ℕ) (s : Sender X K rule) (parts : SenderParts) : Type 0 where
    pub of : IsOfSender s parts
    pub next : parts.next ≡ next_of s + count
    pub sends : 0 < (sends_queue s).capacity
        → SendsOn (sends_shape s) (range_with_len (next_of s) count) back (sends_view s) (sent_view parts)

  -- Why there is no loan: no value was left to write, and no place changed; the set handed out no index, and
  -- the table stays; or, at `StillRead`, a place that was Free is Loaned, and there is no loan of it, since its slot was not taken.
  abbrev pub IsRefused : Sender X K rule → Sender X K rule → LoanFailure → Type 0
  IsRefused old new NoValue = (spares_in old ≡ 0) × (sender_of new ≡ sender_of old)
  IsRefused old new (NoPlace e) =
      WasRefused e (loans.pass_view (sender_of old)) (loans.pass_view (sender_of new)) × (places_of new ≡ places_of old)
  IsRefused old new (StillRead i failure) =
      (place_at (places_of old) i ≡ Free) × (places_of new ≡ slice_set (places_of old) i Loaned) × IsUntaken (written_by old.writer) i failure

  -- ---- the receiver

  -- how many places the receiver reads
  abbrev pub places_in : Receiver X K rule → ℕ
  places_in r = slots_in (read_by r.reader)

  -- what the receiver knows of the queue that it receives from
  abbrev pub receives_view : Receiver X K rule → View ℕ
  receives_view r = consumer_view r.receives

  -- what the receiver knows of the queue through which it gives back
  abbrev pub returns_view : Receiver X K rule → View ℕ
  returns_view r = producer_view r.returns

  -- the queue from which the receiver receives
  abbrev pub receives_queue : Receiver X K rule → QueueId
  receives_queue r = consumer_queue r.receives

  -- the queue through which the receiver gives back
  abbrev pub returns_queue : Receiver X K rule → QueueId
  returns_queue r = producer_queue r.returns

  -- how the receiver takes words apart
  abbrev pub layout_in : Receiver X K rule → Layout
  layout_in r = r.layout

  -- the shape of the receiver's channel
  abbrev pub receives_shape : Receiver X K rule → Shape
  receives_shape r =
      record { room = (layout_in r).room; places = places_in r; capacity = (receives_queue r).capacity }

  -- the word with which a sample was sent
  abbrev pub word_in : Receiver X K rule → Sample → ℕ
  word_in r sample = word_of (layout_in r).room (number_of sample) (received sample)

  -- Why `receive` gave no sample: the queue was empty; or it has no room at all, and nothing happened; or a
  -- word was popped that names no place.
  abbrev pub ReceivedNone : Receiver X K rule → Receiver X K rule → Type 0
  ReceivedNone old new =
      PopFoundNone (receives_view old) (receives_view new)
      ⊎ ((receives_queue old).capacity ≡ 0) × (receives_view new ≡ receives_view old)
      ⊎ (word : ℕ) × (places_in old ≤ word % (layout_in old).room) × PopOldest (Index word) (receives_view old) (receives_view new)

  -- `receive` gave no sample of the receiver as it was before each of the tries, the last one first
  abbrev pub EachReceivedNone : List (Receiver X K rule) → Receiver X K rule → Receiver X K rule → Type 0
  EachReceivedNone [] old new = new ≡ old
  EachReceivedNone (last ∷ before) old new = EachReceivedNone before old last × ReceivedNone last new

  -- so many tries, one after the other, received none
  abbrev pub TriedToReceive : ℕ → Receiver X K rule → Receiver X K rule → Type 0
  TriedToReceive tries old new = (before : List (Receiver X K rule)) × (length before ≡ tries) × EachReceivedNone before old new

  -- the receiver receives from the same queue, and gives back through the same one
  abbrev pub IsSameReceiver : Receiver X K rule → Receiver X K rule → Type 0
  IsSameReceiver old new =
      (receives_queue new ≡ receives_queue old) × (returns_queue new ≡ returns_queue old)

  -- the receiver receives in the same way, and has received nothing
  abbrev pub KeepsReceives : Receiver X K rule → Receiver X K rule → Type 0
  KeepsReceives old new =
      (receives_view new ≡ receives_view old) × IsSameReceiver old new × (layout_in new ≡ layout_in old)
      × (places_in new ≡ places_in old)

  -- The receiver has received the values of these numbers.
  pub record HasReceived (numbers : List ℕ) (old new : Receiver X K rule) : Type 0 where
    pub same : IsSameReceiver old new
    pub layout : layout_in new ≡ layout_in old
    pub places : places_in new ≡ places_in old
    pub receives : 0 < (receives_queue old).capacity
        → ReceivesOn (receives_shape old) numbers (receives_view old) (receives_view new)

  -- The receiver has received values, and its reader told `told` of them, one of each, in their order.
  pub record HasRead {A : Type 0} (tells : ℕ → A → Type 0) (told : List A) (old new : Receiver X K rule) : Type 0 where
    pub numbers : List ℕ
    pub of_each : AreTold tells numbers told
    pub received : HasReceived numbers old new

  -- the parts are for the queues of the receiver
  abbrev pub IsOfReceiver : Receiver X K rule → ReceiverParts → Type 0
  IsOfReceiver r parts =
      (received_queue parts ≡ receives_queue r) × (queue_of parts.completion ≡ returns_queue r)

  -- the receiver has received nothing since it was made of its parts
  pub record HasWaited (parts : ReceiverParts) (r : Receiver X K rule) : Type 0 where
    pub of : IsOfReceiver r parts
    pub received : HasReceivedNumbers (receives_shape r) [] (received_view parts) (receives_view r)

  -- the receiver has received the values of these numbers until it was taken apart
  pub record HasReceivedAll (numbers : List ℕ) (r : Receiver X K rule) (parts : ReceiverParts) : Type 0 where
    pub of : IsOfReceiver r parts
    pub receives : 0 < (receives_queue r).capacity
        → ReceivesOn (receives_shape r) numbers (receives_view r) (received_view parts)

  -- The receiver has received values until it was taken apart, and its reader told `told`
  -- of them, one of each.
  pub record HasReadAll {A : Type 0} (tells : ℕ → A → Type 0) (told : List A) (r : Receiver X K rule) (parts : ReceiverParts) : Type 0 where
    pub numbers : List ℕ
    pub of_each : AreTold tells numbers told
    pub received : HasReceivedAll numbers r parts

  -- why a sample is not read: its slot is not, or the failure has another number (that it lies there, no clause says)
  abbrev pub IsUnread : Receiver X K rule → Sample → ReadFailure → Type 0
  IsUnread r sample (Slot failure) = IsUnreadable (read_by r.reader) (received sample) failure
  IsUnread r sample (Other number) = number ≢ number_of sample

  -- the place was not given back: the queue was full, or its last position is reached
  abbrev pub TookNoneBack : ℕ → Receiver X K rule → Receiver X K rule → Type 0
  TookNoneBack place old new = PushRefused (returns_queue old).capacity (Index place) (returns_view old) (returns_view new)
