-- What clauses see of the ends of a stream: which numbers a sender has sent and a receiver has received,
-- whether the end came, and what was told of the values that were read.
use Rattle.std.specs.Prelude.{◌≡◌, ℕ, Bool, true, false, Option, Some, None, Result, Err, List, [], ◌∷◌, ◌++◌}
use Rattle.lock_free_queues.specs.Queues.Values.{QueueId}
use Rattle.uses_streams.specs.Ends as streams
use Rattle.zero_copy_loans.specs.Numbers.{AreTold}
use Rattle.zero_copy_slots.specs.declared.Keeps.{Ghosts}
use Rattle.zero_copy_streams.specs.declared.error.ReadAllFailure.{ReadAllFailure}
use Rattle.zero_copy_streams.specs.declared.error.ReadAllFailure.TheVariants as failures
use Rattle.zero_copy_streams.specs.declared.receiver.Found.{Found}
use Rattle.zero_copy_streams.specs.declared.receiver.Found.TheVariants as found
use Rattle.zero_copy_streams.specs.declared.receiver.Received.{Received}
use Rattle.zero_copy_streams.specs.declared.receiver.Receiver.{Receiver}
use Rattle.zero_copy_streams.specs.declared.sender.Sender.{Sender}
use Rattle.zero_copy_streams.specs.declared.sender.Sent.{Sent}
use Rattle.zero_copy_streams.specs.Tickets.{numbers_of}

-- ---- what the ends leave

-- the queue of a sender that has ended
abbrev pub sent_queue : Sent → QueueId
sent_queue s = streams.sent_queue s.tickets

-- the queue of a receiver that has ended
abbrev pub received_queue : Received → QueueId
received_queue r = streams.received_queue r.tickets

-- the numbers of the values that were sent in all
abbrev pub sent : Sent → List ℕ
sent s = numbers_of (streams.sent s.tickets)

-- the numbers of the values that were received in all
abbrev pub received : Received → List ℕ
received r = numbers_of (streams.received r.tickets)

-- whether the sender has sent the end
abbrev pub has_finished : Sent → Bool
has_finished s = streams.has_finished s.tickets

-- whether the receiver had met the end of the stream
abbrev pub has_ended : Received → Bool
has_ended r = streams.has_ended r.tickets

module _ {X K : Type 0} {rule : Ghosts K X} where
  -- ---- the sender

  -- the queue of the sender's tickets
  abbrev pub sender_queue : Sender X K rule → QueueId
  sender_queue s = streams.sender_queue s.tickets

  -- the numbers of the values that the sender has sent
  abbrev pub sent_so_far : Sender X K rule → List ℕ
  sent_so_far s = numbers_of (streams.sent_so_far s.tickets)

  -- the number that the next value gets
  abbrev pub next_of : Sender X K rule → ℕ
  next_of s = s.next

  -- the sender has sent nothing more
  abbrev pub KeepsSends : Sender X K rule → Sender X K rule → Type 0
  KeepsSends old new = (new.tickets ≡ old.tickets) × (next_of new ≡ next_of old)

  -- ---- the receiver

  -- the queue of the receiver
  abbrev pub receiver_queue : Receiver X K rule → QueueId
  receiver_queue r = streams.receiver_queue r.tickets

  -- the numbers of the values that the receiver has received
  abbrev pub received_so_far : Receiver X K rule → List ℕ
  received_so_far r = numbers_of (streams.received_so_far r.tickets)

  -- whether the receiver has met the end of the stream
  abbrev pub is_at_end : Receiver X K rule → Bool
  is_at_end r = streams.is_at_end r.tickets

-- the number of the value that was received last, and not read
abbrev pub unread : Result (Unit {0}) ReadAllFailure → List ℕ
unread (Err (failures.Unread number)) = number ∷ []
unread result = []

module _ {A : Type 0} where
  -- whether the end was found
  abbrev pub is_end : Found A → Bool
  is_end found.End = true
  is_end other = false

  -- what was found is of the value of this number
  abbrev pub IsOf : (ℕ → A → Type 0) → ℕ → Found A → Type 0
  IsOf tells number (found.Told one) = tells number one
  IsOf tells number (found.Unread other) = other ≡ number
  IsOf tells number found.End = ⊥

  module _ {X K : Type 0} {rule : Ghosts K X} (tells : ℕ → A → Type 0) where
    -- the value of one more number was received, and this is told of it; or it was not read; or none was received, at the end
    abbrev pub HasFound : Found A → Receiver X K rule → Receiver X K rule → Type 0
    HasFound (found.Told one) old new =
        (number : ℕ) × (received_so_far new ≡ received_so_far old ++ number ∷ []) × tells number one
    HasFound (found.Unread number) old new = received_so_far new ≡ received_so_far old ++ number ∷ []
    HasFound found.End old new = received_so_far new ≡ received_so_far old

    -- What `HasFound` says of what was found, and whether the end has come. If nothing was found, nothing was received, and
    -- the end has not come.
    abbrev pub HasLooked : Option (Found A) → Receiver X K rule → Receiver X K rule → Type 0
    HasLooked (Some other) old new = HasFound other old new × (is_at_end new ≡ is_end other)
    HasLooked None old new = (received_so_far new ≡ received_so_far old) × (is_at_end new ≡ false)

    -- Values were received, and what was appended is told of them, one of each, in their order. Those of the numbers
    -- here came last, and nothing is told of them.
    pub record HasRead (rest : List ℕ) (before after : List A) (old new : Receiver X K rule) : Type 0 where
      -- the numbers of the values of which something was told
      pub numbers : List ℕ
      pub told : List A
      pub received : received_so_far new ≡ received_so_far old ++ (numbers ++ rest)
      pub appended : after ≡ before ++ told
      pub of_each : AreTold tells numbers told
