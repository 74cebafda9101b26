-- What clauses see of the ends of a bus: the publisher, a seat, a subscriber, and what one that left has
-- kept. A *view* is all that a pass or a guard knows of its queue, a *lane* the two queues between the
-- publisher and one subscriber.
use Rattle.std.specs.Prelude.{◌≡◌, ◌≢◌, ◌⊎◌, ℕ, ◌/◌, ◌%◌, ◌<◌, ◌≤◌, Bool, false, Ok, Err, Option, Some, None, List, [], ◌∷◌, length, slice_get, vec_len}
use Rattle.steps.specs.declared.container.enums.ContainerRemoveError.{ContainerRemoveError}
use Rattle.steps.specs.declared.indices.enums.ReleaseMode.TheVariants.{Default}
use Rattle.zero_copy_slots.specs.declared.Keeps.{Ghosts}
use Rattle.lock_free_owners.specs.Container.Handles.{knows}
use Rattle.lock_free_owners.specs.Container.Contracts.{HasAdded, IsRightRemove, WasNotAdded}
use Rattle.lock_free_owners.specs.Robust.Contracts.{WasFreed}
use Rattle.history.specs.declared.view.View.{View}
use Rattle.model.specs.declared.event.Item.TheVariants.{Index}
use Rattle.history.specs.Passes.{Goes}
use Rattle.lock_free_queues.specs.Queues.Rings.{QueueId, consumer_queue, consumer_view, producer_queue, producer_view, queue_of, view}
use Rattle.steps.specs.declared.queues.roles.Role.TheVariants as roles
use Rattle.lock_free_queues.specs.Queues.Contracts.{HasReleased, PopFoundNone, PopOldest, PushRefused}
use Rattle.threaded.specs.declared.share.Share.{Share}
use Rattle.lock_free_sets.specs.UniqueIndexSet.{SetId}
use Rattle.lock_free_owners.specs.declared.mpmc.container.ContainerHandle.{ContainerHandle}
use Rattle.zero_copy_bus.specs.declared.error.LoanFailure.{LoanFailure}
use Rattle.zero_copy_bus.specs.declared.error.LoanFailure.TheVariants.{NoSlot, NoRecord, StillRead}
use Rattle.zero_copy_bus.specs.declared.error.ReclaimFailure.{ReclaimFailure}
use Rattle.zero_copy_bus.specs.declared.error.ReclaimFailure.TheVariants.{NotHeld, InUse}
use Rattle.zero_copy_bus.specs.declared.error.SubscribeFailure.{SubscribeFailure}
use Rattle.zero_copy_bus.specs.declared.error.SubscribeFailure.TheVariants.{NoSeat, NotLetIn, NotSeen, NotRemoved}
use Rattle.zero_copy_bus.specs.declared.holders.Holders.{Holders}
use Rattle.zero_copy_bus.specs.declared.outlet.Outlet.{Outlet}
use Rattle.zero_copy_bus.specs.declared.lane.Inlet.{Inlet}
use Rattle.zero_copy_bus.specs.declared.loan.Emptied.{Emptied}
use Rattle.zero_copy_bus.specs.declared.loan.Loan.{Loan}
use Rattle.zero_copy_bus.specs.declared.publisher.Publisher.{Publisher}
use Rattle.zero_copy_bus.specs.declared.roll.Roll.{Roll}
use Rattle.zero_copy_bus.specs.declared.subscriber.Left.{Left}
use Rattle.zero_copy_bus.specs.declared.subscriber.Sample.{Sample}
use Rattle.zero_copy_bus.specs.declared.subscriber.Seat.{Seat}
use Rattle.zero_copy_bus.specs.declared.subscriber.Subscriber.{Subscriber}
use Rattle.zero_copy_bus.specs.Outlets.{holder_of, holders_in, open_in, waits_queue, AtLane, EachLane, EachOther}
use Rattle.zero_copy_bus.specs.Outlets.{HasGivenBack, IsSettled, KeepsRest, StaysOrLost}
use Rattle.zero_copy_bus.specs.Outlets.{WasLetOf}
use Rattle.zero_copy_bus.specs.Pools as pools
use Rattle.zero_copy_bus.specs.Books.{holders_at, CanSend, ChangesAt, IsLoaned, LoansStay, MoreLoansAreAlone, SubscribersGainNone}
use Rattle.zero_copy_bus.specs.Holders.{is_held, publisher}
use Rattle.zero_copy_bus.specs.Rolls.{HasLooked}
use Rattle.zero_copy_bus.specs.Sequences.{Delivers}
use Rattle.zero_copy_loans.specs.Numbers.{Shape, ReceivesOn}
use Rattle.zero_copy_loans.specs.Words.{word_of, IsWord}
use Rattle.zero_copy_loans.specs.declared.error.ReadFailure.{ReadFailure}
use Rattle.zero_copy_loans.specs.declared.error.ReadFailure.TheVariants.{Slot, Other}
use Rattle.zero_copy_loans.specs.declared.words.Layout.{Layout}
use Rattle.zero_copy_slots.specs.declared.Slots.{Slots}
use Rattle.zero_copy_slots.specs.Slots.{read_by, slots_in, written_by, IsUnreadable, IsUntaken}

-- Why a loan was refused, and what it did to the table. After `StillRead` the publisher holds that slot,
-- which nobody held, and it was not taken. Otherwise the table is unchanged, and at `NoRecord` no record to write was left.
abbrev pub IsTakenFor : {X K : Type 0} {rule : Ghosts K X} → Slots X K rule → ℕ → List Holders → List Holders → LoanFailure → Type 0
IsTakenFor records spares old new (StillRead slot failure) =
    (is_held (holders_at old slot) ≡ false) × ChangesAt slot publisher old new × IsLoaned new slot × IsUntaken records slot failure
IsTakenFor records spares old new (NoSlot e) = new ≡ old
IsTakenFor records spares old new NoRecord = (new ≡ old) × (spares ≡ 0)

-- the slot of a sample, in which its record lies
abbrev pub received : Sample → ℕ
received sample = sample.slot

-- the number with which the sample's record was published
abbrev pub number_of : Sample → ℕ
number_of sample = sample.number

-- the number of the sample that a call returned, if it returned one
abbrev pub numbers_of : Option Sample → List ℕ
numbers_of (Some sample) = number_of sample ∷ []
numbers_of None = []

-- the slot of a loan, which the publisher writes
abbrev pub loaned : {X K : Type 0} → Loan X K → ℕ
loaned loan = loan.slot

-- the slot that a reclaim left empty
abbrev pub emptied : Emptied → ℕ
emptied e = e.slot

-- what the pass of a subscriber that left knows of the registry
abbrev pub members_left : Left → View ℕ
members_left left = knows left.members

-- what its pass knows of the queue from which it received
abbrev pub receives_left : Left → View ℕ
receives_left left = view left.submission

-- what its pass knows of the queue by which it gave slots back
abbrev pub returns_left : Left → View ℕ
returns_left left = view left.completion

-- which queue the subscriber that left received from
abbrev pub queue_left : Left → QueueId
queue_left left = queue_of left.submission

-- the place of the lane that the subscriber that left had
abbrev pub place_left : Left → ℕ
place_left left = left.place

-- how a lane's words are made of a number and a slot, and how many of them wait at most
abbrev pub shape_of : Layout → QueueId → Shape
shape_of layout queue = record { room = layout.room; places = layout.places; capacity = queue.capacity }

module _ {X K : Type 0} {rule : Ghosts K X} where
  -- ---- the publisher

  -- who holds each slot
  abbrev pub table_of : Publisher X K rule → List Holders
  table_of p = pools.table_of p.pool

  -- how many slots the publisher's pool has
  abbrev pub slots_of : Publisher X K rule → ℕ
  slots_of p = pools.slots_of p.pool

  -- the number of the record that is published next
  abbrev pub next_of : Publisher X K rule → ℕ
  next_of p = p.next

  -- how many records are not in a slot
  abbrev pub spares_in : Publisher X K rule → ℕ
  spares_in p = vec_len p.spares

  -- how the publisher makes a word of a number and a slot
  abbrev pub layout_of : Publisher X K rule → Layout
  layout_of p = p.layout

  -- the factor of the number in a word: a word is number * room + slot
  abbrev pub room_of : Publisher X K rule → ℕ
  room_of p = (layout_of p).room

  -- the next number and this slot make a word: there is such a slot, and the word is below 2^64
  abbrev pub HasNumber : Publisher X K rule → ℕ → Type 0
  HasNumber p slot = IsWord (room_of p) (slots_of p) (next_of p) slot

  -- the slots that the publisher writes
  abbrev pub records_of : Publisher X K rule → Slots X K rule
  records_of p = written_by p.records

  -- why a slot is not reclaimed: the publisher does not hold it, or the slot's word says that it is read or
  -- written, or changed
  abbrev pub IsKept : ℕ → Publisher X K rule → ReclaimFailure → Type 0
  IsKept slot p NotHeld = ¬ IsLoaned (table_of p) slot
  IsKept slot p (InUse failure) = IsUntaken (records_of p) slot failure

  -- of which set of free slots the publisher's pass is
  abbrev pub set_in : Publisher X K rule → SetId
  set_in p = pools.set_in p.pool

  -- which share of that set's history the publisher's pass has
  abbrev pub share_in : Publisher X K rule → Share
  share_in p = pools.share_in p.pool

  -- the publisher's ends of all lanes, by their places
  abbrev pub lanes_of : Publisher X K rule → List Outlet
  lanes_of p = p.outlets.items

  -- the publisher's end of the registry, with the last state that it copied
  abbrev pub roll_of : Publisher X K rule → Roll
  roll_of p = p.roll

  -- the slot is on loan, and no lane's subscriber holds it
  abbrev pub CanSendToAll : Publisher X K rule → ℕ → Type 0
  CanSendToAll p slot =
      (place : ℕ) (lane : Outlet) → slice_get (lanes_of p) place ≡ Some lane → CanSend (table_of p) slot (holder_of lane)

  -- the queue that the subscriber received from is that of the publisher's lane at its place
  abbrev pub IsOfLane : Left → Publisher X K rule → Type 0
  IsOfLane left p =
      (lane : Outlet) × (slice_get (lanes_of p) (place_left left) ≡ Some lane) × (queue_left left ≡ waits_queue lane)

  -- It is the same publisher of the same bus, whatever its table, its numbers and its
  -- lanes' tenancies are now.
  pub record IsSame (old new : Publisher X K rule) : Type 0 where
    pub pool : pools.IsSame old.pool new.pool
    pub records : records_of new ≡ records_of old
    pub layout : layout_of new ≡ layout_of old
    pub lanes : holders_in (lanes_of new) ≡ holders_in (lanes_of old)

  -- What tries to loan do (`collect` and `loan`, any number of times, of which the last
  -- may have given a loan).
  pub record HasTried (old new : Publisher X K rule) : Type 0 where
    -- each slot on loan stays on loan, a slot that has come on loan no subscriber holds, and no subscriber
    -- gains a slot
    pub loans : LoansStay (table_of old) (table_of new)
    pub alone : MoreLoansAreAlone (table_of old) (table_of new)
    pub gains : SubscribersGainNone (table_of old) (table_of new)
    -- each subscriber holds what he held, except the slots that came back; bits without a lane are unchanged
    pub back : EachLane (HasGivenBack (table_of old) (table_of new)) (lanes_of old) (lanes_of new)
    pub rest : KeepsRest (lanes_of old) (table_of old) (table_of new)
    -- the same lanes take part, and no number is used
    pub taking : open_in (lanes_of new) ≡ open_in (lanes_of old)
    pub same : IsSame old new
    pub next : next_of new ≡ next_of old

  -- ---- a subscriber

  -- how many slots the bus of the subscriber has
  abbrev pub slots_at : Subscriber X K rule → ℕ
  slots_at s = slots_in (read_by s.records)

  -- how many slots the bus of the seat has
  abbrev pub slots_before : Seat X K rule → ℕ
  slots_before s = slots_in (read_by s.records)

  -- the place of the lane whose subscriber's end the seat has
  abbrev pub place_before : Seat X K rule → ℕ
  place_before s = s.place

  -- the place of the subscriber's lane
  abbrev pub place_at : Subscriber X K rule → ℕ
  place_at s = s.place

  -- how who takes the seat is to take a word apart into a number and a slot
  abbrev pub layout_before : Seat X K rule → Layout
  layout_before s = s.layout

  -- how the subscriber takes a word apart into a number and a slot
  abbrev pub layout_at : Subscriber X K rule → Layout
  layout_at s = s.layout

  -- the least number of a record that a subscriber of this seat receives
  abbrev pub first_before : Seat X K rule → ℕ
  first_before s = s.first

  -- the least number of a record that the subscriber receives from now on
  abbrev pub expected_at : Subscriber X K rule → ℕ
  expected_at s = s.expected

  -- the word that was published for this sample
  abbrev pub word_at : Subscriber X K rule → Sample → ℕ
  word_at s sample = word_of (layout_at s).room (number_of sample) (received sample)

  -- the handle of the subscriber's record in the registry: an index with its owner
  abbrev pub record_of : Subscriber X K rule → ContainerHandle
  record_of s = s.record

  -- why a sample is not read: its slot is not, or the failure has another number (that it lies there, no clause says)
  abbrev pub IsUnread : Subscriber X K rule → Sample → ReadFailure → Type 0
  IsUnread s sample (Slot failure) = IsUnreadable (read_by s.records) (received sample) failure
  IsUnread s sample (Other number) = number ≢ number_of sample

  -- the subscriber's end of the lane, which the seat has
  abbrev pub inlet_before : Seat X K rule → Inlet
  inlet_before s = s.inlet

  -- the subscriber's end of the lane
  abbrev pub inlet_at : Subscriber X K rule → Inlet
  inlet_at s = s.inlet

  -- what the seat's guard knows of the queue to receive from
  abbrev pub receives_before : Seat X K rule → View ℕ
  receives_before s = consumer_view s.inlet.receives

  -- which queue the seat's guard receives from
  abbrev pub receives_at : Seat X K rule → QueueId
  receives_at s = consumer_queue s.inlet.receives

  -- what the seat's handle knows of the registry
  abbrev pub members_before : Seat X K rule → View ℕ
  members_before s = knows s.members

  -- what the subscriber's handle knows of the registry
  abbrev pub members_view : Subscriber X K rule → View ℕ
  members_view s = knows s.members

  -- the registry was given a record of the seat's place, by this owner
  abbrev pub IsLetIn : ℕ → Seat X K rule → Subscriber X K rule → Type 0
  IsLetIn owner seat s =
      HasAdded (record { value = place_before seat; owner = owner }) (Ok (record_of s).index)
      (members_before seat) (members_view s)

  -- the registry was asked to remove its record, and refused to: at the last step of that call its owner did not have its index
  abbrev pub WasKept : Subscriber X K rule → Subscriber X K rule → ContainerRemoveError → Type 0
  WasKept old new failure =
      IsRightRemove (record { index = (record_of old).index; owner = (record_of old).owner; mode = Default }) (Err failure)
      (members_view old) (members_view new)

  -- The subscriber is unchanged, except for what its handle knows of the registry.
  pub record IsAgain (old new : Subscriber X K rule) : Type 0 where
    pub inlet : inlet_at new ≡ inlet_at old
    pub named : record_of new ≡ record_of old
    pub expected : expected_at new ≡ expected_at old
    pub slots : slots_at new ≡ slots_at old
    pub layout : layout_at new ≡ layout_at old
    pub place : place_at new ≡ place_at old

  -- what the subscriber's guard knows of the queue from which it receives
  abbrev pub receives_view : Subscriber X K rule → View ℕ
  receives_view s = consumer_view s.inlet.receives

  -- what its guard knows of the queue by which it gives slots back
  abbrev pub returns_view : Subscriber X K rule → View ℕ
  returns_view s = producer_view s.inlet.returns

  -- which queue the subscriber receives from
  abbrev pub receives_queue : Subscriber X K rule → QueueId
  receives_queue s = consumer_queue s.inlet.receives

  -- which queue the subscriber gives slots back by
  abbrev pub returns_queue : Subscriber X K rule → QueueId
  returns_queue s = producer_queue s.inlet.returns

  -- Words with the numbers `came` were popped from the lane, and of these the subscriber received the records
  -- with the numbers `delivered`. (A word that names no slot counts as none that was sent.)
  pub record HasHad (came delivered : List ℕ) (old new : Subscriber X K rule) : Type 0 where
    -- the subscriber's queue, layout and place are the same
    pub queue : receives_queue new ≡ receives_queue old
    pub layout : layout_at new ≡ layout_at old
    pub place : place_at new ≡ place_at old
    -- if the queue has room: whatever numbers had come before, these came next (`ReceivesOn`)
    pub receives : 0 < (receives_queue old).capacity
        → ReceivesOn (shape_of (layout_at old) (receives_queue old)) came (receives_view old) (receives_view new)
    -- each number that came was delivered, unless it was below the number expected then
    pub delivers : Delivers (expected_at old) came delivered (expected_at new)

  -- The subscriber left, and released its receiving role. `left` has the pass of the same
  -- queue and the same place.
  pub record HasLeft (s : Subscriber X K rule) (left : Left) : Type 0 where
    pub queue : queue_left left ≡ receives_queue s
    pub place : place_left left ≡ place_at s
    -- the pass has the history of the guard, and goes on from it (`Goes`)
    pub goes : Goes (receives_view s) (receives_left left)
    pub released : HasReleased roles.Consumer (receives_view s) (receives_left left)

  -- Why `receive` gave no sample: the lane was empty; or the queue has no room at all, and nothing happened;
  -- or a word was popped that names no slot, or a number below the one expected.
  abbrev pub ReceivedNone : Subscriber X K rule → Subscriber X K rule → Type 0
  ReceivedNone old new =
      PopFoundNone (receives_view old) (receives_view new)
      ⊎ ((receives_queue old).capacity ≡ 0) × (receives_view new ≡ receives_view old)
      ⊎ (word : ℕ) × ((slots_at old ≤ word % (layout_at old).room) ⊎ (word / (layout_at old).room < expected_at old))
      × PopOldest (Index word) (receives_view old) (receives_view new)

  -- `receive` gave no sample of the subscriber as it was before each of the tries, the last one first
  abbrev pub EachReceivedNone : List (Subscriber X K rule) → Subscriber X K rule → Subscriber X K rule → Type 0
  EachReceivedNone [] old new = new ≡ old
  EachReceivedNone (last ∷ before) old new = EachReceivedNone before old last × ReceivedNone last new

  -- so many tries, one after the other, received none
  abbrev pub TriedToReceive : ℕ → Subscriber X K rule → Subscriber X K rule → Type 0
  TriedToReceive tries old new = (before : List (Subscriber X K rule)) × (length before ≡ tries) × EachReceivedNone before old new

  -- The slot was not given back: the queue of returns was full, or its last position is reached.
  abbrev pub TookNoneBack : ℕ → Subscriber X K rule → Subscriber X K rule → Type 0
  TookNoneBack slot old new = PushRefused (returns_queue old).capacity (Index slot) (returns_view old) (returns_view new)

  -- the last pop took the word of this sample out
  abbrev pub TookOut : Sample → Subscriber X K rule → Subscriber X K rule → Type 0
  TookOut sample old new = (waited : View ℕ) × PopOldest (Index (word_at old sample)) waited (receives_view new)

  -- the lane of the subscriber's place does not take part
  abbrev pub IsHidden : Subscriber X K rule → Publisher X K rule → Type 0
  IsHidden s p = slice_get (open_in (lanes_of p)) (place_at s) ≡ Some false

  -- What `subscribe` did to the lanes: first one was let to the subscriber (`seat`), and then all were
  -- settled by the state of the registry that the publisher copied (`update`).
  pub record WasSeated (old new : Publisher X K rule) (s : Subscriber X K rule) : Type 0 where
    -- the lanes between the two
    pub between : List Outlet
    pub holders : holders_in between ≡ holders_in (lanes_of old)
    -- the lane of the subscriber's place was let to it; any other is unchanged, or was free and is lost
    pub leased : AtLane (place_at s) (WasLetOf (receives_queue s) (receives_view s)) (lanes_of old) between
    pub others : EachOther (place_at s) StaysOrLost (lanes_of old) between
    -- then each lane was settled, and bits without a lane are unchanged
    pub settled : EachLane (IsSettled (roll_of new) (table_of old) (table_of new)) between (lanes_of new)
    pub rest : KeepsRest between (table_of old) (table_of new)

  -- A subscriber was let in as this owner, at a lane that was let to it. Then the publisher looked at the
  -- registry, and the state that it copied does not show this lane's place as taking part.
  pub record WasNotShown (owner : ℕ) (old new : Publisher X K rule) (s : Subscriber X K rule) : Type 0 where
    pub its : (record_of s).owner ≡ owner
    pub seated : WasSeated old new s
    pub changed : Bool
    pub looked : HasLooked changed (roll_of old) (roll_of new)
    pub hidden : IsHidden s new

  -- Why one did not subscribe. Nobody was given a lane; or the registry refused one who had a seat, and the other lanes stay; either
  -- way each has the slots that he had. Or one was let in whom the look does not show, and it has left again, or the registry
  -- refused to remove it.
  abbrev pub WasNotSubscribed : ℕ → Publisher X K rule → Publisher X K rule → SubscribeFailure → Type 0
  WasNotSubscribed owner old new NoSeat = EachLane StaysOrLost (lanes_of old) (lanes_of new) × (table_of new ≡ table_of old)
  WasNotSubscribed owner old new (NotLetIn failure) =
      (seat : Seat X K rule) × (left : Seat X K rule)
      × AtLane (place_before seat) (WasLetOf (receives_at seat) (receives_before seat)) (lanes_of old) (lanes_of new)
      × EachOther (place_before seat) StaysOrLost (lanes_of old) (lanes_of new)
      × WasNotAdded (place_before seat) owner failure (members_before seat) (members_before left)
      × (table_of new ≡ table_of old)
  WasNotSubscribed owner old new NotSeen =
      (s : Subscriber X K rule) × (left : Left) × WasNotShown owner old new s
      × WasFreed (record_of s).index (record_of s).owner (members_view s) (members_left left) × HasLeft s left
  WasNotSubscribed owner old new (NotRemoved failure) =
      (s : Subscriber X K rule) × (t : Subscriber X K rule) × WasNotShown owner old new s × WasKept s t failure × IsAgain s t
