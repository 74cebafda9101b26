-- What clauses see of the publisher's ends of the lanes (`Outlet`), and what each call of the publisher does
-- to a lane: a seat lets it, `publish` sends by it, `collect` takes back by it, `update` settles it, `rejoin`
-- takes its passes in. A *view* is all that a pass or a guard knows of its queue.
use Rattle.std.specs.Prelude.{◌≡◌, ◌≢◌, ◌⊎◌, ◌↔◌, ℕ, ◌+◌, ◌-◌, ◌<◌, ◌==◌, ◌&&◌, Bool, true, false, not, Option, Some, None}
use Rattle.std.specs.Prelude.{List, ◌++◌, length, map, slice_get, Contains, IsTrue, is_some}
use Rattle.std.specs.Int.{bit_at}
use Rattle.history.specs.Views.{first_view}
use Rattle.history.specs.declared.view.View.{View}
use Rattle.history.specs.Passes.{Goes, MissesNothing}
use Rattle.model.specs.declared.event.Item.TheVariants.{Index}
use Rattle.lock_free_queues.specs.Queues.Overflowing.{HasHistory, PushAdded, PushHandedBack}
use Rattle.model.specs.Families.Queues.Reading.{handed_out, published}
use Rattle.lock_free_queues.specs.Queues.Rings.{QueueId, consumer_view, producer_view, queue_of, view}
use Rattle.lock_free_queues.specs.Queues.Contracts.{FoundNone, HasAcquired, HasJoined, HasReleased, HasSplit}
use Rattle.steps.specs.declared.queues.roles.Role.TheVariants as roles
use Rattle.lock_free_queues.specs.declared.spsc.ring.Producer.{Producer}
use Rattle.lock_free_queues.specs.declared.spsc.ring.rule.Kind as kinds
use Rattle.steps.specs.declared.words.Words.{Ghosts}
use Rattle.zero_copy_bus.specs.declared.holders.Holder.{Holder}
use Rattle.zero_copy_bus.specs.declared.holders.Holders.{Holders}
use Rattle.zero_copy_bus.specs.declared.outlet.Outlet.{Outlet}
use Rattle.zero_copy_bus.specs.declared.outlet.Tenancy.{Tenancy}
use Rattle.zero_copy_bus.specs.declared.outlet.Tenancy.TheVariants.{Free, Closed, Open, Lost}
use Rattle.zero_copy_bus.specs.declared.roll.Roll.{Roll}
use Rattle.zero_copy_bus.specs.Books.{holders_at, CanSend, Exchanges, HasNone, HasSlot, KeepsBit, KeepsSlots}
use Rattle.zero_copy_bus.specs.Holders.{bit_of}
use Rattle.zero_copy_bus.specs.Rolls.{IsShown}
use Rattle.zero_copy_bus.specs.Words.{slot_back, TakesOn}
use Rattle.zero_copy_loans.specs.Words.{word_of}

-- the holder whose bit stands for the lane's subscriber in the table of slots
abbrev pub holder_of : Outlet → Holder
holder_of lane = lane.holder

-- the place of the lane: its holder's bit less 1, since bit 0 stands for the publisher
abbrev pub place_of : Outlet → ℕ
place_of lane = bit_of (holder_of lane) - 1

-- the publisher has seen that nobody has the subscriber's end of the lane, so it can be let
abbrev pub IsFree : Outlet → Type 0
IsFree lane = lane.tenancy ≡ Free

-- the queue by which slots go out to the subscriber
abbrev pub waits_queue : Outlet → QueueId
waits_queue lane = queue_of lane.waits

-- what the lane's pass knows of that queue. The passes of both ends are split off from this pass.
abbrev pub waits_view : Outlet → View ℕ
waits_view lane = view lane.waits

-- the publisher's guard that pushes into that queue is there
abbrev pub has_end : Outlet → Bool
has_end lane = is_some lane.sends

module _ {E : Type 0} {kind : kinds.Ghosts E} {words : Ghosts ℕ} where
  -- what the guard knows of the queue, or `v` if there is no guard
  abbrev pub end_view : View ℕ → Option (Producer E ℕ kind words) → View ℕ
  end_view v (Some end) = producer_view end
  end_view v None = v

-- what the publisher's guard knows of the queue by which slots go out; the lane's pass stands for a guard
-- that is not there
abbrev pub sends_view : Outlet → View ℕ
sends_view lane = end_view (waits_view lane) lane.sends

-- what is known of the queue by which slots come back
abbrev pub takes_view : Outlet → View ℕ
takes_view lane = consumer_view lane.takes

-- the subscriber's end was given to somebody, and the lane was not freed since
abbrev pub lets : Tenancy → Bool
lets Free = false
lets Closed = true
lets Open = true
lets Lost = false

-- a pass of the lane was refused or is gone, so nobody gets the subscriber's end any more
abbrev pub is_lost : Tenancy → Bool
is_lost Free = false
is_lost Closed = false
is_lost Open = false
is_lost Lost = true

-- the tenancy after `rejoin`: an Open lane becomes Closed, any other stays as it was
abbrev pub closes : Tenancy → Tenancy
closes Free = Free
closes Closed = Closed
closes Open = Closed
closes Lost = Lost

-- the lane is let, and the publisher's guard is there
abbrev pub is_let : Outlet → Bool
is_let lane = lets lane.tenancy && has_end lane

-- the lane's subscriber takes part
abbrev pub opens : Tenancy → Bool
opens Free = false
opens Closed = false
opens Open = true
opens Lost = false

-- the subscriber takes part, and the publisher's guard is there: `publish` serves this lane
abbrev pub is_open : Outlet → Bool
is_open lane = opens lane.tenancy && has_end lane

-- the publisher's guard and the lane's pass of the queue by which slots go out are unchanged
pub record SamePasses (old new : Outlet) : Type 0 where
  pub sends : new.sends ≡ old.sends
  pub waits : new.waits ≡ old.waits

-- The tenancy of the lane and both its passes are unchanged.
pub record IsStill (old new : Outlet) : Type 0 where
  pub tenancy : new.tenancy ≡ old.tenancy
  pub passes : SamePasses old new

-- the lane is unchanged, or it was free and is lost: nobody gets its subscriber's end any more
abbrev pub StaysOrLost : (old new : Outlet) → Type 0
StaysOrLost old new = IsStill old new ⊎ IsFree old × (new.tenancy ≡ Lost)

-- A free lane stays free or is lost. A lane whose subscriber takes part before and after
-- keeps both its passes.
pub record OthersStay (old new : Outlet) : Type 0 where
  pub free : IsFree old → StaysOrLost old new
  pub taking : IsTrue (is_open old) → IsTrue (is_open new) → SamePasses old new

-- each queue of the lane was found empty by a pop at a moment after all that was known of it (the queue that
-- goes out only if it has room)
abbrev pub FoundEmpty : (old new : Outlet) → Type 0
FoundEmpty old new =
    (0 < (waits_queue old).capacity → FoundNone (waits_view old) (waits_view new)) × FoundNone (takes_view old) (takes_view new)

-- ---- the passes of a lane, from where it is let until they are taken in

-- Nobody has had the lane: there is no guard yet, and its pass knows what the first pass of its queue knows.
pub record IsNew (lane : Outlet) : Type 0 where
  -- nobody has the subscriber's end, and the publisher has no guard
  pub free : IsFree lane
  pub none : lane.sends ≡ None
  -- the lane's pass has the whole share of a queue in which nothing has happened
  pub first : waits_view lane ≡ first_view (waits_queue lane).capacity

-- The lane was let. From its pass one pass was split off for the publisher's guard and one for the
-- subscriber's end, and each acquired its role of the queue. `theirs` is what the subscriber's guard knows.
pub record WasLet (theirs : View ℕ) (old new : Outlet) : Type 0 where
  -- the lane was free and is let, and its queue is the same
  pub free : IsFree old
  pub is : is_let new ≡ true
  pub queue : waits_queue new ≡ waits_queue old
  -- the view of the pass that was split: the lane's own, if there was no guard before
  pub whole : View ℕ
  pub from : old.sends ≡ None → whole ≡ waits_view old
  -- `ours` was split off for the guard, and then `other` for the subscriber
  pub ours : View ℕ
  pub half : View ℕ
  pub other : View ℕ
  pub cut : HasSplit whole half ours
  pub again : HasSplit half (waits_view new) other
  -- each acquired its role, and its history goes on from the split (`Goes`)
  pub begins : Goes ours (sends_view new) × HasAcquired roles.Producer true ours (sends_view new)
  pub waits : Goes other theirs × HasAcquired roles.Consumer true other theirs

-- the lane was let (`WasLet`) to a subscriber whose guard is of this queue
abbrev pub WasLetOf : QueueId → View ℕ → (old new : Outlet) → Type 0
WasLetOf queue theirs old new = (queue ≡ waits_queue old) × WasLet theirs old new

-- The publisher's guard released its role, and its pass was joined into the lane's pass,
-- which then knows `joined`.
pub record WasEnded (old : Outlet) (joined : View ℕ) : Type 0 where
  -- what the guard's pass knew once the role was released: its history goes on from the guard's (`Goes`)
  pub ended : View ℕ
  pub goes : Goes (sends_view old) ended
  pub released : HasReleased roles.Producer (sends_view old) ended
  -- nothing was published meanwhile
  pub list : published ended.seen ≡ published (sends_view old).seen
  -- the lane's pass and the guard's were joined
  pub both : HasJoined (waits_view old) ended joined

-- The publisher's guard was taken in (`WasEnded`), and then the subscriber's pass, which knew `theirs`. If
-- the lane's pass then has the whole share, it knows all that went out by the lane, and what became of it.
pub record WasTakenIn (theirs : View ℕ) (old new : Outlet) : Type 0 where
  -- what the lane's pass knew once the guard was taken in
  pub half : View ℕ
  pub ours : WasEnded old half
  -- then the subscriber's pass was joined, and the publisher has no guard now
  pub both : HasJoined half theirs (waits_view new)
  pub queue : waits_queue new ≡ waits_queue old
  pub none : new.sends ≡ None
  -- with the whole share, what the lane's pass has seen is all that it has made; its history is
  -- one of the queue's kind
  pub all : MissesNothing (waits_view new)
  pub history : HasHistory (waits_queue new).capacity (waits_view new)

-- After `rejoin` an Open lane is Closed, and the tenancy of any other is unchanged. The queue is the same,
-- and the guard that takes returned slots is unchanged.
pub record IsLeftBehind (old new : Outlet) : Type 0 where
  pub tenancy : new.tenancy ≡ closes old.tenancy
  pub queue : waits_queue new ≡ waits_queue old
  pub takes : new.takes ≡ old.takes

-- The publisher had no guard of the lane, and the subscriber's pass, which knew `theirs`, was joined into the
-- lane's pass. If that then has the whole share, it knows all that went out by the lane.
pub record WasJoined (theirs : View ℕ) (old new : Outlet) : Type 0 where
  pub both : HasJoined (waits_view old) theirs (waits_view new)
  pub none : new.sends ≡ None
  -- with the whole share, what the lane's pass has seen is all that it has made; its history is
  -- one of the queue's kind
  pub all : MissesNothing (waits_view new)
  pub history : HasHistory (waits_queue new).capacity (waits_view new)

-- what `rejoin` does to a lane: if the publisher had its guard, both passes were taken in (`WasTakenIn`), and
-- else the subscriber's alone (`WasJoined`)
abbrev pub WasRejoined : View ℕ → (old new : Outlet) → Type 0
WasRejoined theirs old new =
    IsLeftBehind old new × (IsTrue (has_end old) → WasTakenIn theirs old new) × (old.sends ≡ None → WasJoined theirs old new)

-- The queue by which slots go out was emptied by the publisher: a pass was split off the lane's, acquired the
-- receiving role, popped words, released the role and was joined again.
pub record WasDrained (old new : Outlet) : Type 0 where
  -- what the passes knew: the lane's and the new one after the split, the new one with the role, after its
  -- pops, and once the role was released
  pub kept : View ℕ
  pub other : View ℕ
  pub begun : View ℕ
  pub ended : View ℕ
  pub left : View ℕ
  -- the split, the acquire, the pops of these words, the release and the join
  pub cut : HasSplit (waits_view old) kept other
  pub begins : Goes other begun × HasAcquired roles.Consumer true other begun
  pub took : 0 < (waits_queue old).capacity → (words : List ℕ) × TakesOn words begun ended
  pub ends : Goes ended left × HasReleased roles.Consumer ended left
  pub both : HasJoined kept left (waits_view new)
  -- the queue is the same; with the whole share, what the lane's pass has seen is all that it has made
  pub queue : waits_queue new ≡ waits_queue old
  pub all : MissesNothing (waits_view new)
  pub history : HasHistory (waits_queue new).capacity (waits_view new)

-- ---- the lanes of a bus, by their places

-- the holder of each lane, in the order of their places
abbrev pub holders_in : List Outlet → List Holder
holders_in lanes = map holder_of lanes

-- of each lane whether its subscriber takes part
abbrev pub open_in : List Outlet → List Bool
open_in lanes = map is_open lanes

-- the holder of the lane at a place has the bit place + 1
abbrev pub HaveTheirPlaces : List Holder → Type 0
HaveTheirPlaces holders =
    (place : ℕ) (holder : Holder) → slice_get holders place ≡ Some holder → bit_of holder ≡ place + 1

-- each lane whose subscriber takes part has its place in the last copied state of the registry
abbrev pub AreShown : Roll → List Bool → Type 0
AreShown roll taking = (place : ℕ) → slice_get taking place ≡ Some true → IsShown roll place

-- no lane's subscriber takes part
abbrev pub NobodyTakesPart : List Bool → Type 0
NobodyTakesPart taking = (place : ℕ) → slice_get taking place ≢ Some true

-- `R` holds of each lane, between how it was and how it is
abbrev pub EachLane : (Outlet → Outlet → Type 0) → List Outlet → List Outlet → Type 0
EachLane R olds news =
    (place : ℕ) (old : Outlet) → slice_get olds place ≡ Some old
    → (new : Outlet) × (slice_get news place ≡ Some new) × R old new

-- `R` holds of each lane but the one at place `but`, between how it was and how it is
abbrev pub EachOther : ℕ → (Outlet → Outlet → Type 0) → List Outlet → List Outlet → Type 0
EachOther but R olds news =
    (place : ℕ) (old : Outlet) → place ≢ but → slice_get olds place ≡ Some old
    → (new : Outlet) × (slice_get news place ≡ Some new) × R old new

-- there is a lane at this place, and `R` holds between how it was and how it is
abbrev pub AtLane : ℕ → (Outlet → Outlet → Type 0) → List Outlet → List Outlet → Type 0
AtLane place R olds news =
    (old : Outlet) × (new : Outlet) × (slice_get olds place ≡ Some old) × (slice_get news place ≡ Some new) × R old new

-- nobody has had any of the lanes
abbrev pub AllNew : List Outlet → Type 0
AllNew lanes = (place : ℕ) (lane : Outlet) → slice_get lanes place ≡ Some lane → IsNew lane

-- a bit above the last lane's stands for nobody: in the table it is unchanged at each slot
abbrev pub KeepsRest : List Outlet → List Holders → List Holders → Type 0
KeepsRest lanes old new = (i : ℕ) → length lanes < i → i < 64 → KeepsBit i old new

-- ---- a publish

-- what the push of the word handed back: nothing, the oldest word if the queue was full, or the word itself
-- if the queue did not take it
abbrev pub HasPushed : ℕ → Option ℕ → (old new : Outlet) → Type 0
HasPushed word None old new = PushAdded word (sends_view old) (sends_view new)
HasPushed word (Some back) old new =
    PushHandedBack (waits_queue old).capacity word back (sends_view old) (sends_view new)

-- The word of the slot and the number was pushed into the lane. In the table its subscriber now holds the
-- slot and what he held before, except a slot that the push handed back.
pub record IsSent (room number slot : ℕ) (before after : List Holders) (old new : Outlet) : Type 0 where
  -- what the push handed back, if anything
  pub back : Option ℕ
  pub pushed : HasPushed (word_of room number slot) back old new
  -- the guard's history goes on (`Goes`), if the queue has room
  pub goes : 0 < (waits_queue old).capacity → Goes (sends_view old) (sends_view new)
  -- how the subscriber's slots change in the table
  pub has : Exchanges slot (holder_of old) (slot_back room back) before after

-- What `publish` does to a lane. If its subscriber takes part and does not hold the slot, the slot is sent to
-- him with the number. Otherwise the table is unchanged for him, and nothing is pushed.
pub record IsServed (room number slot : ℕ) (before after : List Holders) (old new : Outlet) : Type 0 where
  -- the subscriber takes part and does not hold the slot
  pub sent : IsTrue (is_open old) → CanSend before slot (holder_of old) → IsSent room number slot before after old new
  -- he does not take part, or he holds the slot already
  pub other : ¬ (IsTrue (is_open old) × CanSend before slot (holder_of old))
      → KeepsSlots (holder_of old) before after
  pub idle : ¬ (IsTrue (is_open old) × CanSend before slot (holder_of old)) → new.sends ≡ old.sends
  -- in both cases the lane's own pass is unchanged
  pub waits : new.waits ≡ old.waits

-- by the table, the lane's subscriber holds the slot
abbrev pub has_slot : List Holders → ℕ → Outlet → Bool
has_slot table slot lane = bit_at (holders_at table slot).bits (bit_of (holder_of lane)) == 1

-- the lane's subscriber takes part, did not hold the slot, and holds it now
abbrev pub has_gained : ℕ → List Holders → List Holders → Outlet → Bool
has_gained slot before after lane =
    is_open lane && (not (has_slot before slot lane) && has_slot after slot lane)

-- ---- a collect

-- What `collect` does to a lane: it popped these slot numbers from the queue of returns, until a pop found
-- that empty or they were as many as there are slots. The subscriber holds what he held, except these.
pub record IsTakenBack (slots : ℕ) (before after : List Holders) (old new : Outlet) : Type 0 where
  -- the slot numbers that were popped from the queue of returns
  pub numbers : List ℕ
  pub taken : handed_out (takes_view new).seen ≡ handed_out (takes_view old).seen ++ map Index numbers
  -- a pop found that queue empty, or as many numbers were popped as there are slots
  pub all : FoundNone (takes_view old) (takes_view new) ⊎ (length numbers ≡ slots)
  -- he holds by the table what he held, except those slots
  pub has : (slot : ℕ) → HasSlot after slot (holder_of old)
      ↔ (HasSlot before slot (holder_of old) × ¬ Contains numbers slot)
  pub passes : SamePasses old new

-- These slot numbers were popped from the lane's queue of returns. The subscriber holds what
-- he held, except these.
pub record HasGivenBack (before after : List Holders) (old new : Outlet) : Type 0 where
  -- the slot numbers that were popped from the queue of returns
  pub numbers : List ℕ
  pub taken : handed_out (takes_view new).seen ≡ handed_out (takes_view old).seen ++ map Index numbers
  -- he holds by the table what he held, except those slots
  pub has : (slot : ℕ) → HasSlot after slot (holder_of old)
      ↔ (HasSlot before slot (holder_of old) × ¬ Contains numbers slot)
  pub passes : SamePasses old new

-- ---- a look at who takes part

-- What `update` does to a lane, by the registry's state that `roll` has copied.
pub record IsSettled (roll : Roll) (before after : List Holders) (old new : Outlet) : Type 0 where
  -- its subscriber takes part now if and only if the lane was let and the roll shows its place; then both
  -- passes are unchanged
  pub takes : IsTrue (is_open new) ↔ (IsTrue (is_let old) × IsShown roll (place_of old))
  pub passes : IsTrue (is_open new) → SamePasses old new
  -- the publisher's guard and the queue stay, and the call loses no lane
  pub end : new.sends ≡ old.sends
  pub queue : waits_queue new ≡ waits_queue old
  pub lost : IsTrue (is_lost new.tenancy) → IsTrue (is_lost old.tenancy)
  -- a lane that was free or lost is unchanged
  pub still : IsFree old ⊎ (old.tenancy ≡ Lost) → IsStill old new
  -- a lane that becomes free: its subscriber holds no slot, both queues were found empty, and the one that
  -- goes out was emptied by the publisher
  pub free : IsFree new
      → IsFree old ⊎ HasNone (holder_of old) after × FoundEmpty old new × WasDrained old new
  -- the subscriber of any other lane holds what he held
  pub kept : (IsFree new → IsFree old) → KeepsSlots (holder_of old) before after
  -- returned slots were popped only if the queue that goes out was emptied before
  pub popped : (takes_view new ≡ takes_view old) ⊎ WasDrained old new
