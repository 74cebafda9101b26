-- What is known of all records that went out by a lane, once its passes are taken in (`rejoin`): which were
-- received, which came back unread, and which still wait (`LanesPassOn`).
use Rattle.std.specs.Prelude.{◌≡◌, ℕ, ◌+◌, ◌-◌, ◌^◌, ◌<◌, ◌≤◌, List, [], ◌++◌, length, slice_get, Some, None, IsTrue}
use Rattle.history.specs.declared.view.View.{View}
use Rattle.lock_free_queues.specs.Queues.Contracts.{HasReleased}
use Rattle.steps.specs.declared.queues.roles.Role.TheVariants as roles
use Rattle.history.specs.Passes.{Goes}
use Rattle.zero_copy_bus.specs.declared.outlet.Outlet.{Outlet}
use Rattle.zero_copy_bus.specs.declared.publisher.Publisher.{Publisher}
use Rattle.zero_copy_bus.specs.Ends.{lanes_of, layout_of, next_of, shape_of}
use Rattle.zero_copy_bus.specs.Outlets.{is_open, open_in, sends_view, waits_queue, waits_view, EachLane, FoundEmpty, IsNew, WasDrained, WasLet, WasTakenIn}
use Rattle.zero_copy_bus.specs.Sequences.{AreAll, Rises}
use Rattle.zero_copy_loans.specs.Numbers.{HasAll, IsPassedOn, ReceivesOn, SendsOn}
use Rattle.zero_copy_loans.specs.declared.words.Layout.{Layout}
use Rattle.zero_copy_slots.specs.declared.Keeps.{Ghosts}

-- The publisher's guard pushed words with the numbers `numbers` into the lane, of which the queue handed
-- `back` back. The lane's own pass is unchanged.
pub record HasSentOn (layout : Layout) (numbers back : List ℕ) (old new : Outlet) : Type 0 where
  pub waits : new.waits ≡ old.waits
  pub sends : 0 < (waits_queue old).capacity
      → SendsOn (shape_of layout (waits_queue old)) numbers back (sends_view old) (sends_view new)

-- The publisher has no guard of the lane, and the lane's pass knows that exactly the numbers `sent` went out,
-- that the pushes handed `back` back, and that `received` were popped.
pub record HasAllOf (layout : Layout) (sent back received : List ℕ) (lane : Outlet) : Type 0 where
  pub none : lane.sends ≡ None
  pub all : HasAll (shape_of layout (waits_queue lane)) sent back received (waits_view lane)

-- What is known of a lane from where it is let to where both ends are taken in.
pub record LanesPassOn : Type 0 where
  -- of a new lane nothing went out
  pub begins : (layout : Layout) (lane : Outlet) → IsNew lane → HasAllOf layout [] [] [] lane
  -- What was known as the lane was let (`first` to `leased`), and what went out (until `last`), came back and
  -- was received (`theirs` to `end`) until both passes were taken in (`after`), adds up. The lane has to have
  -- room, and fewer than 2^64 - 1 words may have gone out.
  pub goes_on : (layout : Layout) (sent back received numbers others came : List ℕ) (first leased last after : Outlet) (theirs end left : View ℕ)
      → HasAllOf layout sent back received first → WasLet theirs first leased → HasSentOn layout numbers others leased last
      → ReceivesOn (shape_of layout (waits_queue first)) came theirs end → Goes end left → HasReleased roles.Consumer end left
      → WasTakenIn left last after → 0 < (waits_queue first).capacity → length sent + length numbers < 2 ^ 64 - 1
      → HasAllOf layout (sent ++ numbers) (back ++ others) (received ++ came) after
  -- An `update` that frees the lane takes out all that waited, which counts as received. Then nothing is left.
  pub drains : (layout : Layout) (sent back received : List ℕ) (old new : Outlet) → HasAllOf layout sent back received old → WasDrained old new
      → FoundEmpty old new → new.sends ≡ old.sends → 0 < (waits_queue old).capacity → length sent < 2 ^ 64 - 1
      → (came : List ℕ) × HasAllOf layout sent back (received ++ came) new × (length (received ++ came) + length back ≡ length sent)
  -- of what went out a beginning was received or came back: each record once, and both in the order in which
  -- they went out
  pub tells : (layout : Layout) (sent back received : List ℕ) (lane : Outlet) → HasAllOf layout sent back received lane
      → IsPassedOn sent received back

-- ---- what a client adds up

-- The numbers rise strictly, none is below `from`, and each is below `to`.
pub record AreAmong (from to : ℕ) (numbers : List ℕ) : Type 0 where
  pub next : ℕ
  pub rise : Rises from numbers next
  pub below : next ≤ to

-- Records with some of the numbers from `from` up to below `to` went out by the lane, and with all of them if
-- its subscriber takes part.
pub record HasGoneOut (layout : Layout) (from to : ℕ) (old new : Outlet) : Type 0 where
  pub numbers : List ℕ
  pub back : List ℕ
  pub sent : HasSentOn layout numbers back old new
  pub taking : is_open new ≡ is_open old
  pub among : AreAmong from to numbers
  pub all : IsTrue (is_open old) → AreAll from to numbers

-- By each lane went out what `HasGoneOut` says, with numbers from the old next number up to below the new
-- one. The same lanes take part.
pub record HasPublished {X K : Type 0} {rule : Ghosts K X} (old new : Publisher X K rule) : Type 0 where
  pub layout : layout_of new ≡ layout_of old
  pub taking : open_in (lanes_of new) ≡ open_in (lanes_of old)
  pub later : next_of old ≤ next_of new
  pub lanes : EachLane (HasGoneOut (layout_of old) (next_of old) (next_of new)) (lanes_of old) (lanes_of new)

-- Records with all numbers from `from` up to below `to` went out by the lane. Its pass knows that exactly
-- these did, which of them came back, and that `received` were received. So a beginning of them was received
-- or came back, each once, and both in order.
pub record HasHeard (layout : Layout) (from to : ℕ) (received : List ℕ) (lane : Outlet) : Type 0 where
  pub sent : List ℕ
  pub back : List ℕ
  pub every : AreAll from to sent
  pub all : HasAllOf layout sent back received lane
  pub passed_on : IsPassedOn sent received back

-- `HasHeard` holds of the publisher's lane at a place, up to below the next number
abbrev pub HasHeardAt : {X K : Type 0} {rule : Ghosts K X} → Publisher X K rule → ℕ → ℕ → List ℕ → Type 0
HasHeardAt p place from received =
    (lane : Outlet) × (slice_get (lanes_of p) place ≡ Some lane) × HasHeard (layout_of p) from (next_of p) received lane
