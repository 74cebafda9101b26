-- What clauses see of a stream that has no ends yet.
use Rattle.std.specs.Prelude.{◌≡◌, ◌<◌, ◌≤◌, ℕ}
use Rattle.history.specs.Views.{first_view}
use Rattle.lock_free_queues.specs.Queues.Values.{QueueId, inner, queue_id, view, IsPassOf}
use Rattle.zero_copy_slots.specs.declared.Keeps.{Ghosts}
use Rattle.zero_copy_slots.specs.Slots.{slots_in}
use Rattle.zero_copy_streams.specs.declared.error.StreamError.{StreamError}
use Rattle.zero_copy_streams.specs.declared.error.StreamError.TheVariants.{Part, TooManySlots}
use Rattle.zero_copy_streams.specs.declared.stream.Passes.{Passes}
use Rattle.zero_copy_streams.specs.declared.stream.Stream.{Stream}

-- why a stream of this CAPACITY with so many slots is not made: they are more, or they are not, and a part refused
abbrev pub IsNotMade : (capacity slots : ℕ) → StreamError → Type 0
IsNotMade capacity slots TooManySlots = capacity < slots
IsNotMade capacity slots (Part failure) = slots ≤ capacity

module _ {X K : Type 0} {CAPACITY : ℕ} {rule : Ghosts K X} where
  -- how many slots the stream has
  abbrev pub slots_of : Stream X CAPACITY K rule → ℕ
  slots_of s = slots_in s.slots

  -- the queue of the stream's tickets
  abbrev pub tickets_of : Stream X CAPACITY K rule → QueueId
  tickets_of s = queue_id (inner s.tickets)

  -- these are the first passes of both queues
  abbrev pub ArePassesOf : Stream X CAPACITY K rule → Passes → Type 0
  ArePassesOf s passes =
      IsPassOf (inner s.tickets) passes.tickets × (view passes.tickets ≡ first_view CAPACITY)
      × IsPassOf (inner s.places) passes.places × (view passes.places ≡ first_view CAPACITY)
