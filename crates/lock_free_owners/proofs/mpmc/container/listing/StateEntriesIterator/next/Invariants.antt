-- `StateEntries::next` (src/mpmc/container/listing.rt): in its loop the entries that are still to come stay.
use Rattle.std.proofs.Common.{◌≡◌, ◌-◌}
use Rattle.lock_free_owners.specs.Container.Entries.{entries_from}
use Rattle.lock_free_owners.proofs.mpmc.container.listing.StateEntriesIterator.next.Given as goal

-- the iterator is of the same state, and it has passed only indices that show nothing
abbrev pub invariant-loop-self : goal.invariant-loop-self
invariant-loop-self g l =
    (l.self-inside.state.now ≡ l.state)
    × (entries_from l.state l.self-inside.index ≡ l.fn.self)

-- Each iteration leaves fewer elements: the measure is the number of elements from the present one on.
abbrev pub decreases-loop-self : goal.decreases-loop-self
decreases-loop-self g l = l.capacity - l.self-inside.index
