-- `clear_all` (src/mpmc/bit_set/calls.rt): in its loop the closure was called with just the places that
-- the call has cleared so far.
use Rattle.lock_free_sets.proofs.Names.{◌≡◌, ◌-◌, seen}
use Rattle.threaded.specs.Seats.{IsSame}
use Rattle.lock_free_sets.proofs.Bits.Cleared.{SoFar}
use Rattle.lock_free_sets.proofs.mpmc.bit_set.calls.clear_all.Given as given

abbrev pub invariant-loop-next : given.invariant-loop-next
invariant-loop-next g l =
    IsSame l.fn.seated l.seated
    × ((seen l.seated).capacity ≡ (seen l.fn.seated).capacity)
    × SoFar (λ p x q. given.F-step g p x tt q) l.fn.capacity l.fn.visit (seen l.fn.seated) (seen l.seated) l.call l.room l.visit

-- Each iteration leaves fewer words: the measure is the number of words from the present one on.
abbrev pub decreases-loop-next : given.decreases-loop-next
decreases-loop-next g l = l.call.end - l.call.word
