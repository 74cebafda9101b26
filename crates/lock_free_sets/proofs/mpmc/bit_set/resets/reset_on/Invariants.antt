-- `reset_on` (src/mpmc/bit_set/resets.rt): in its loop the reset is under way.
use Rattle.lock_free_sets.proofs.Names.{ℕ, View, seen}
use Rattle.threaded.specs.Seats.{IsSame}
use Rattle.lock_free_sets.specs.Bits.Resetting.{IsBoard, ResetAt}
use Rattle.lock_free_sets.proofs.mpmc.bit_set.resets.reset_on.Given as given

-- whatever the view with which the reset began, it is under way at its present stage
abbrev pub invariant-loop : given.invariant-loop
invariant-loop g l =
    IsSame l.fn.seat l.seat × IsBoard l.seat
    × ((base : View ℕ) → ResetAt base (seen l.fn.seat) l.fn.first tt → ResetAt base (seen l.seat) l.call tt)
