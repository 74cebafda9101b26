-- `pass_clear` (src/mpmc/bit_set/resets.rt): in its loop the reset stands at a flag, and with each
-- iteration has passed more places.
use Rattle.lock_free_sets.proofs.Names.{ℕ, ◌-◌, View, seen}
use Rattle.steps.specs.declared.bits.bit_set.ResetNextStage.TheVariants as stages
use Rattle.threaded.specs.Seats.{IsSame}
use Rattle.lock_free_sets.specs.Bits.Resetting.{IsBoard, ResetAt}
use Rattle.lock_free_sets.proofs.mpmc.bit_set.resets.pass_clear.Given as given

-- whatever the view with which the reset began, it stands at this flag
abbrev pub invariant-places : given.invariant-places
invariant-places l =
    IsSame l.fn.seat l.seat × IsBoard l.seat
    × ((base : View ℕ) → ResetAt base (seen l.fn.seat) (record { capacity = l.fn.capacity; stage = stages.LoadsElement l.fn.start l.fn.first }) tt
    → ResetAt base (seen l.seat) (record { capacity = l.fn.capacity; stage = stages.LoadsElement l.fn.start l.so_many }) tt)

-- Each iteration passes a place: the measure is the number of places that are not passed yet.
abbrev pub decreases-places : given.decreases-places
decreases-places l = l.fn.capacity - l.so_many
