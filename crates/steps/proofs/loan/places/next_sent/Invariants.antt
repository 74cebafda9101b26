-- The invariant of the loop of `next_sent`: the first index that is sent, from the start on, is the first one
-- from this index on.
use Rattle.std.proofs.Common.{◌≡◌}
use Rattle.steps.specs.Loan.Places.{next_sent}
use Rattle.steps.proofs.loan.places.next_sent.Given as given

abbrev pub invariant-slots : given.invariant-slots
invariant-slots l =
    next_sent l.fn.places.items l.slots l.fn.from ≡ next_sent l.places.items l.slots l.index
