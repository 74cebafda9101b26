-- `next_sent` (src/loan/places.rt): each iteration keeps the invariant of its loop, and its return is the first index
-- from there on that is Sent.
use Rattle.std.proofs.Common.{◌∙◌, sym}
use Rattle.steps.proofs.Places.{found_here, goes_further}
use Rattle.steps.proofs.loan.places.next_sent.Goals as goal

-- where this index is not sent, the search goes on with the next one
pub slots-preserved : goal.slots-preserved
slots-preserved c =
    c.slots.invariant
    ∙ goes_further c.args.places.now.items c.args.slots c.slots.index c.slots-test.true
    (sym c.has_sent.ensures ∙ c.if-has_sent.false)

-- where `has_sent` answers true, its return meets what it ensures
pub returns-then-has_sent : goal.returns-then-has_sent
returns-then-has_sent c =
    sym
    (c.slots.invariant
    ∙ found_here c.args.places.now.items c.args.slots c.slots.index c.slots-test.true
    (sym c.has_sent.ensures ∙ c.if-has_sent.true))
