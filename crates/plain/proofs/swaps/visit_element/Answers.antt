-- `visit_element` (src/swaps.rt): its call of `call_standing` meets what that requires, each iteration keeps the invariant of its loop,
-- and its return meets what it ensures (`FoldsTo`).
use Rattle.std.proofs.Common.{ap, ◌∙◌, arith}
use Rattle.steps.specs.Bits.Words.{has_flag}
use Rattle.steps.proofs.Flags.Words.{none_stands}
use Rattle.plain.proofs.Places.Empties.{may_visit, visits_one, visited}
use Rattle.plain.proofs.swaps.visit_element.Goals as goal

-- `call_standing` may be called: the closure may be called with a place that stands
pub call_standing-requires : goal.call_standing-requires
call_standing-requires g c stood =
    may_visit c.loop-place.invariant (let test = c.loop-place-test.true in omega arith) c.has_flag.ensures stood

-- each iteration keeps the invariant of the loop
pub loop-place-preserved : goal.loop-place-preserved
loop-place-preserved g c =
    visits_one c.loop-place.invariant (let test = c.loop-place-test.true in omega arith) (let near = c.requires.near in omega arith)
    (let from = c.loop-place.auto.place in omega arith) c.has_flag.result c.has_flag.ensures
    c.call_standing.ensures.called c.call_standing.ensures.passed c.without_flag-left.ensures.others

-- after the last place, what `visit_element` leaves is as its clause says
pub returns : goal.returns
returns g c = visited c.loop-place.invariant (λ q low high. let test = c.loop-place-test.false in absurd (omega arith))

-- where no flag is left, `visit_element` returns as its clause says
pub returns-then-left-eq0 : goal.returns-then-left-eq0
returns-then-left-eq0 g c = visited c.loop-place.invariant (λ q low high. ap (λ w. has_flag w q) c.if-left-eq0.true ∙ none_stands q)
