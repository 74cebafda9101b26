-- `empty` (src/bits.rt): its call of `visit_element` meets the requirement `takes`, each iteration keeps the invariant of its loop, and
-- its return meets the clauses `places` and `calls`.
use Rattle.std.proofs.Common.{◌≡◌, arith}
use Rattle.steps.specs.Bits.Words.{elements}
use Rattle.plain.proofs.Places.Empties.{takes_element, empties_one, all_emptied, all_called}
use Rattle.plain.proofs.bits.empty.Goals as goal

-- its call of `visit_element` meets the requirement `takes`
pub visit_element-requires-clause-takes : goal.visit_element-requires-clause-takes
visit_element-requires-clause-takes g c =
    takes_element c.loop.invariant (let test = c.loop-test.true in let e = c.elements-end.ensures in omega arith) c.swap_next-found.ensures.answer
    c.end_of_element-end.ensures.order c.end_of_element-end.ensures.below c.end_of_element-end.ensures.near c.end_of_element-end.ensures.far

-- each iteration keeps the invariant of the loop
pub loop-preserved : goal.loop-preserved
loop-preserved g c =
    empties_one c.loop.invariant (let test = c.loop-test.true in let e = c.elements-end.ensures in omega arith) c.swap_next-found.ensures.answer
    c.end_of_element-end.ensures.order c.end_of_element-end.ensures.below c.end_of_element-end.ensures.near c.end_of_element-end.ensures.far
    c.swap_next-found.ensures.words c.swap_next-found.ensures.call c.visit_element.ensures

-- its return meets the clause `places`
pub returns-clause-places : goal.returns-clause-places
returns-clause-places g c =
    let end : c.loop.counter ≡ elements c.args.capacity =
    let test = c.loop-test.false in let e = c.elements-end.ensures in let most = c.loop.auto.counter-end in omega arith in
    all_emptied c.loop.invariant end

-- `empty` has called the closure as its clause `calls` says
pub returns-clause-calls : goal.returns-clause-calls
returns-clause-calls g c =
    let end : c.loop.counter ≡ elements c.args.capacity =
    let test = c.loop-test.false in let e = c.elements-end.ensures in let most = c.loop.auto.counter-end in omega arith in
    all_called c.loop.invariant end
