-- `empty` (src/counts.rt): its call of `call_counted` meets what that requires, each iteration keeps the invariant of its loop, and its
-- return meets the clauses `counts` and `calls`.
use Rattle.std.proofs.Common.{◌≡◌, arith}
use Rattle.plain.proofs.Emptied.{callable, empties_one, ends}
use Rattle.plain.proofs.counts.empty.Goals as goal

-- its call of `call_counted` meets what that requires
pub call_counted-requires : goal.call_counted-requires
call_counted-requires g c some =
    let test = c.loop-place-test.true in
    callable c.loop-place.invariant (omega arith) c.swap_next-count.ensures.answer some

-- each iteration keeps the invariant of the loop
pub loop-place-preserved : goal.loop-place-preserved
loop-place-preserved g c =
    let test = c.loop-place-test.true in
    empties_one c.loop-place.invariant (omega arith) c.swap_next-count.ensures.answer c.swap_next-count.ensures.words
    c.swap_next-count.ensures.call c.call_counted.new.visit c.call_counted.ensures.called c.call_counted.ensures.passed

-- its return meets the clause `counts`
pub returns-clause-counts : goal.returns-clause-counts
returns-clause-counts g c =
    let end : c.loop-place.place ≡ c.args.capacity = let test = c.loop-place-test.false in omega arith in
    (ends _ c.loop-place.invariant end).0

-- `empty` has called the closure as its clause `calls` says
pub returns-clause-calls : goal.returns-clause-calls
returns-clause-calls g c =
    let end : c.loop-place.place ≡ c.args.capacity = let test = c.loop-place-test.false in omega arith in
    (ends _ c.loop-place.invariant end).1
