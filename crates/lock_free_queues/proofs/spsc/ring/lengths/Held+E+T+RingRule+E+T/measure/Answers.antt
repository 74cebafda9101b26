-- `Held::measure` (src/spsc/ring/lengths.rt): its call of `count_all` meets the requirement `at`, and its return meets the
-- clauses `measured`, `few` and `steps`.
use Rattle.lock_free_queues.proofs.Names.{◌≤◌, refl, sym, ap, subst, ◌∙◌, first_len, Coding, coding_by}
use Rattle.lock_free_queues.proofs.Names.{length_answer, At, counts_waiting, len_first_on}
use Rattle.lock_free_queues.specs.Queues.Bounded.{machine_kind}
use Rattle.lock_free_queues.specs.Queues.Rings.{token_view}
use Rattle.lock_free_queues.specs.Queues.Kinds.{most_waiting}
use Rattle.lock_free_queues.specs.Queues.Contracts.{HasMeasured}
use Rattle.lock_free_queues.proofs.Queues.Facts.{measured, few}
use Rattle.lock_free_queues.proofs.Queues.Paid.{length_takes}
use Rattle.lock_free_queues.proofs.spsc.ring.lengths.Held+E+T+RingRule+E+T.measure.Goals as goal

-- its call of `count_all` meets the requirement `at`
pub count_all-requires-clause-at : goal.count_all-requires-clause-at
count_all-requires-clause-at g c =
    let mine = c.args.self.now in
    let v = token_view mine in
    let code : Coding g.row.T.Denot = coding_by g.T.Words in
    subst (λ call. At code (machine_kind g.E.Kind.KIND) (counts_waiting g.W.Measure.WHICH v.capacity) v v call tt)
    (ap first_len mine.known ∙ sym c.new-call.ensures)
    (len_first_on code g.E.Kind.KIND v tt mine.idle mine.alone mine.some.0 g.W.Measure.WHICH v.capacity refl)

-- its return meets the clause `measured`
pub returns-clause-measured : goal.returns-clause-measured
returns-clause-measured g c =
    let mine = c.args.self.now in
    let v = token_view mine in
    let w = c.count_all.new.seat.seat.me.0 in
    subst (λ n. HasMeasured g.W.Measure.WHICH n (length_answer g.W.Measure.WHICH n c.count_all.result) v w)
    mine.known
    (measured g.E.Kind.KIND mine.idle g.W.Measure.WHICH c.count_all.ensures.ends)

-- its return meets the clause `few`
pub returns-clause-few : goal.returns-clause-few
returns-clause-few g c is =
    let mine = c.args.self.now in
    subst (λ n. c.count_all.result ≤ most_waiting g.E.Kind.KIND n) mine.known
    (few g.E.Kind.KIND mine.idle g.W.Measure.WHICH is c.count_all.ensures.ends)

-- its return meets the clause `steps`
pub returns-clause-steps : goal.returns-clause-steps
returns-clause-steps g c = length_takes c.args.self.now.idle g.E.Kind.KIND g.W.Measure.WHICH c.count_all.ensures.ends
