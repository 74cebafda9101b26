-- `LoanSender::reclaim` (src/spsc/loan/calls.rt): each iteration keeps the invariant of its loop, and its return meets the clause
-- `reclaimed`.
use Rattle.lock_free_sets.proofs.Names.{rules, arith, ap, subst, sym, ◌∙◌, ◌+◌, ◌<◌, ◌≤◌, ◌≡◌, true, false, length}
use Rattle.std.proofs.Common.{count_by}
use Rattle.std.proofs.lemmas.List.{take_all}
use Rattle.lock_free_loans.specs.Loan.Places.{is_sent, place_at}
use Rattle.lock_free_loans.specs.Loan.Sender.{places_of, pass_view}
use Rattle.lock_free_loans.specs.Loan.Contracts.{InTurn, HasFreed}
use Rattle.lock_free_loans.proofs.Loan.Books.{not_reached, sent_step, other_step, so_far, so_far_all}
use Rattle.lock_free_loans.proofs.Loan.Contracts.{sent_below, freed_more, freed_same}
use Rattle.lock_free_loans.proofs.spsc.loan.LoanSender.reclaim.Goals as goal
use Rattle.lock_free_loans.proofs.spsc.loan.LoanSender.reclaim.Goals.{then-has_sent, else-has_sent}

-- after each index all up to it that were sent are free, counted, and given back to the set in turn
pub loop-index-preserved : goal.loop-index-preserved
loop-index-preserved g c =
    let old = pass_view c.args.self.now in
    let ps = places_of c.args.self.now in
    let ys = places_of c.loop-index.self in
    let i = c.loop-index.index in
    let was = c.loop-index.invariant in
    let end = c.loop-index.invariant.long in
    let below = c.loop-index-test.true in
    let lt : i < length ps = omega arith in
    elim c.if-has_sent.branch [
      -- the case that the index is sent: it is freed and counted
      | then-has_sent w ↦
          let sent : is_sent (place_at ys i) ≡ true = sym c.has_sent.ensures ∙ w.if-has_sent.true in
          let step = sent_step ps ys i was.places lt sent in
          record {
            places = ap places_of w.self-is ∙ (w.free.ensures.places ∙ step.0);
            number = (let m = step.1 in let n = was.number in let k = w.number-is in omega arith);
            long = search rules;
            -- The index adds to those that were freed in turn.
            freed =
                subst (λ v. InTurn HasFreed (sent_below (i + 1) ps) old v) (sym (ap pass_view w.self-is))
                (freed_more ps i old (pass_view c.loop-index.self) (pass_view w.free.new.self)
                (not_reached ps ys i true was.places sent) was.freed w.free.ensures.freed);
            queues = search rules;
            same = search rules;
            share = search rules;
            steps = (
                let here = w.free.ensures.steps in
                let so_far = was.steps in
                let view = ap (λ s. (pass_view s).asked) w.self-is in
                let n = w.number-is in
                omega arith);
          }
      -- the case that it is not sent: nothing changes
      | else-has_sent w ↦
          let sent : is_sent (place_at ys i) ≡ false = sym c.has_sent.ensures ∙ w.if-has_sent.false in
          let step = other_step ps ys i was.places lt sent in
          record {
            places = ap places_of w.self-is ∙ step.0;
            number = (let m = step.1 in let n = was.number in let k = w.number-is in omega arith);
            long = search rules;
            freed =
                subst (λ v. InTurn HasFreed (sent_below (i + 1) ps) old v) (sym (ap pass_view w.self-is))
                (freed_same ps i old (pass_view c.loop-index.self) (not_reached ps ys i false was.places sent) was.freed);
            queues = search rules;
            same = search rules;
            share = search rules;
            steps = (
                let so_far = was.steps in
                let view = ap (λ s. (pass_view s).asked) w.self-is in
                let n = w.number-is in
                omega arith);
          }
    ]

-- all that were sent are free and counted, the set got them back in turn, and the queue of what came back is emptied
pub returns-clause-reclaimed : goal.returns-clause-reclaimed
returns-clause-reclaimed g c =
    let ps = places_of c.args.self.now in
    let was = c.loop-index.invariant in
    let end = was.long in
    let past = c.loop-index-test.false in
    let all : c.loop-index.index ≡ length ps = omega arith in
    let whole : length ps ≤ c.loop-index.index = omega arith in
    record {
      places = was.places ∙ (ap (λ n. so_far n ps) all ∙ so_far_all ps);
      number = was.number ∙ ap (count_by is_sent) (take_all c.loop-index.index ps whole);
      freed = subst (λ n. InTurn HasFreed (sent_below n ps) (pass_view c.args.self.now) (pass_view c.loop-index.self)) all was.freed;
      emptied = search rules;
    }
