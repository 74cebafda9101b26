-- `LoanSender::loan` (src/spsc/loan/calls.rt): `self` meets the invariant `book`, and its return meets the clauses `loaned`, `same` and
-- `steps`.
use Rattle.lock_free_sets.proofs.Names.{◌+◌, ◌<◌, ℕ, arith, rules, refl, sym, ap, subst, ◌∙◌, View}
use Rattle.std.proofs.Common.{max}
use Rattle.history.specs.Steps.{TakesAlone}
use Rattle.lock_free_sets.specs.UniqueIndexSet.{SetId, view}
use Rattle.lock_free_loans.proofs.Loan.Books.{is_loaned, was_free, is_free, is_refused}
use Rattle.lock_free_loans.proofs.Loan.Contracts.{begins_before, set_goes}
use Rattle.lock_free_loans.proofs.spsc.loan.LoanSender.loan.Goals as goal

-- the book has the index that was acquired as loaned
pub invariant_of-self-2-clause-book : goal.invariant_of-self-2-clause-book
invariant_of-self-2-clause-book g c =
    let mine = c.args.self.now in
    let called = c.in_ok-index in
    let now = c.acquire_raw_index.new.pass in
    let size = mine.pass.known ∙ ap (λ (z : SetId). z.capacity) mine.of in
    let same = now.known ∙ (ap (λ (z : SetId). z.capacity) c.acquire_raw_index.ensures.same.set ∙ sym mine.pass.known) in
    is_loaned mine.book called.index _ same (subst (λ n. called.index < n) (sym size) called.ensures.acquired.within) called.ensures.acquired.acquired

-- the index was free in the table, is loaned now, and was acquired by the pass
pub returns-clause-loaned : goal.returns-clause-loaned
returns-clause-loaned g c =
    record {
      loaned = (is_free _ (was_free c.args.self.now.book c.in_ok-index.index _ c.in_ok-index.ensures.acquired.acquired), refl);
      is = search rules;
      acquired = c.in_ok-index.ensures.acquired.acquired;
    }

-- where no index was acquired, the table still agrees with the pass (`IsBookOf`)
pub invariant_of-self : goal.invariant_of-self
invariant_of-self g c =
    let mine = c.args.self.now in
    let now = c.acquire_raw_index.new.pass in
    let same = now.known ∙ (ap (λ (z : SetId). z.capacity) c.acquire_raw_index.ensures.same.set ∙ sym mine.pass.known) in
    record { of = search rules; book = is_refused mine.book _ _ same c.in_err-index.ensures.refused }

-- where an index was acquired, both queues stay, and the view of the pass goes on (clause `same`)
pub returns-clause-same : goal.returns-clause-same
returns-clause-same g c =
    let acquired = c.acquire_raw_index in
    record {
      goes = set_goes c.args.self.now.pass acquired.new.pass acquired.ensures.same
          (begins_before c.in_ok-index.ensures.acquired.acquired.taken.called);
      queues = search rules;
      same = search rules;
      aside = search (rules, arith);
      share = search rules;
    }

-- where no index was acquired, both queues stay, and the view of the pass goes on (clause `same`)
pub returns-in_err-index-clause-same : goal.returns-in_err-index-clause-same
returns-in_err-index-clause-same g c =
    let acquired = c.acquire_raw_index in
    record {
      goes = set_goes c.args.self.now.pass acquired.new.pass acquired.ensures.same
          (begins_before c.in_err-index.ensures.refused.taken.called);
      queues = search rules;
      same = search rules;
      aside = search (rules, arith);
      share = search rules;
    }

-- within what clause `steps` allows at this capacity
abbrev Steps : ℕ → View ℕ → View ℕ → Type 0
Steps capacity old new = TakesAlone (4 + capacity) (max 2 capacity) old new

-- the operations that the call has asked for are within clause `steps`
pub returns-clause-steps : goal.returns-clause-steps
returns-clause-steps g c =
    let mine = c.args.self.now in
    let acquired = c.acquire_raw_index in
    subst (λ n. Steps n (view mine.pass) (view acquired.new.pass)) (sym (ap (λ (z : SetId). z.capacity) mine.of)) acquired.ensures.steps

pub returns-in_err-index-clause-steps : goal.returns-in_err-index-clause-steps
returns-in_err-index-clause-steps g c =
    let mine = c.args.self.now in
    let acquired = c.acquire_raw_index in
    subst (λ n. Steps n (view mine.pass) (view acquired.new.pass)) (sym (ap (λ (z : SetId). z.capacity) mine.of)) acquired.ensures.steps
