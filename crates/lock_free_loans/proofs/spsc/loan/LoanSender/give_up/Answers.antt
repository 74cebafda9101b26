-- `LoanSender::give_up` (src/spsc/loan/calls.rt): its call of `release_raw_index` meets the requirement `held`, `self` meets the
-- invariant `book`, and its return meets the clause `same`.
use Rattle.lock_free_sets.proofs.Names.{ap, arith, rules, sym, ◌∙◌}
use Rattle.lock_free_sets.specs.UniqueIndexSet.{SetId}
use Rattle.lock_free_loans.specs.Loan.Places.{is_out}
use Rattle.lock_free_loans.proofs.Loan.Books.{out_held, is_freed}
use Rattle.lock_free_loans.proofs.Loan.Contracts.{begins_before, set_goes}
use Rattle.lock_free_loans.proofs.spsc.loan.LoanSender.give_up.Goals as goal

-- the sender holds the index that it gives back (requirement `held`)
pub release_raw_index-requires-clause-held : goal.release_raw_index-requires-clause-held
release_raw_index-requires-clause-held c = out_held c.args.self.now.book c.args.index (ap is_out c.requires)

-- the book has the index that is given back as free
pub invariant_of-self-clause-book : goal.invariant_of-self-clause-book
invariant_of-self-clause-book c =
    let mine = c.args.self.now in
    let now = c.release_raw_index.new.pass in
    is_freed mine.book c.args.index _ _ (ap is_out c.requires)
    (now.known ∙ (ap (λ (z : SetId). z.capacity) c.release_raw_index.ensures.same.set ∙ sym mine.pass.known))
    c.release_raw_index.ensures.given.given

-- both queues stay, and the view of the pass goes on (clause `same`)
pub returns-clause-same : goal.returns-clause-same
returns-clause-same c =
    let released = c.release_raw_index in
    record {
      goes = set_goes c.args.self.now.pass released.new.pass released.ensures.same
          (begins_before released.ensures.given.given.called);
      queues = search rules;
      same = search rules;
      aside = search (rules, arith);
      share = search rules;
    }
