-- `LoanSender::free` (src/spsc/loan/calls.rt): its call of `release_raw_index` meets the requirement `held`, `self` meets the invariant
-- `book`, and its return meets the clause `freed`.
use Rattle.lock_free_sets.proofs.Names.{ap, sym, ◌∙◌}
use Rattle.lock_free_sets.specs.UniqueIndexSet.{SetId}
use Rattle.lock_free_loans.proofs.Loan.Books.{out_held, is_freed, sent_out}
use Rattle.lock_free_loans.proofs.Loan.Contracts.{has_freed}
use Rattle.lock_free_loans.proofs.spsc.loan.LoanSender.free.Goals as goal

-- the sender holds the index that it gives back (requirement `held`)
pub release_raw_index-requires-clause-held : goal.release_raw_index-requires-clause-held
release_raw_index-requires-clause-held c = out_held c.args.self.now.book c.args.sent (sent_out _ c.requires)

-- the book has the index that is given back as free
pub invariant_of-self-clause-book : goal.invariant_of-self-clause-book
invariant_of-self-clause-book c =
    let mine = c.args.self.now in
    let now = c.release_raw_index.new.pass in
    is_freed mine.book c.args.sent _ _ (sent_out _ c.requires)
    (now.known ∙ (ap (λ (z : SetId). z.capacity) c.release_raw_index.ensures.same.set ∙ sym mine.pass.known))
    c.release_raw_index.ensures.given.given

-- the index is freed by a release that the pass has made (clause `freed`)
pub returns-clause-freed : goal.returns-clause-freed
returns-clause-freed c =
    let released = c.release_raw_index in
    has_freed c.args.self.now.pass released.new.pass c.args.sent released.result
    released.ensures.same released.ensures.given.unlocked released.ensures.given.given
