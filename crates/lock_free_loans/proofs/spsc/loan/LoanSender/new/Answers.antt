-- `LoanSender::new` (src/spsc/loan/calls.rt): its result meets the invariant of its type.
use Rattle.lock_free_sets.proofs.Names.{◌≡◌, rules, subst, sym, ◌∙◌}
use Rattle.std.proofs.Common.{replicate}
use Rattle.lock_free_sets.specs.UniqueIndexSet.{view}
use Rattle.lock_free_loans.specs.declared.spsc.loan.places.Place.TheVariants.{Free}
use Rattle.lock_free_loans.specs.Loan.Places.{IsBookOf}
use Rattle.lock_free_loans.proofs.Loan.Books.{book_opens}
use Rattle.lock_free_loans.proofs.spsc.loan.LoanSender.new.Goals as goal

-- a book in which all is free is right of a pass that holds nothing
pub invariant_of-result : goal.invariant_of-result
invariant_of-result c =
    let all : c.in-Ok.places.items ≡ replicate c.capacity.result Free = search rules in
    record {
      of = c.requires.pass;
      book =
          subst (IsBookOf (view c.args.pass)) (sym all)
          (book_opens (view c.args.pass) c.capacity.result (c.capacity.ensures ∙ sym c.sizes.ensures) c.requires.nothing);
    }
