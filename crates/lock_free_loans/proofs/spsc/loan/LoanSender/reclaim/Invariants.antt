-- `LoanSender::reclaim` (src/spsc/loan/calls.rt): in its loop all indices below the next one that were
-- sent are free, counted, and given back to the set in turn.
use Rattle.lock_free_sets.proofs.Names.{◌≡◌, length, take}
use Rattle.history.specs.Steps.{TakesAtMost}
use Rattle.std.proofs.Common.{◌*◌, count_by}
use Rattle.lock_free_loans.specs.Loan.Places.{is_sent}
use Rattle.lock_free_loans.specs.Loan.Sender.{places_of, pass_view, share_of, KeepsQueues, IsSame}
use Rattle.lock_free_loans.specs.Loan.Contracts.{InTurn, HasFreed}
use Rattle.lock_free_loans.proofs.Loan.Books.{so_far}
use Rattle.lock_free_loans.proofs.Loan.Contracts.{sent_below}
use Rattle.lock_free_loans.proofs.spsc.loan.LoanSender.reclaim.Given as given

abbrev pub invariant-loop-index : given.invariant-loop-index
invariant-loop-index g l = record {
  places : places_of l.self ≡ so_far l.index (places_of l.fn.self);
  number : l.number ≡ count_by is_sent (take l.index (places_of l.fn.self));
  long : l.index-end ≡ length (places_of l.fn.self);
  freed : InTurn HasFreed (sent_below l.index (places_of l.fn.self)) (pass_view l.fn.self) (pass_view l.self);
  queues : KeepsQueues l.initial.self l.self;
  same : IsSame l.fn.self l.self;
  share : share_of l.self ≡ share_of l.fn.self;
  steps : TakesAtMost (5 * l.number) (pass_view l.fn.self) (pass_view l.self);
}
