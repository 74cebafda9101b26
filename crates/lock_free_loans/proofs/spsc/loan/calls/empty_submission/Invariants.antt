-- `empty_submission` (src/spsc/loan/calls.rt): in its loop each pop has found a number. A queue without
-- capacity stays as it was.
use Rattle.lock_free_sets.proofs.Names.{◌≡◌, ◌<◌}
use Rattle.lock_free_queues.specs.Queues.Overflowing.{consumer_queue, consumer_view}
use Rattle.lock_free_loans.proofs.Loan.Contracts.{Popping}
use Rattle.lock_free_loans.proofs.spsc.loan.calls.empty_submission.Given as given

abbrev pub invariant-loop : given.invariant-loop
invariant-loop g l = record {
  queue : consumer_queue l.receiver ≡ consumer_queue l.fn.receiver;
  popping : 0 < (consumer_queue l.fn.receiver).capacity → Popping (consumer_view l.fn.receiver) (consumer_view l.receiver);
  none : (consumer_queue l.fn.receiver).capacity ≡ 0 → consumer_view l.receiver ≡ consumer_view l.fn.receiver;
}
