-- `empty_completion` (src/spsc/loan/calls.rt): in its loop each pop has found a number.
use Rattle.lock_free_sets.proofs.Names.{◌≡◌}
use Rattle.lock_free_queues.specs.Queues.Calls.{consumer_queue, consumer_view}
use Rattle.lock_free_loans.proofs.Loan.Contracts.{Popping}
use Rattle.lock_free_loans.proofs.spsc.loan.calls.empty_completion.Given as given

abbrev pub invariant-loop : given.invariant-loop
invariant-loop g l = record {
  queue : consumer_queue l.consumer ≡ consumer_queue l.fn.consumer;
  popping : Popping (consumer_view l.fn.consumer) (consumer_view l.consumer);
}
