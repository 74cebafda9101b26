-- How the call that counts what waits goes on between two turns.
use Rattle.lock_free_queues.proofs.Names.{◌≡◌, ℕ, subst, Coding, View, QueueKind, LengthOf}
use Rattle.steps.specs.declared.ask.After.{After}
use Rattle.steps.specs.declared.ask.After.TheVariants.{GoOn, Done}
use Rattle.steps.specs.declared.queues.lengths.Len.{Len}
use Rattle.lock_free_queues.specs.Queues.Measuring.{CountAt, CountEnds, CountNext}

-- the call on the length, which the pass began in the view `base`, has taken a step, behind which the view is `w`
module _ {T : Type 0} (code : Coding T) (kind : QueueKind) (which : LengthOf) (base w : View T) where
  -- Where a step has led to a next stage, the call on the length is under way at it.
  pub gone_on : {a : After Len ℕ} {next : Len} → a ≡ GoOn next → CountNext code kind which base a w → CountAt code kind which base w next tt
  gone_on is goes = subst (λ z. CountNext code kind which base z w) is goes

  -- Where a step has ended the call on the length, it has ended with that number.
  pub has_ended : {a : After Len ℕ} {number : ℕ} → a ≡ Done number → CountNext code kind which base a w → CountEnds code kind which base number tt w
  has_ended is goes = subst (λ z. CountNext code kind which base z w) is goes
