-- `Receiver::receive_waiting` (src/receiver.rt): the invariant of its loop holds at the start and after each iteration, and its return
-- meets the clause `receives`.
use Rattle.std.proofs.Common.{refl, [], ◌∷◌}
use Rattle.zero_copy_loans.specs.Ends.{number_of}
use Rattle.zero_copy_loans.proofs.Ends.{received_nothing, received_then}
use Rattle.zero_copy_loans.proofs.receiver.Receiver.receive_waiting.Goals as goal

pub loop-init : goal.loop-init
loop-init g c = received_nothing _ _ (refl, (refl, refl), refl, refl)

pub returns-in-Some-receive-clause-receives : goal.returns-in-Some-receive-clause-receives
returns-in-Some-receive-clause-receives g c =
    received_then [] (number_of c.in-Some-receive.sample ∷ []) _ _ _ c.loop.invariant c.in-Some-receive.ensures.receives

pub loop-preserved : goal.loop-preserved
loop-preserved g c = received_then [] [] _ _ _ c.loop.invariant c.in_default.ensures.receives
