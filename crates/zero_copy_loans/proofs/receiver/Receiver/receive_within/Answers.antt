-- `Receiver::receive_within` (src/receiver.rt): the invariant of its loop holds at the start and after each iteration, and its returns
-- meet the clauses `receives` and `tried`.
use Rattle.std.proofs.Common.{◌≡◌, refl, subst, [], ◌∷◌, arith}
use Rattle.zero_copy_loans.specs.Ends.{number_of, TriedToReceive}
use Rattle.zero_copy_loans.proofs.Ends.{received_nothing, received_then}
use Rattle.zero_copy_loans.proofs.receiver.Receiver.receive_within.Goals as goal

pub loop-init : goal.loop-init
loop-init g c = record { received = received_nothing _ _ (refl, (refl, refl), refl, refl); tried = ([], refl, refl) }

pub returns-in-Some-clause-receives : goal.returns-in-Some-clause-receives
returns-in-Some-clause-receives g c =
    received_then [] (number_of c.in-Some.sample ∷ []) _ _ _ c.loop.invariant.received c.in-Some.ensures.receives

pub loop-preserved : goal.loop-preserved
loop-preserved g c =
    let tried = c.loop.invariant.tried in
    record {
      received = received_then [] [] _ _ _ c.loop.invariant.received c.in_default.ensures.receives;
      tried = (c.loop.self ∷ tried.0, omega (arith, tried.1), (tried.2, c.in_default.ensures.none));
    }

-- all tries were made
pub returns-clause-tried : goal.returns-clause-tried
returns-clause-tried g c =
    let all : c.loop.counter ≡ c.args.tries = omega arith in
    subst (λ n. TriedToReceive n c.args.self.now c.loop.self) all c.loop.invariant.tried
