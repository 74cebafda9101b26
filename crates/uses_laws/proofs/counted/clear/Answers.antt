-- `clear` (src/counted.rt): its call of `reset_all` meets the requirement `places`, and its return is how many places it cleared.
use Rattle.std.proofs.Common.{rules, arith}
use Rattle.lock_free.specs.Bits.Calls.{view}
use Rattle.lock_free.proofs.Closures.{counted, few_below}
use Rattle.uses_laws.specs.contracts.counted.fn.clear.reset_all as closure
use Rattle.uses_laws.proofs.Handed.{clears_more}
use Rattle.uses_laws.proofs.counted.clear.Goals as goal

-- the closure may be called with each place: the number of those before is below the capacity
pub reset_all-requires-clause-places : goal.reset_all-requires-clause-places
reset_all-requires-clause-places c =
    record {
      at = λ before now place called up below within.
          let all = counted _ (λ f. f.0.ghost_name) (λ f. (closure.captures f).number) (λ p x q k. search rules) _ before now called in
          let number = all.1 in
          let few = few_below (λ x. x) 0 before place up.0 below in
          search (rules, arith);
    }

-- what the closure counted is how many places the call has cleared
pub returns : goal.returns
returns c =
    let all = counted _ (λ f. f.0.ghost_name) (λ f. (closure.captures f).number) (λ p x q k. search rules) _ _ _
    c.reset_all.ensures.cleared.cleared.calls in
    let name = all.0 in
    let number = all.1 in
    let more = clears_more (view c.args.pass.now) (view c.reset_all.new.pass) _ _ _ _ c.reset_all.ensures.cleared.cleared in
    search (rules, arith)
