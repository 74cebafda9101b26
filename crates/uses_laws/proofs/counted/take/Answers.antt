-- `take` (src/counted.rt): its call of `reset_all` meets what that requires, and its return is how much it took out.
use Rattle.std.proofs.Common.{rules, arith}
use Rattle.steps.specs.declared.bits.counting_bit_set.BitState.{BitState}
use Rattle.lock_free.specs.Counts.Handles.{knows}
use Rattle.lock_free.proofs.Closures.{added, few_below}
use Rattle.uses_laws.specs.contracts.counted.fn.take.reset_all as closure
use Rattle.uses_laws.proofs.Handed.{takes_more, counts_below}
use Rattle.uses_laws.proofs.counted.take.Goals as goal

-- the closure may be called with each count: the sum of those before and this one fits
pub reset_all-requires : goal.reset_all-requires
reset_all-requires c =
    record {
      at = λ before now state called up below within some small.
          let all = added _ (λ f. f.0.ghost_name) (λ f. (closure.captures f).sum) (λ (s : BitState). s.count) (λ p x q k. search rules) _ before now called in
          let sum = all.1 in
          let few = few_below (λ (s : BitState). s.bit) (record { bit = 0; count = 0 }) before state.bit up.0 below in
          let most = counts_below _ before up.1 in
          search (rules, arith);
    }

-- what the closure added up is what the call has taken out
pub returns : goal.returns
returns c =
    let all = added _ (λ f. f.0.ghost_name) (λ f. (closure.captures f).sum) (λ (s : BitState). s.count) (λ p x q k. search rules) _ _ _
    c.reset_all.ensures.taken.taken.calls in
    let name = all.0 in
    let sum = all.1 in
    let more = takes_more (knows c.args.counts.now) (knows c.reset_all.new.self) _ _ _ _ c.reset_all.ensures.taken.taken in
    search (rules, arith)
