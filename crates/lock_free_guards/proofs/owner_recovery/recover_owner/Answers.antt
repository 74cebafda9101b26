-- `recover_owner` (src/owner_recovery.rt): its call of `recover` meets the requirement `freed`,
-- and its return meets the clauses `recovered`, `counted`, `others` and `answered`.
use Rattle.std.proofs.Common.{rules, arith}
use Rattle.lock_free_owners.specs.Robust.Callable.{Owned}
use Rattle.lock_free_owners.specs.RobustUniqueIndexSet.{view}
use Rattle.lock_free_sets.proofs.Closures.{counted, few_below}
use Rattle.lock_free_guards.proofs.OwnerLeft.{owner_answered}
use Rattle.lock_free_guards.proofs.OwnerVisits.{freed_his, freed_no_other, recovers_owner}
use Rattle.lock_free_guards.specs.contracts.owner_recovery.fn.recover_owner.recover+arg3 as asked
use Rattle.lock_free_guards.specs.contracts.owner_recovery.fn.recover_owner.recover+arg4 as told
use Rattle.lock_free_guards.proofs.owner_recovery.recover_owner.Goals as goal

-- the second closure may be called with each index that was freed: the number of those before is below the capacity
pub recover-state-requires-clause-freed : goal.recover-state-requires-clause-freed
recover-state-requires-clause-freed g c free =
    record {
      at = λ before p others now o folds up agreed called rises below within.
          let all = counted _ (λ f. f.0.ghost_name) (λ f. (told.captures f).freed) (λ s x t k. search rules) _ others now called in
          let number = all.1 in
          let few = few_below (λ (x : Owned). x.index) (record { owner = 0; index = 0 }) others o.index rises.0 below in
          let low = within.1 in
          search (rules, arith);
    }

pub returns-clause-recovered : goal.returns-clause-recovered
returns-clause-recovered g c =
    recovers_owner (λ f. (asked.captures f).owner) c.args.owner (λ p o i b q k. search rules) (search rules) c.recover-state.ensures.recovered.recovered

-- the number that is answered is that of the owner's indices that were freed
pub returns-clause-counted : goal.returns-clause-counted
returns-clause-counted g c =
    let more = freed_his (λ f. (asked.captures f).owner) c.args.owner (λ p o i b q k. search rules)
    (search rules) c.recover-state.ensures.recovered.recovered in
    let all = counted _ (λ f. f.0.ghost_name) (λ f. (told.captures f).freed) (λ s x t k. search rules) _ _ _
    c.recover-state.ensures.recovered.recovered.visited.told in
    let name = all.0 in
    let number = all.1 in
    search (rules, arith)

-- no index of another owner was freed
pub returns-clause-others : goal.returns-clause-others
returns-clause-others g c =
    freed_no_other
    (recovers_owner (λ f. (asked.captures f).owner) c.args.owner (λ p o i b q k. search rules) (search rules) c.recover-state.ensures.recovered.recovered)

-- the recovery answers right for this owner
pub returns-clause-answered : goal.returns-clause-answered
returns-clause-answered g c =
    let v = view c.args.pass.now in
    let w = view c.recover-state.new.pass in
    owner_answered c.args.owner c.args.mode c.recover-state.result v w
    (recovers_owner (λ f. (asked.captures f).owner) c.args.owner (λ p o i b q k. search rules) (search rules) c.recover-state.ensures.recovered.recovered)
    c.recover-state.ensures.recovered.answered
