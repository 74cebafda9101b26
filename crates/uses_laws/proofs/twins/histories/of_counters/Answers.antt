-- `of_counters` (src/twins/histories.rt): its return meets the clauses `set` and `container`.
use Rattle.std.proofs.Common.{◌-◌, ◌*◌, ◌^◌, ◌≤◌, arith}
use Rattle.lock_free.specs.OwnerLaws.{changes}
use Rattle.uses_laws.proofs.twins.histories.of_counters.Goals as goal

-- the counter of a set is not at its end
pub returns-clause-set : goal.returns-clause-set
returns-clause-set c capacity events apart few worn =
    let many : 2 ^ 64 - 2 ≤ 3 * changes events = c.worn_sets_have_changed.ensures capacity events worn apart in
    absurd (omega arith)

-- the counter of a container is not at its end
pub returns-clause-container : goal.returns-clause-container
returns-clause-container c code capacity events apart few worn =
    let many : 2 ^ 64 - 2 ≤ 3 * changes events = c.worn_containers_have_changed.ensures code capacity events worn apart in
    absurd (omega arith)
