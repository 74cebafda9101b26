-- `store_next` (src/twins/values.rt): its return meets the clauses `next` and `above`.
use Rattle.lock_free.specs.Value.Calls.{producer_view}
use Rattle.lock_free.specs.Value.Contracts.{HasStored}
use Rattle.uses_laws.proofs.twins.values.store_next.Goals as goal

-- the store has the version that follows all that were seen to be stored
pub returns-clause-next : goal.returns-clause-next
returns-clause-next c is =
    let old = producer_view c.args.producer.now in
    let new = producer_view c.store.new.self in
    let has : HasStored c.args.x old new = c.store.ensures.stored is in
    (has.by, (c.versions_rise.ensures.stored c.args.x old new has).0)

-- each version of a load that was known lies below that of the store
pub returns-clause-above : goal.returns-clause-above
returns-clause-above c is p version y known =
    let old = producer_view c.args.producer.now in
    let new = producer_view c.store.new.self in
    let has : HasStored c.args.x old new = c.store.ensures.stored is in
    (c.versions_rise.ensures.stored c.args.x old new has).2 p version y known
