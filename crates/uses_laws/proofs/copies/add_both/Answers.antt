-- `add_both` (src/copies.rt): its return meets what it ensures (`IsContained`).
use Rattle.std.proofs.Common.{ℕ, rules}
use Rattle.steps.specs.declared.container.add.Owned.{Owned}
use Rattle.lock_free.specs.Container.Names.{code_of, container_of, share, view}
use Rattle.lock_free.specs.Container.Contracts.{placed}
use Rattle.lock_free.specs.Shares.{IsAll}
use Rattle.uses_laws.proofs.Whole.{Laws, has_added, whole_after}
use Rattle.uses_laws.proofs.copies.add_both.Goals as goal

-- if only adds were made, no index is granted that is held, and each value is placed, copied and hidden as
-- `IsContained` says
pub returns : goal.returns
returns g c =
    let old = c.args.pass.now in
    let between = c.add-one.new.pass in
    let new = c.add-two.new.pass in
    let still : IsAll (share new) = search rules in
    let laws : Laws =
    record {
      whole = c.copies_are_whole.ensures;
      faithful = c.histories_without_recoveries_are_faithful.ensures;
      well_formed = c.histories_without_removals_are_well_formed.ensures;
      apart = c.calls_that_lock_are_apart.ensures;
    }
    in
    let first : Owned ℕ = record { value = c.args.first; owner = c.args.owner } in
    let second : Owned ℕ = record { value = c.args.second; owner = c.args.owner } in
    whole_after laws (code_of between) (container_of new).capacity (view old) (view between) (view new) c.requires.calm
    first second
    (placed c.add-one.result) (placed c.add-two.result) c.requires.idle c.add-one.ensures.same.idle
    (has_added c.args.container.now first (view old) (view between) c.add-one.result c.add-one.ensures.added c.add-one.ensures.refused)
    (has_added c.args.container.now second (view between) (view new) c.add-two.result c.add-two.ensures.added c.add-two.ensures.refused)
    (c.add-two.ensures.same.goes.all still) c.history.ensures.history
