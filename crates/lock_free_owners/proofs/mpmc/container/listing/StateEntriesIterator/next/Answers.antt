-- `StateEntries::next` (src/mpmc/container/listing.rt): each iteration keeps the invariant of its loop, and where it returns an entry,
-- its return meets the clauses `steps` and `goes`.
use Rattle.std.proofs.Common.{rules, ◌≡◌, ◌+◌, ◌∷◌, sym, subst, ◌∙◌}
use Rattle.lock_free_owners.specs.Container.Entries.{entries_from}
use Rattle.lock_free_owners.proofs.ContainerSet.Entries.{entries_give, entries_pass}
use Rattle.lock_free_owners.proofs.mpmc.container.listing.StateEntriesIterator.next.Goals as goal

-- an index that shows a value yields its entry, and the entries behind it are left
pub returns-in-Some-clause-steps : goal.returns-in-Some-clause-steps
returns-in-Some-clause-steps g c =
    let index = c.loop-self.self-inside.index in
    subst (λ s. c.args.self.now ≡ (index, c.in-Some.value.now) ∷ entries_from s (index + 1)) (sym c.loop-self.invariant.0)
    (sym c.loop-self.invariant.1
    ∙ entries_give c.self.inside.state.now index c.in-Some.value.now (search rules) (search rules))

pub returns-in-Some-clause-goes : goal.returns-in-Some-clause-goes
returns-in-Some-clause-goes g c =
    let gave = sym c.loop-self.invariant.1
    ∙ entries_give c.self.inside.state.now c.loop-self.self-inside.index c.in-Some.value.now (search rules) (search rules) in
    search rules

-- an index that shows nothing leaves the entries that are still to come
pub loop-self-preserved : goal.loop-self-preserved
loop-self-preserved g c = (
  c.loop-self.invariant.0,
  sym (entries_pass c.self.inside.state.now c.loop-self.self-inside.index (search rules) (search rules))
      ∙ c.loop-self.invariant.1,
)
