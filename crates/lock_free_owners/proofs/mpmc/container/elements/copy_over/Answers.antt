-- `copy_over` (src/mpmc/container/elements.rt): each iteration keeps the invariant of its loop.
use Rattle.lock_free_owners.proofs.Names.{◌≡◌, subst, Coding, coding_by, seen}
use Rattle.steps.specs.declared.container.look.Look.{Look}
use Rattle.lock_free_owners.specs.Container.LookTurns.{LookOnAt, at_count}
use Rattle.lock_free_owners.proofs.ContainerSet.LookElements.{gone_on}
use Rattle.lock_free_owners.proofs.ContainerSet.Stays.{stays_then}
use Rattle.lock_free_owners.proofs.mpmc.container.elements.copy_over.Goals as goal

-- an iteration after which the index has grown keeps the invariant of the loop, at the next element
pub elements-preserved : goal.elements-preserved
elements-preserved g c =
    let code : Coding g.row.T.Denot = coding_by g.T.Words in
    let b = g.B.Beginning in
    let numbers = c.args.given.now in
    let passed = c.pass_over-passed in
    let copied = c.copy_first-copied in
    let after = c.step_on-after in
    let call = c.in-GoOn-after.next in
    let is : call ≡ at_count call.capacity c.in-LoadsCount.further =
    λ i. record { capacity = call.capacity; stage = c.in-LoadsCount.is i; of = record {} } in
    record {
      stays = stays_then c.elements.invariant.stays (stays_then passed.ensures.stays (stays_then copied.ensures.stays after.ensures.stays));
      at = subst (λ (d : Look g.row.T.Denot). LookOnAt code b.which b.from b.shown numbers (seen after.new.seat) d after.new.room) is
          (gone_on code b.which b.from b.shown numbers (seen after.new.seat) after.new.room c.in-GoOn-after.is after.ensures.goes);
    }
