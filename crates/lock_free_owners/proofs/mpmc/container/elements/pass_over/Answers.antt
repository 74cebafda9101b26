-- `pass_over` (src/mpmc/container/elements.rt): each iteration keeps the invariant of its loop.
use Rattle.lock_free_owners.proofs.Names.{◌≡◌, ◌∙◌, sym, ap, subst, look_after, GoOn, Coding, coding_by, seen}
use Rattle.steps.specs.declared.container.look.Look.{Look}
use Rattle.lock_free_owners.specs.Container.LookTurns.{LookOnAt, at_count}
use Rattle.lock_free_owners.proofs.ContainerSet.LookElements.{counts_next, gone_on}
use Rattle.lock_free_owners.proofs.ContainerSet.Stays.{stays_then}
use Rattle.lock_free_owners.proofs.mpmc.container.elements.pass_over.Goals as goal

-- an iteration after which the loop goes on keeps its invariant
pub elements-preserved : goal.elements-preserved
elements-preserved g c =
    let code : Coding g.row.T.Denot = coding_by g.T.Words in
    let b = g.B.Beginning in
    let so_far = c.elements.invariant in
    let after = c.step_on-after in
    let numbers = c.args.given.now in
    let n = after.ensures.taken.0 in
    let next = c.in-GoOn.next in
    let taken : look_after g.T.Words.WORDS (at_count {T = g.row.T.Denot} c.args.capacity c.elements.index) numbers n ≡ GoOn next =
    sym (ap (λ (call : Look g.row.T.Denot). look_after g.T.Words.WORDS call numbers n) c.at_stage-here.ensures)
    ∙ (sym after.ensures.taken.1 ∙ c.in-GoOn.is) in
    let is = counts_next g.T.Words.WORDS numbers c.args.capacity c.elements.index n c.in-LoadsCount.further next taken c.in-LoadsCount.is in
    record {
      stays = stays_then so_far.stays after.ensures.stays;
      at = subst (λ (d : Look g.row.T.Denot). LookOnAt code b.which b.from b.shown numbers (seen after.new.seat) d after.new.room) is.0
          (gone_on code b.which b.from b.shown numbers (seen after.new.seat) after.new.room c.in-GoOn.is after.ensures.goes);
    }
