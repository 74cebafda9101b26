-- `count_next` (src/mpmc/container/counts.rt): its call of `count_cells` meets the requirement `at`.
use Rattle.lock_free_owners.proofs.Names.{subst, coding_by, seen}
use Rattle.lock_free_owners.specs.Container.Turns.{CountAt}
use Rattle.lock_free_owners.proofs.mpmc.container.counts.count_next.Goals as goal

-- where `count_cells` is called the count is under way
pub count_cells-requires-clause-at : goal.count_cells-requires-clause-at
count_cells-requires-clause-at g c =
    let base = c.requires.at.0 in (
      base,
      subst (λ n. CountAt (coding_by g.T.Words) g.W.Counting.which base (seen c.args.seat.now)
          (record { capacity = c.args.call.capacity; count = n }) tt) c.in-LoadsCell.is c.requires.at.1,
    )
