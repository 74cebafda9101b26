-- `count_next` (src/mpmc/robust_unique_index_set/counts.rt): its return meets the clause `goes`.
use Rattle.std.proofs.Common.{sym, subst}
use Rattle.threaded.specs.Seats.{seen}
use Rattle.lock_free_owners.specs.Robust.Turns.{BorrowedGoes}
use Rattle.lock_free_owners.proofs.mpmc.robust_unique_index_set.counts.count_next.Goals as goal

-- where the call stood at a cell, its steps over cells lead on as clause `goes` says
pub returns-in-LoadsCell-clause-goes : goal.returns-in-LoadsCell-clause-goes
returns-in-LoadsCell-clause-goes c =
    subst (λ count. BorrowedGoes (seen c.args.seat.now) (record { capacity = c.args.call.capacity; count = count })
    c.count_cells.result (seen c.count_cells.new.seat)) (sym c.in-LoadsCell.is) c.count_cells.ensures.goes
