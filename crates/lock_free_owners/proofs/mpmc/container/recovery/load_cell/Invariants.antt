-- `load_cell` (src/mpmc/container/recovery.rt): what its load tells.
use Rattle.lock_free_owners.proofs.Names.{◌≡◌, coding_by}
use Rattle.lock_free_owners.specs.Container.RecoverTurns.{at_cell, RecoverTells}
use Rattle.lock_free_owners.proofs.mpmc.container.recovery.load_cell.Given as given

-- the load keeps the capacity and tells what a step of the recovery at this cell tells
abbrev pub ghosts-load_for : given.ghosts-load_for
ghosts-load_for g a =
    record {
      told = λ v n w. (w.capacity ≡ v.capacity)
          × RecoverTells (coding_by g.T.Words) a._given.now (at_cell a._capacity a.cell) a._room.now v n w;
    }
