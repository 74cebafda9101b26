-- `load_cell` (src/mpmc/container/visits.rt): what its load tells.
use Rattle.lock_free_owners.proofs.Names.{◌≡◌, coding_by}
use Rattle.history.specs.Steps.{TakesAtMost}
use Rattle.lock_free_owners.specs.Container.FindTurns.{at_cell, FindTells}
use Rattle.lock_free_owners.proofs.mpmc.container.visits.load_cell.Given as given

-- the load keeps the capacity, tells what a step of the find at this cell tells, and is one operation
abbrev pub ghosts-load_for : given.ghosts-load_for
ghosts-load_for g a =
    record {
      told = λ v n w. (w.capacity ≡ v.capacity)
          × FindTells (coding_by g.T.Words) a._owner (at_cell a._capacity a.cell a._found) a._room.now v n w
          × TakesAtMost 1 v w;
    }
