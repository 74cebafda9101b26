-- `step_find` (src/mpmc/container/visits.rt): what its step tells.
use Rattle.lock_free_owners.proofs.Names.{◌≡◌, coding_by}
use Rattle.history.specs.Steps.{TakesAtMost}
use Rattle.lock_free_owners.specs.Container.FindTurns.{FindTells}
use Rattle.lock_free_owners.proofs.mpmc.container.visits.step_find.Given as given

-- the step keeps the capacity, tells what a step of the find tells, whatever its copies so
-- far, and is one operation
abbrev pub ghosts-step_telling : given.ghosts-step_telling
ghosts-step_telling g a =
    record {
      told = λ v n w. (w.capacity ≡ v.capacity)
          × FindTells (coding_by g.T.Words) a.given.now a.call a.room.now v n w
          × TakesAtMost 1 v w;
    }
