-- `step_recover` (src/mpmc/container/recovery.rt): what its step tells.
use Rattle.lock_free_owners.proofs.Names.{◌≡◌, coding_by}
use Rattle.lock_free_owners.specs.Container.RecoverTurns.{RecoverTells}
use Rattle.lock_free_owners.proofs.mpmc.container.recovery.step_recover.Given as given

-- the step keeps the capacity and tells what a step of the recovery tells, whatever its visits so far
abbrev pub ghosts-step_telling : given.ghosts-step_telling
ghosts-step_telling g a =
    record {
      told = λ v n w. (w.capacity ≡ v.capacity)
          × RecoverTells (coding_by g.T.Words) a.given.now a.call a.room.now v n w;
    }
