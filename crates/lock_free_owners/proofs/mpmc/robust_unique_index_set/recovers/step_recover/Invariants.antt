-- `step_recover` (src/mpmc/robust_unique_index_set/recovers.rt): what its step tells.
use Rattle.lock_free_owners.specs.Robust.Turns.{RecoverTells}
use Rattle.lock_free_owners.proofs.mpmc.robust_unique_index_set.recovers.step_recover.Given as given

-- the step tells what a step of the recovery tells, whatever its visits so far
abbrev pub ghosts-step_telling : given.ghosts-step_telling
ghosts-step_telling a = record { told = RecoverTells a.given.now a.call }
