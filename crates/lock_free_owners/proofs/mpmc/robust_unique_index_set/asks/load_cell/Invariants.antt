-- `load_cell` (src/mpmc/robust_unique_index_set/asks.rt): what its load tells.
use Rattle.lock_free_owners.specs.Robust.Turns.{RecoverTells}
use Rattle.lock_free_owners.proofs.RobustSet.Turns.{passes}
use Rattle.lock_free_owners.proofs.mpmc.robust_unique_index_set.asks.load_cell.Given as given

-- the load tells what a step of the recovery at this cell tells
abbrev pub ghosts-load_for : given.ghosts-load_for
ghosts-load_for a = record { told = RecoverTells a._mode (passes a._capacity a.cell) }
