-- The law `locks` (src/lib.rt): a recovery of the robust set in mode `LockIfLastIndex` that answers `Unlocked` has met an index that was
-- filled after each that it freed: where the last that it frees leaves none, it locks.
use Rattle.laws_machine.proofs.Locking as laws
use Rattle.laws_machine.proofs.locks.Goals as goal

pub returns : goal.returns
returns g c t is r = laws.locks t is r
