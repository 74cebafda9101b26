-- The law `refused` (src/lib.rt): a robust index set that has granted one index to two owners, in a well-formed run, does not keep what
-- it promises; the other runs stand in `proofs`, a file for each promise.
use Rattle.wrong_runs.proofs.Robust as robust
use Rattle.wrong_runs.proofs.refused.Goals as goal

pub returns : goal.returns
returns c k = robust.granted_twice k
