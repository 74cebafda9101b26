use Rattle.std.proofs.Common.{◌≡◌, length}
use Rattle.lock_free.specs.RobustUniqueIndexSet.{set_of}
use Rattle.uses_programs.proofs.leases.give_back.Given as given

-- the loop ends at the last index, and the set is the same
abbrev pub invariant-loop-at : given.invariant-loop-at
invariant-loop-at g l = (l.at-end ≡ length l.indices) × (set_of l.pass ≡ set_of l.fn.pass)
