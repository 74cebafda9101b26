use Rattle.lock_free.specs.UniqueIndexSet.{view}
use Rattle.uses_programs.proofs.Names.{◌≡◌, length, drop, IsSound, Holding}
use Rattle.uses_programs.proofs.pool.give_back.Given as given

-- the pass holds the indices from `at` on
abbrev pub invariant-loop-at : given.invariant-loop-at
invariant-loop-at l = (l.at-end ≡ length l.indices) × Holding l.fn.pass (drop l.at l.indices) l.pass × IsSound (view l.pass)
