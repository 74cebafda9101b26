use Rattle.uses_programs.proofs.Names.{Holding}
use Rattle.uses_programs.proofs.pool.take.Given as given

-- the pass holds the indices in `indices`
abbrev pub invariant-loop : given.invariant-loop
invariant-loop g l = Holding l.fn.pass l.indices.items l.pass
