-- The law `passes_end_loads` (src/lib.rt; clauses `between`, `known`, `asks` and `rest`): a finite load ends between threads, of the
-- same kinds and parties.
use Rattle.headline_threads.specs.Ends.{PassesEndLoad, KnownEndsLoad, KnownAsksLoad, PassesRest}
use Rattle.headline_threads.proofs.Ending.{part_ends}
use Rattle.headline_threads.proofs.passes_end_loads.Goals as goal

pub returns-clause-between : goal.returns-clause-between
returns-clause-between g c kind = part_ends _ kind (PassesEndLoad _ kind) (λ bound all. all.between)

pub returns-clause-known : goal.returns-clause-known
returns-clause-known g c kind = part_ends _ kind (KnownEndsLoad _ kind) (λ bound all. all.load)

pub returns-clause-asks : goal.returns-clause-asks
returns-clause-asks g c kind = part_ends _ kind (KnownAsksLoad _ kind) (λ bound all. all.asks)

pub returns-clause-rest : goal.returns-clause-rest
returns-clause-rest g c kind = part_ends _ kind (PassesRest _ kind) (λ bound all. all.rest)
