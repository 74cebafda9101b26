-- `entries` (src/mpmc/container/listing.rt): its return meets the clause `most`.
use Rattle.std.proofs.Common.{arith}
use Rattle.lock_free_owners.proofs.ContainerSet.Entries.{entries_few}
use Rattle.lock_free_owners.proofs.mpmc.container.listing.entries.Goals as goal

pub returns-clause-most : goal.returns-clause-most
returns-clause-most g c = omega (arith, entries_few c.args.state.now)
