use Rattle.std.proofs.Common.{◌≡◌, ◌<◌}
use Rattle.uses_programs.proofs.Names.{All}
use Rattle.lock_free.specs.RobustUniqueIndexSet.{capacity_of, made, share, set_of}
use Rattle.uses_programs.specs.Leases.{HasLeased}
use Rattle.uses_programs.proofs.leases.lease.Given as given

-- the pass has leased the indices in `indices`, each within the capacity
abbrev pub invariant-loop : given.invariant-loop
invariant-loop g l =
    record {
      same_set : set_of l.pass ≡ set_of l.fn.pass;
      same_share : share l.pass ≡ share l.fn.pass;
      within : All (λ i. i < capacity_of l.fn.pool) l.indices.items;
      leased : HasLeased l.indices.items (made l.pass);
    }
