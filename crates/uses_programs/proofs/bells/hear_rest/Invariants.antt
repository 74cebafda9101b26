use Rattle.std.proofs.Common.{◌≡◌, []}
use Rattle.lock_free.specs.Bits.Calls.{set_of, share, made, MissesNothing}
use Rattle.uses_programs.specs.Bells.{HearsMore}
use Rattle.uses_programs.proofs.bells.hear_rest.Given as given

-- the pass still knows all that it has made, and cleared exactly the bells in `heard`
abbrev pub invariant-loop : given.invariant-loop
invariant-loop g l =
    record {
      same_set : set_of l.pass ≡ set_of l.fn.pass;
      same_share : share l.pass ≡ share l.fn.pass;
      misses : MissesNothing l.pass;
      heard : HearsMore [] l.heard.items (made l.fn.pass) (made l.pass);
    }
