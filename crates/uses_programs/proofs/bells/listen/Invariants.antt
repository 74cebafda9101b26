use Rattle.std.proofs.Common.{◌≡◌, []}
use Rattle.lock_free.specs.Bits.Calls.{set_of, share, made}
use Rattle.uses_programs.specs.Bells.{HearsMore}
use Rattle.uses_programs.proofs.bells.listen.Given as given

-- the set and the share are the same, and the looks cleared exactly the bells in `heard`
abbrev pub invariant-loop : given.invariant-loop
invariant-loop g l =
    (set_of l.pass ≡ set_of l.fn.pass)
    × (share l.pass ≡ share l.fn.pass)
    × HearsMore [] l.heard.items (made l.fn.pass) (made l.pass)
