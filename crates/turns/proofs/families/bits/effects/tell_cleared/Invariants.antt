-- The invariant of the loop of `tell_cleared`: the events are those of the first bits of the element whose
-- flag was found, and as many more may be written as there are bits.
use Rattle.std.proofs.Common.{◌≡◌, ◌≤◌, ◌+◌, ◌++◌}
use Rattle.std.specs.Prelude.{vec_len, vec_capacity}
use Rattle.turns.proofs.Places.{clears_so_far}
use Rattle.turns.proofs.families.bits.effects.tell_cleared.Given as given

abbrev pub invariant-bits : given.invariant-bits
invariant-bits g l =
    (l.events.items ≡ l.fn.events.items ++ clears_so_far l.fn.number l.fn.found l.first l.bit)
    × (vec_len l.events ≤ vec_len l.fn.events + l.bit)
    × (vec_capacity l.events ≡ vec_capacity l.fn.events)
