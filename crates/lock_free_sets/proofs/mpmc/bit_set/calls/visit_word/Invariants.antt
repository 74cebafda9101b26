-- `visit_word` (src/mpmc/bit_set/calls.rt): in its loop the closure was called with the places so far
-- whose flag is set; the flags that are left are those of the further places.
use Rattle.lock_free_sets.proofs.Names.{◌≡◌, ℕ, ◌+◌, ◌<◌, ◌≤◌, has_flag}
use Rattle.lock_free_sets.specs.Bits.Callable.{Visited}
use Rattle.lock_free_sets.proofs.mpmc.bit_set.calls.visit_word.Given as given

abbrev pub invariant-loop-bit : given.invariant-loop-bit
invariant-loop-bit g l =
    Visited (λ p x q. given.F-step g p x tt q) l.found l.first l.fn.visit l.bit l.visit
    × ((n : ℕ) → l.bit ≤ n → n < 64 → has_flag l.left (l.first + n) ≡ has_flag l.found (l.first + n))
