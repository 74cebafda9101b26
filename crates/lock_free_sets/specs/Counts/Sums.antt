-- What a closure was called with, added up by places.
use Rattle.std.specs.Prelude.{ℕ, ◌==◌, List, if◌then◌else◌}
use Rattle.std.specs.List.{sum_by}
use Rattle.steps.specs.declared.bits.counting_bit_set.BitState.{BitState}

-- the sum of all counts that the closure was called with for this place
abbrev pub taken_at : ℕ → List BitState → ℕ
taken_at place states = sum_by (λ (s : BitState). if s.bit == place then s.count else 0) states
