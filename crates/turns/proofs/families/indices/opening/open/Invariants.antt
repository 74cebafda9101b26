-- The invariant of the loop of `open` of a unique index set: behind the head stand the numbers from 1 on, one
-- for each cell written, and there is room for the words that are left.
use Rattle.std.proofs.Common.{◌≡◌, ◌∷◌, ◌+◌, ◌≤◌}
use Rattle.std.specs.List.{range_with_len}
use Rattle.std.specs.Prelude.{vec_len, vec_capacity}
use Rattle.turns.proofs.families.indices.opening.open.Given as given

abbrev pub invariant-loop-index : given.invariant-loop-index
invariant-loop-index g l =
    (l.words.items ≡ 0 ∷ range_with_len 1 l.index)
    × (vec_len l.words ≡ 1 + l.index)
    × (1 + l.capacity + l.flags ≤ vec_capacity l.words)
