-- `UniqueIndexSet::of` (src/mpmc/unique_index_set/make.rt): in its loop the words are the head and,
-- behind it, the numbers from 1 on.
use Rattle.lock_free_sets.proofs.Names.{◌≡◌, ◌∷◌, ◌+◌, ◌≤◌, range_with_len}
use Rattle.std.specs.Prelude.{vec_len, vec_capacity}
use Rattle.lock_free_sets.proofs.mpmc.unique_index_set.UniqueIndexSet.of.Given as given

abbrev pub invariant-loop-index : given.invariant-loop-index
invariant-loop-index l =
    (l.words.items ≡ 0 ∷ range_with_len 1 l.index)
    × (vec_len l.words ≡ 1 + l.index)
    × (1 + l.capacity + l.flags + 1 ≤ vec_capacity l.words)
