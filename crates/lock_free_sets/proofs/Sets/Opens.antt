-- The words with which the table of a bit set or a counting bit set opens, all zeros, are those of a
-- machine at its opening.
use Rattle.lock_free_sets.proofs.Names.{◌≡◌, ℕ, ◌+◌, ◌<◌, ◌^◌, List, [], opening, one_word, IsMachine, first_view}
use Rattle.std.proofs.Common.{replicate}
use Rattle.history_bits.proofs.Sets.{bits_open, counts_open}
use Rattle.lock_free_sets.specs.Sets.Kinds.{SetKind, Flags, Counts, machine_kind, words_of}

-- Zeros are the words with which a set of either kind opens, and the first view fits them.
pub opens : (kind : SetKind) (capacity : ℕ) → capacity < 2 ^ 32 → (words : List ℕ) → words ≡ replicate (words_of kind capacity + 1) 0
    → IsMachine one_word (machine_kind kind) capacity (opening words [] (first_view capacity))
opens Flags = bits_open
opens Counts = counts_open
