-- The machines of a bit set and of a counting bit set, for the seats of a table.
use Rattle.lock_free_sets.proofs.Names.{ℕ, one_word}
use Rattle.history.proofs.KindLaws.{KindLaws, LoneMachines}
use Rattle.history_bits.proofs.Sets.{bits_owe, counts_owe, set_effects}
use Rattle.lock_free_sets.specs.Sets.Kinds.{SetKind, Flags, Counts, machine_kind, words_of}

-- The machine of a set of either kind keeps the laws of its kind.
pub owes : (kind : SetKind) (capacity : ℕ) → KindLaws one_word (machine_kind kind) capacity (words_of kind capacity) set_effects
owes Flags = bits_owe one_word
owes Counts = counts_owe one_word

-- the machines of the sets of a kind
abbrev pub machines : SetKind → LoneMachines ℕ
machines kind = record { code = one_word; kind = machine_kind kind; effects = set_effects; size_of = words_of kind; laws = owes kind }
