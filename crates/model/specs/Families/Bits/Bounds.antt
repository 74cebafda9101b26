-- How many steps a call of the bit sets takes.
use Rattle.std.specs.Prelude.{ℕ, ◌+◌}
use Rattle.steps.specs.Bits.Words.{elements}
use Rattle.model.specs.declared.families.bits.BitsStart.{BitsStart}
use Rattle.model.specs.declared.families.bits.BitsStart.TheVariants.{Set, ResetNext, ResetAll, IsSet, Count}

-- How many steps a call of a bit set takes at most, by how often it has turned back to the start of a
-- loop (`backs`). A bit set has no counts, so `Count` takes none.
abbrev pub most_bits_steps : ℕ → BitsStart → ℕ → ℕ
most_bits_steps capacity (Set bit) backs = 2 + backs
most_bits_steps capacity ResetNext backs = 3 + capacity + backs
most_bits_steps capacity ResetAll backs = elements capacity
most_bits_steps capacity (IsSet bit) backs = 1
most_bits_steps capacity (Count place) backs = 0

-- How many steps a call of a counting bit set takes at most. None of them has a loop that begins again,
-- and those that the kind does not have take none.
abbrev pub most_counts_steps : ℕ → BitsStart → ℕ
most_counts_steps capacity (Set place) = 1
most_counts_steps capacity ResetNext = 0
most_counts_steps capacity ResetAll = capacity
most_counts_steps capacity (IsSet bit) = 0
most_counts_steps capacity (Count place) = 1
