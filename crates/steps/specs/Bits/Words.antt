-- Flags, 64 to a word: the words of a bit set are its reset position, and then its elements.
use Rattle.std.specs.Prelude.{ℕ, ◌+◌, ◌-◌, ◌/◌, ◌%◌, ◌^◌, ◌==◌, Bool, not, List, bit_and, bit_or, slice_index}

-- whether the bit i of a word stands
abbrev pub bit_stands : (word i : ℕ) → Bool
bit_stands word i = not (bit_and word (2 ^ i) == 0)

-- the flag of a place is this bit of its element
abbrev pub bit_of : ℕ → ℕ
bit_of place = place % 64

-- the word of a place's element
abbrev pub element_of : ℕ → ℕ
element_of place = 1 + place / 64

-- how many elements the flags of this many places take
abbrev pub elements : ℕ → ℕ
elements capacity = (capacity + 63) / 64

-- the word with the flag of the place
abbrev pub with_flag : (word place : ℕ) → ℕ
with_flag word place = bit_or word (2 ^ bit_of place)

-- the word without the flag of the place
abbrev pub without_flag : (word place : ℕ) → ℕ
without_flag word place = bit_and word (2 ^ 64 - 1 - 2 ^ bit_of place)

-- whether the flag of a place stands in the word of its element
abbrev pub has_flag : (word place : ℕ) → Bool
has_flag word place = bit_stands word (bit_of place)

-- whether a place stands in the words of a bit set
abbrev pub stands : List ℕ → ℕ → Bool
stands words place = has_flag (slice_index words (element_of place)) place
