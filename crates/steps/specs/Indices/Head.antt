-- The words of a unique index set, and what its head word says.
use Rattle.std.specs.Prelude.{ℕ, ◌+◌, ◌-◌, ◌*◌, ◌/◌, ◌%◌, ◌^◌, ◌==◌, Bool, not, bit_and}
use Rattle.steps.specs.declared.indices.head.HeadDetails.{HeadDetails}

-- the word that names the next index of this one; behind the head each index has one, and then come the claim flags
abbrev pub next_word : ℕ → ℕ
next_word index = 1 + index

-- the word in which the flag of the index is
abbrev pub flag_word : (capacity index : ℕ) → ℕ
flag_word capacity index = 1 + capacity + index / 64

-- the flag of the index within its word
abbrev pub flag : ℕ → ℕ
flag index = 2 ^ (index % 64)

-- whether the flag of the index stands in the word
abbrev pub has_flag : (word index : ℕ) → Bool
has_flag word index = not (bit_and word (flag index) == 0)

-- The free index that the head word proposes next. The word has 24 bits for it, 16 that count the exchanges, and 24 for
-- the number of indices that are borrowed.
abbrev pub proposed : ℕ → ℕ
proposed word = word / 2 ^ 40

-- the number of 16 bits that each change of the head raises
abbrev pub aba : ℕ → ℕ
aba word = word / 2 ^ 24 % 2 ^ 16

-- how many indices are borrowed
abbrev pub borrowed : ℕ → ℕ
borrowed word = word % 2 ^ 24

-- the number of borrowed indices that says that the set is locked
abbrev pub locked : ℕ
locked = 2 ^ 24 - 1

-- whether the head says that the set is locked
abbrev pub says_locked : ℕ → Bool
says_locked word = borrowed word == locked

-- what a head word says
abbrev pub details : ℕ → HeadDetails
details word =
    record { head = proposed word; aba = aba word; borrowed_indices = borrowed word }

-- the head word that says this
abbrev pub head_word : HeadDetails → ℕ
head_word d = d.head % 2 ^ 24 * 2 ^ 40 + d.aba * 2 ^ 24 + d.borrowed_indices % 2 ^ 24
