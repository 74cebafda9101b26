-- What goes through the submission queue: a value's number and its place, as one number.
-- `room` is a power of two that no place reaches.
use Rattle.std.specs.Prelude.{ℕ, ◌+◌, ◌*◌, ◌^◌, ◌<◌, ◌≤◌}
use Rattle.lock_free_loans.specs.declared.spsc.loan.LoanSender.{LoanSender}
use Rattle.zero_copy_loans.specs.declared.words.Loans.{Loans}

-- `room` is at least the number of places, and less than twice that unless it is 2 or less: of the powers of two, the
-- least from 2 on.
abbrev pub IsRoomFor : (places room : ℕ) → Type 0
IsRoomFor places room = (places ≤ room) × (2 < room → room < 2 * places)

-- the word that is sent for a place under this number
abbrev pub word_of : (room number place : ℕ) → ℕ
word_of room number place = number * room + place

-- there is a place of this index, and the word of the number and the place is below 2^64
abbrev pub IsWord : (room places number place : ℕ) → Type 0
IsWord room places number place = (place < places) × (word_of room number place < 2 ^ 64)

-- the sender of places by which values are sent
abbrev pub sender_in : Loans → LoanSender
sender_in l = l.loans
