-- What a wrong body of a call would answer, and the clause that refuses it: the clause is the last hypothesis of a lemma, which it
-- contradicts. A lemma's name says what the body does.
use Rattle.std.proofs.Common.{◌≡◌, ◌≢◌, ⊎_elim, ℕ, ◌+◌, ◌-◌, ◌^◌, ◌%◌, ◌<◌, ◌≤◌, Some, None, sym, ◌∙◌, arith}
use Rattle.counted_slot.specs.Counting.{readers}
use Rattle.zero_copy_slots.specs.declared.error.ReadFailure.TheVariants as reads
use Rattle.zero_copy_slots.specs.declared.error.TakeFailure.TheVariants as takes
use Rattle.zero_copy_slots.specs.declared.Keeps.{Ghosts}
use Rattle.zero_copy_slots.specs.declared.Lying.{Lying}
use Rattle.zero_copy_slots.specs.declared.Reading.{Reading}
use Rattle.zero_copy_slots.specs.declared.Slots.{Slots}
use Rattle.zero_copy_slots.specs.declared.Writer.{Writer}
use Rattle.zero_copy_slots.specs.declared.Writing.{Writing}
use Rattle.zero_copy_slots.specs.declared.words.Emptied.{Emptied}
use Rattle.zero_copy_slots.specs.declared.words.Seen.{Seen}
use Rattle.zero_copy_slots.specs.Slots.{lying_number, lying_slot, slot_in, slot_of, slots_in, written_by, IsUnreadable, IsUntaken}
use Rattle.zero_copy_slots.specs.Words.{emptied_number, emptied_slot, number_with, seen_in, seen_word}

module _ {X K : Type 0} {rule : Ghosts K X} (slots : Slots X K rule) (slot : ℕ) where
  -- ---- `read`

  -- `read` answers that there is no slot where there is one
  pub read_finds_no_slot : slot < slots_in slots → IsUnreadable slots slot reads.NoSlot → ⊥
  read_finds_no_slot within k = absurd (omega arith)

  -- `read` looks at another slot
  pub read_looks_elsewhere : (seen : Seen) → seen_in seen ≢ slot → IsUnreadable slots slot (reads.NotThere seen) → ⊥
  read_looks_elsewhere seen differs k = differs k.0

  -- `read` answers that no value lies there where the word says that one does
  pub read_misses_a_value : (seen : Seen) → seen_word seen % 4 ≡ 1 → IsUnreadable slots slot (reads.NotThere seen) → ⊥
  read_misses_a_value seen there k = k.1 there

  -- `read` answers that too many read where the word counts fewer
  pub read_counts_too_many : (seen : Seen) → readers (seen_word seen) ≢ 2 ^ 30 - 1 → IsUnreadable slots slot (reads.TooMany seen) → ⊥
  read_counts_too_many seen fewer k = fewer k.1

  -- `read` gives up though the word stayed as it was
  pub read_gives_up : (seen found : Seen) → seen_word found ≡ seen_word seen → IsUnreadable slots slot (reads.Busy seen found) → ⊥
  read_gives_up seen found same k = k.2 same

  -- `read` answers that a slot is empty whose word says that it is written or empty (`NotThere`)
  pub read_mistakes_a_writer : (seen : Seen) → seen_word seen % 4 ≡ 3 → IsUnreadable slots slot (reads.Hollow seen) → ⊥
  read_mistakes_a_writer seen written k = absurd (omega (arith, written, k.1))

  -- ---- `take`

  -- `take` answers that there is no slot where there is one
  pub take_finds_no_slot : slot < slots_in slots → IsUntaken slots slot takes.NoSlot → ⊥
  take_finds_no_slot within k = absurd (omega arith)

  -- `take` looks at another slot
  pub take_looks_elsewhere : (seen : Seen) → seen_in seen ≢ slot → IsUntaken slots slot (takes.InUse seen) → ⊥
  take_looks_elsewhere seen differs k = differs k.0

  -- `take` refuses a slot that nobody writes or reads
  pub take_refuses_a_free_slot : (seen : Seen) → seen_word seen % 4 ≢ 3 → readers (seen_word seen) ≡ 0
      → IsUntaken slots slot (takes.InUse seen) → ⊥
  take_refuses_a_free_slot seen unwritten unread k = ⊎_elim unwritten (λ read. read unread) k.1

  -- `take` answers that the word changed, and it stayed as it was
  pub take_refuses_without_a_change : (seen found : Seen) → seen_word found ≡ seen_word seen
      → IsUntaken slots slot (takes.Changed seen found) → ⊥
  take_refuses_without_a_change seen found same k = k.2 same

  -- `take` gives the right to write another slot
  pub take_takes_another_slot : (writing : Writing X K) → slot_of writing ≢ slot → (slot_of writing ≡ slot) × (slot < slots_in slots) → ⊥
  take_takes_another_slot writing differs k = differs k.0

-- ---- `put` and `clear`

-- `put` tells another slot than the one that is written
pub put_tells_another_slot : {X K : Type 0} (writing : Writing X K) (lying : Lying) (number : ℕ) → lying_slot lying ≢ slot_of writing
    → (lying_slot lying ≡ slot_of writing) × (lying_number lying ≡ number)
    → ⊥
put_tells_another_slot writing lying number differs k = differs k.0

-- `clear` tells a number where none lay
pub clear_tells_a_number : (X : Type 0) (e : Emptied) (number : ℕ) → emptied_number e ≡ Some number → emptied_number e ≡ number_with {X = X} None → ⊥
clear_tells_a_number X e number some k =
    let none : Some number ≡ None = sym some ∙ k in
    absurd (cc)

-- ---- a writer

-- `take` of a writer hands over other slots
pub writer_takes_other_slots : {X K : Type 0} {rule : Ghosts K X} (old new : Writer X K rule) → slots_in (written_by new) ≢ slots_in (written_by old)
    → written_by new ≡ written_by old
    → ⊥
writer_takes_other_slots old new differs k = differs (λ i. slots_in (k i))
