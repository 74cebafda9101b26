-- What clauses see of slots: the value that is read with its number, which slot is read or written, and why a
-- slot is not read (`IsUnreadable`) or not written (`IsUntaken`).
use Rattle.std.specs.Prelude.{◌≡◌, ◌≢◌, ◌⊎◌, ℕ, ◌-◌, ◌^◌, ◌%◌, ◌≤◌, Option, Some, None}
use Rattle.counted_slot.specs.Counting.{readers}
use Rattle.zero_copy_slots.specs.declared.error.ReadFailure.{ReadFailure}
use Rattle.zero_copy_slots.specs.declared.error.ReadFailure.TheVariants as reads
use Rattle.zero_copy_slots.specs.declared.error.TakeFailure.{TakeFailure}
use Rattle.zero_copy_slots.specs.declared.error.TakeFailure.TheVariants as takes
use Rattle.zero_copy_slots.specs.declared.Keeps.{Ghosts}
use Rattle.zero_copy_slots.specs.declared.Kept.{Kept}
use Rattle.zero_copy_slots.specs.declared.Laid.{Laid}
use Rattle.zero_copy_slots.specs.declared.Lying.{Lying}
use Rattle.zero_copy_slots.specs.declared.Reader.{Reader}
use Rattle.zero_copy_slots.specs.declared.Reading.{Reading}
use Rattle.zero_copy_slots.specs.declared.Slots.{Slots}
use Rattle.zero_copy_slots.specs.declared.Writer.{Writer}
use Rattle.zero_copy_slots.specs.declared.Writing.{Writing}
use Rattle.zero_copy_slots.specs.Words.{placed_slot, placed_number, seen_in, seen_word}

-- the number with which a value lies in a slot; 0 if there is no slot, or none lies there
abbrev pub number_of : {X K : Type 0} → Option (Option (Kept X K)) → ℕ
number_of (Some (Some kept)) = kept.number
number_of (Some None) = 0
number_of None = 0

-- the value that lies in a slot, if there is such a slot and it has one
abbrev pub value_of : {X K : Type 0} → Option (Option (Kept X K)) → Option X
value_of (Some (Some kept)) = Some kept.value
value_of (Some None) = None
value_of None = None

-- the number of the value that is read
abbrev pub number_in : {X K : Type 0} → Reading X K → ℕ
number_in reading = number_of reading.claim.value

-- the value in the slot that is read, if there is one
abbrev pub value_in : {X K : Type 0} → Reading X K → Option X
value_in reading = value_of reading.claim.value

-- how many slots there are
abbrev pub slots_in : {X K : Type 0} {rule : Ghosts K X} → Slots X K rule → ℕ
slots_in slots = slots.number

-- the slot that is read
abbrev pub slot_in : {X K : Type 0} → Reading X K → ℕ
slot_in reading = reading.claim.tag

-- the slot that is written
abbrev pub slot_of : {X K : Type 0} → Writing X K → ℕ
slot_of writing = writing.claim.tag

-- the slot that a value was laid into
abbrev pub laid_slot : Laid → ℕ
laid_slot laid = placed_slot laid.lies

-- the number under which the value lies
abbrev pub laid_number : Laid → ℕ
laid_number laid = placed_number laid.lies

-- the slot that a value lies in since its writer laid it there
abbrev pub lying_slot : Lying → ℕ
lying_slot lying = laid_slot lying.laid

-- the number under which it lies there
abbrev pub lying_number : Lying → ℕ
lying_number lying = laid_number lying.laid

-- the slots that a writer writes
abbrev pub written_by : {X K : Type 0} {rule : Ghosts K X} → Writer X K rule → Slots X K rule
written_by writer = writer.slots.now

-- the slots that a reader reads
abbrev pub read_by : {X K : Type 0} {rule : Ghosts K X} → Reader X K rule → Slots X K rule
read_by reader = reader.slots.now

-- Why a slot is not read: there is no such slot; or its word, as it was seen, says that no value lies there, or that
-- 2^30 - 1 read it; or it changed in each of 2^64 - 1 tries.
-- No clause says that it was seen in these slots, and in this call.
abbrev pub IsUnreadable : {X K : Type 0} {rule : Ghosts K X} → Slots X K rule → ℕ → ReadFailure → Type 0
IsUnreadable slots slot reads.NoSlot = slots_in slots ≤ slot
IsUnreadable slots slot (reads.NotThere seen) = (seen_in seen ≡ slot) × (seen_word seen % 4 ≢ 1)
IsUnreadable slots slot (reads.TooMany seen) = (seen_in seen ≡ slot) × (readers (seen_word seen) ≡ 2 ^ 30 - 1)
IsUnreadable slots slot (reads.Hollow seen) = (seen_in seen ≡ slot) × (seen_word seen % 4 ≡ 1)
IsUnreadable slots slot (reads.Busy seen found) =
    (seen_in seen ≡ slot) × (seen_in found ≡ slot) × (seen_word found ≢ seen_word seen)

-- why a slot is not to be written: there is none, or its word, which was seen there, says that it is written or read,
-- or it changed (in whose slots, and in which call, no clause says)
abbrev pub IsUntaken : {X K : Type 0} {rule : Ghosts K X} → Slots X K rule → ℕ → TakeFailure → Type 0
IsUntaken slots slot takes.NoSlot = slots_in slots ≤ slot
IsUntaken slots slot (takes.InUse seen) =
    (seen_in seen ≡ slot) × ((seen_word seen % 4 ≡ 3) ⊎ (readers (seen_word seen) ≢ 0))
IsUntaken slots slot (takes.Changed seen found) =
    (seen_in seen ≡ slot) × (seen_in found ≡ slot) × (seen_word found ≢ seen_word seen)
