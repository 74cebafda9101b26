-- What clauses see of a word that was seen, of a value that was laid, and of a slot that was left empty.
use Rattle.std.specs.Prelude.{ℕ, Option, Some, None}
use Rattle.zero_copy_slots.specs.declared.words.Emptied.{Emptied}
use Rattle.zero_copy_slots.specs.declared.words.Lies.{Lies}
use Rattle.zero_copy_slots.specs.declared.words.Seen.{Seen}

-- the word that was seen
abbrev pub seen_word : Seen → ℕ
seen_word seen = seen.word

-- the slot that was seen
abbrev pub seen_in : Seen → ℕ
seen_in seen = seen.slot

-- the slot that a value was laid into
abbrev pub placed_slot : Lies → ℕ
placed_slot lies = lies.slot

-- the number under which the value lies
abbrev pub placed_number : Lies → ℕ
placed_number lies = lies.number

-- the slot that was left empty
abbrev pub emptied_slot : Emptied → ℕ
emptied_slot emptied = emptied.slot

-- the number that a value lay there with, if one did
abbrev pub emptied_number : Emptied → Option ℕ
emptied_number emptied = emptied.number

-- the number that comes with a value
abbrev pub number_with : {X : Type 0} → Option (ℕ × X) → Option ℕ
number_with (Some pair) = Some pair.0
number_with None = None
