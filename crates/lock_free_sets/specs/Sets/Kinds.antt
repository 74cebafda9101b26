-- What differs between bit sets and counting bit sets.
use Rattle.std.specs.Prelude.{ℕ, ◌+◌}
use Rattle.steps.specs.Bits.Words.{elements}
use Rattle.model.specs.declared.turn.Kind.{Kind}
use Rattle.model.specs.declared.turn.Kind.TheVariants as kinds

-- whether a set is a bit set or a counting bit set
pub data SetKind : Type 0 where
  Flags : SetKind
  Counts : SetKind

-- the kind of the machine of a set
abbrev pub machine_kind : SetKind → Kind
machine_kind Flags = kinds.Bits
machine_kind Counts = kinds.Counts

-- the first word that has places: a bit set's first word is its reset position
abbrev pub first_word : SetKind → ℕ
first_word Flags = 1
first_word Counts = 0

-- how many words the machine of a set has; the table has one more, at which a pass can be split where
-- the machine has none
abbrev pub words_of : SetKind → ℕ → ℕ
words_of Flags capacity = 1 + elements capacity
words_of Counts capacity = capacity
