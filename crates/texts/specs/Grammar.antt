-- What a line says, read from left to right: a value, or the first cause that is met.
use Rattle.std.specs.Prelude.{ℕ, ◌-◌, ◌^◌, ◌==◌, Bool, true, false, List, [], ◌∷◌, Some, None, Result, Ok, Err, if◌then◌else◌, bytes_eq, codes}
use Rattle.model.specs.declared.turn.Kind.{Kind}
use Rattle.model.specs.declared.turn.Shape.{Shape}
use Rattle.model.specs.declared.turn.Shape.TheVariants as shapes
use Rattle.model.specs.declared.turn.Turn.TheVariants.{Begin, Next, Decide, Die}
use Rattle.model.specs.Families.Loan.Opening.{is_loan}
use Rattle.texts.specs.declared.error.Cause.{Cause}
use Rattle.texts.specs.declared.error.Cause.TheVariants.{BadValue, UnknownKind, UnknownTurn}
use Rattle.texts.specs.declared.grammar.Command.{Command}
use Rattle.texts.specs.declared.grammar.Command.TheVariants.{Once, Times}
use Rattle.texts.specs.declared.grammar.Setup.{Setup}
use Rattle.texts.specs.Families.{kind_named, call_named}
unfoldable pub use Rattle.texts.specs.Reading.{Gives, ◌>>=◌, next_word, ended, number_at, owner_at}
use Rattle.texts.specs.Text.{number_of}

-- ---- the first line

-- the kind that a word names
abbrev pub kind_of : List ℕ → Result Kind Cause
kind_of name = elim (kind_named name) [ Some kind ↦ Ok kind | None ↦ Err UnknownKind ]

-- The numbers of a structure of this kind, read from these words: of a loan channel its slots and its queue, of any
-- other kind its capacity.
abbrev pub shape_at : Kind → List (List ℕ) → Result (Shape × List (List ℕ)) Cause
shape_at kind ws = do
  capacity ← number_at (2 ^ 64 - 1) ws
  if is_loan kind
      then (number_at (2 ^ 64 - 1) capacity.1 >>= λ queue. Ok (shapes.Loan capacity.0 queue.0, queue.1))
      else Ok (shapes.Of kind capacity.0, capacity.1)

-- the machine that a first line asks for: a kind, the numbers of its structure, and how many parties
unfoldable pub setup_of : List (List ℕ) → Result Setup Cause
setup_of ws = do
  name ← next_word ws
  kind ← kind_of name.0
  shape ← shape_at kind name.1
  parties ← number_at (2 ^ 32 - 1) shape.1
  end ← ended parties.1
  Ok (record { shape = shape.0; parties = parties.0 })

-- ---- turns

-- a turn `Begin` of the party, by the call that these words name
unfoldable pub begin_of : Kind → ℕ → List (List ℕ) → Result (Command) Cause
begin_of kind party ws = do
  name ← next_word ws
  call ← call_named kind name.0 name.1
  end ← ended call.1
  Ok (Once (Begin party call.0))

-- the number of turns that a word says, from 1
abbrev pub count_of : List ℕ → Result ℕ Cause
count_of word = number_of (2 ^ 64 - 1) word >>= λ n. if n == 0 then Err BadValue else Ok n

-- turns `Next` of the party: one, or as many as the word says
unfoldable pub next_of : ℕ → List (List ℕ) → Result Command Cause
next_of party [] = Ok (Once (Next party))
next_of party (word ∷ ws) = do
  turns ← count_of word
  end ← ended ws
  Ok (Times party turns)

-- a turn `Decide` of the party, with no word after it
unfoldable pub decision_of : ℕ → Bool → List (List ℕ) → Result Command Cause
decision_of party said ws = do
  end ← ended ws
  Ok (Once (Decide party said))

-- the turn or turns of the party that these words name
unfoldable pub turn_of : Kind → ℕ → List (List ℕ) → Result Command Cause
turn_of kind party ws = do
  name ← next_word ws
  if bytes_eq name.0 (codes "begin") then begin_of kind party name.1
      else if bytes_eq name.0 (codes "next") then next_of party name.1
      else if bytes_eq name.0 (codes "yes") then decision_of party true name.1
      else if bytes_eq name.0 (codes "no") then decision_of party false name.1
      else Err UnknownTurn

-- a turn `Die`, by the owner that these words name
unfoldable pub death_of : List (List ℕ) → Result Command Cause
death_of ws = do
  owner ← owner_at ws
  end ← ended owner.1
  Ok (Once (Die owner.0))

-- what a line after the first says
unfoldable pub command_of : Kind → List (List ℕ) → Result Command Cause
command_of kind ws = do
  first ← next_word ws
  if bytes_eq first.0 (codes "die") then death_of first.1
      else (number_of (2 ^ 32 - 1) first.0 >>= λ party. turn_of kind party first.1)
