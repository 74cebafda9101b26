-- What a schedule prints, as a function of its bytes.
use Rattle.std.specs.Prelude.{ℕ, zero, suc, ◌+◌, Bool, true, false, ◌&&◌, Option, Some, None, Result, Ok, Err, List, [], ◌∷◌, ◌++◌, if◌then◌else◌}
use Rattle.steps.specs.declared.enums.UniqueIndexCreationError.{UniqueIndexCreationError}
use Rattle.steps.specs.declared.enums.UniqueIndexCreationError.TheVariants as creation
use Rattle.model.specs.declared.turn.Kind.{Kind}
use Rattle.model.specs.declared.turn.Refusal.{Refusal}
use Rattle.model.specs.declared.turn.Refusal.TheVariants.{NoMemory}
use Rattle.model.specs.declared.turn.Turn.{Turn}
use Rattle.model.specs.declared.turn.Turn.TheVariants.{Next}
use Rattle.steps.specs.Words.{words_of_u128, value_of_u128}
use Rattle.model.specs.Coding.{Coding, coding_of}
use Rattle.model.specs.World as machines
use Rattle.model.specs.World.{World, Trace, kind_in, opening_as, shape_error, world_in}
use Rattle.model.specs.Refusals.{refusal_of, is_going}
use Rattle.model.specs.Turns.{world_after, events_of}
use Rattle.texts.specs.declared.error.Cause.{Cause}
use Rattle.texts.specs.declared.error.Cause.TheVariants as causes
use Rattle.texts.specs.declared.grammar.Command.{Command}
use Rattle.texts.specs.declared.grammar.Command.TheVariants.{Once, Times}
use Rattle.texts.specs.declared.grammar.Setup.{Setup}
use Rattle.texts.specs.Text.{lines, words}
use Rattle.texts.specs.Grammar.{◌>>=◌, setup_of, command_of}
use Rattle.texts.specs.Print.{events_text, refusal_text}

-- ---- one turn

-- how the program's values are written in words
abbrev pub two_words : Coding ℕ
two_words = coding_of 2 words_of_u128 value_of_u128

-- the world of a machine of such values
abbrev pub world_of : machines.State ℕ → World ℕ
world_of held = world_in two_words held

-- what a turn prints, whether it was taken, and the world after it
pub record Outcome : Type 0 where
  pub text : List ℕ
  pub is_taken : Bool
  pub world : World ℕ

-- why a turn is refused: for memory only where nothing else refuses it
abbrev pub refusal_where : Bool → Option Refusal → Option Refusal
refusal_where short (Some refusal) = Some refusal
refusal_where true None = Some NoMemory
refusal_where false None = None

-- a turn that is taken prints its events and changes the world; a refused one prints the refusal
abbrev pub outcome_as : World ℕ → Turn ℕ → Option Refusal → Outcome
outcome_as w turn None =
    record { text = events_text (events_of w turn); is_taken = true; world = world_after w turn }
outcome_as w turn (Some refusal) =
    record { text = refusal_text refusal; is_taken = false; world = w }

-- the outcome of a turn, to which memory is refused or not
unfoldable pub outcome : Bool → World ℕ → Turn ℕ → Outcome
outcome short w turn = outcome_as w turn (refusal_where short (refusal_of w turn))

-- ---- several turns

-- The state of a schedule between two turns: the machine's world, and for each turn to come whether memory is
-- refused to it. Past the list's end memory is refused to no turn.
pub record State : Type 0 where
  pub world : World ℕ
  pub refusals : List Bool

-- whether memory is refused to the next turn
abbrev pub is_short : List Bool → Bool
is_short [] = false
is_short (short ∷ refusals) = short

-- whether it is refused to each of the turns after that
abbrev pub later : List Bool → List Bool
later [] = []
later (short ∷ refusals) = refusals

-- what a command prints, and the state that it leaves
pub record Printed : Type 0 where
  pub text : List ℕ
  pub state : State

-- this text, and then what is printed
abbrev pub after_text : List ℕ → Printed → Printed
after_text text p = record { text = text ++ p.text; state = p.state }

-- what the next turn comes to
abbrev pub next_outcome : State → Turn ℕ → Outcome
next_outcome s turn = outcome (is_short s.refusals) s.world turn

-- what a turn prints, and the state after it
abbrev pub printed : Outcome → List Bool → Printed
printed o refusals =
    record { text = o.text; state = record { world = o.world; refusals = refusals } }

-- the turn was taken, and the party's call needs no decision and is not finished
abbrev pub goes_on : ℕ → Outcome → Bool
goes_on party o = o.is_taken && is_going o.world party

-- what up to `most` turns `Next` of a party's call print, and the state after them: they end with one that is
-- refused or after which the call does not go on by itself
unfoldable pub nexts : ℕ → ℕ → State → Printed
nexts zero party s = record { text = []; state = s }
nexts (suc most) party s =
    let o = next_outcome s (Next party) in
    if goes_on party o
    then after_text o.text
    (nexts most party (record { world = o.world; refusals = later s.refusals }))
    else printed o (later s.refusals)

-- what a command prints: of one turn, or of up to a number of turns `Next` of one party
abbrev pub commanded : Command → State → Printed
commanded (Once turn) s = printed (next_outcome s turn) (later s.refusals)
commanded (Times party most) s = nexts most party s

-- ---- lines

-- what is printed, and the first malformed line with its cause, if there is one
pub record Output : Type 0 where
  pub text : List ℕ
  pub end : Result (Unit {0}) (ℕ × Cause)

-- the output of a schedule that stops at a line, for this cause
abbrev pub stopped : ℕ → Cause → Output
stopped number cause = record { text = []; end = Err (number, cause) }

-- the output with this text before it
abbrev pub before : List ℕ → Output → Output
before text o = record { text = text ++ o.text; end = o.end }

-- the output of these lines, of which the first has this number; an empty line prints nothing
unfoldable pub lines_from : Kind → ℕ → List (List ℕ) → State → Output
lines_from kind number [] s = record { text = []; end = Ok tt }
lines_from kind number ([] ∷ lines) s = lines_from kind (number + 1) lines s
lines_from kind number ((b ∷ bs) ∷ lines) s =
    elim (command_of kind (words (b ∷ bs))) [
      | Err cause ↦ stopped number cause
      | Ok command ↦
          before (commanded command s).text
          (lines_from kind (number + 1) lines (commanded command s).state)
    ]

-- why a machine is refused; refused memory is no cause
abbrev pub capacity_cause : Option UniqueIndexCreationError → Option Cause
capacity_cause (Some creation.ProvidedCapacityGreaterThanMaxCapacity) =
    Some causes.ProvidedCapacityGreaterThanMaxCapacity
capacity_cause (Some creation.ProvidedCapacityIsZero) = Some causes.ProvidedCapacityIsZero
capacity_cause (Some creation.NoMemory) = None
capacity_cause None = None

-- the setup, unless its capacity is not admitted, which is tested after all words of the line
abbrev pub admitted : Setup → Option Cause → Result Setup Cause
admitted setup None = Ok setup
admitted setup (Some cause) = Err cause

-- why there is no machine of this setup, by its capacity
abbrev pub setup_error : Setup → Option UniqueIndexCreationError
setup_error setup = shape_error setup.shape

-- the machine that the words of a first line ask for, or why they are malformed or their
-- capacity is not admitted
unfoldable pub machine_of : List (List ℕ) → Result Setup Cause
machine_of ws = do
  setup ← setup_of ws
  admitted setup (capacity_cause (setup_error setup))

-- the machine of a first line, before its first turn
abbrev pub trace_of : Setup → Trace ℕ
trace_of setup = opening_as two_words setup.shape setup.parties

-- the state of a schedule before its first turn
abbrev pub opened : Setup → List Bool → State
opened setup refusals = record { world = (trace_of setup).world; refusals = refusals }

-- the output of these lines, where the list says to which turns memory is refused
unfoldable pub output_of_lines : List Bool → List (List ℕ) → Output
output_of_lines refusals [] = stopped 1 causes.MissingValue
output_of_lines refusals (first ∷ lines) =
    elim (machine_of (words first)) [
      | Err cause ↦ stopped 1 cause
      | Ok setup ↦ lines_from (kind_in setup.shape) 2 lines (opened setup refusals)
    ]

-- The output of these bytes. The list says for each turn whether memory is refused to it where nothing else
-- refuses it; past its end memory is refused to no turn.
abbrev pub output_of : List ℕ → List Bool → Output
output_of input refusals = output_of_lines refusals (lines input)
