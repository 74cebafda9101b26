-- The machine as plain data: its words and its parties' calls (`World`), with the events of its
-- turns (`Trace`).
use Rattle.std.specs.Prelude.{◌≡◌, ◌⊎◌, ℕ, ◌-◌, ◌^◌, ◌||◌, Option, Some, None, List, [], if◌then◌else◌, nat_lt}
use Rattle.steps.specs.declared.enums.UniqueIndexCreationError.{UniqueIndexCreationError}
use Rattle.steps.specs.declared.enums.UniqueIndexCreationError.TheVariants.{NoMemory, ProvidedCapacityGreaterThanMaxCapacity, ProvidedCapacityIsZero}
use Rattle.steps.specs.Enums.{capacity_refusal}
use Rattle.model.specs.declared.event.Event.{Event}
use Rattle.model.specs.declared.families.Flight.{Flight}
use Rattle.model.specs.declared.families.Registry.{Registry}
use Rattle.model.specs.declared.party.Party.{Party}
use Rattle.model.specs.declared.party.Progress.{Progress}
use Rattle.model.specs.declared.turn.Kind.{Kind}
use Rattle.model.specs.declared.turn.Kind.TheVariants.{Loan}
use Rattle.model.specs.declared.turn.Shape.{Shape}
use Rattle.model.specs.declared.turn.Shape.TheVariants as shapes
use Rattle.model.specs.Coding.{Coding}
use Rattle.model.specs.Families.{opening_of}
use Rattle.model.specs.Families.Loan.Opening.{opening_words, opening_kept}
use Rattle.model.specs.Parties.{party_of, doing_of, flight_of, progress_after}

-- A machine: the kind and the words of its structure, and where the latest call of each party stands.
pub record World (T : Type 0) : Type 0 where
  pub coding : Coding T  -- how its values are written in words
  pub kind : Kind
  pub capacity : ℕ
  pub parties : ℕ
  pub words : List ℕ
  pub kept : Registry T  -- what the kind's family keeps beside its words
  pub latest : List (ℕ × Party T)  -- the latest call of each party that has begun one, by number
  pub changes : ℕ  -- how often a step has changed a word's value
  pub turns : ℕ

-- The content of a machine of the code (its `now`): the fields of `World` without the coding of its
-- values, and the events of its turns in order.
pub record State (T : Type 0) : Type 0 where
  -- the structure and its numbers
  pub kind : Kind
  pub capacity : ℕ
  pub parties : ℕ
  -- the words, and what the family keeps beside them
  pub words : List ℕ
  pub kept : Registry T
  -- the parties' latest calls, and the counts of changes and turns
  pub latest : List (ℕ × Party T)
  pub changes : ℕ
  pub turns : ℕ
  -- the events of its turns, in order
  pub events : List (Event T)

-- a machine, with the events of its turns in order
pub record Trace (T : Type 0) : Type 0 where
  pub world : World T
  pub events : List (Event T)

-- ---- a structure: its kind, and its one or two numbers

-- the kind of a machine of this shape
abbrev pub kind_in : Shape → Kind
kind_in (shapes.Of kind capacity) = kind
kind_in (shapes.Loan slots queue) = Loan

-- The capacity in a shape. For a loan channel it is the number of slots.
abbrev pub capacity_in : Shape → ℕ
capacity_in (shapes.Of kind capacity) = capacity
capacity_in (shapes.Loan slots queue) = slots

-- the capacity of a loan channel's submission queue, of any other kind the capacity again
abbrev pub queue_in : Shape → ℕ
queue_in (shapes.Of kind capacity) = capacity
queue_in (shapes.Loan slots queue) = queue

-- Why a machine of this kind may not have this capacity, or None.
abbrev pub capacity_error : Kind → ℕ → Option UniqueIndexCreationError
capacity_error kind capacity =
    capacity_refusal (opening_of kind).least (opening_of kind).greatest capacity

-- Why a loan channel may not have a submission queue of this capacity, or None. Other kinds have no
-- such queue and refuse none.
abbrev pub queue_error : Kind → ℕ → Option UniqueIndexCreationError
queue_error Loan queue = capacity_refusal 1 (2 ^ 32 - 1) queue
queue_error kind queue = None

-- Why no loan channel has these two numbers, or None. A number above its greatest is refused before
-- one below its least.
abbrev pub loan_error : (slots queue : ℕ) → Option UniqueIndexCreationError
loan_error slots queue =
    if nat_lt (2 ^ 24 - 2) slots || nat_lt (2 ^ 32 - 1) queue
    then Some ProvidedCapacityGreaterThanMaxCapacity
    else if nat_lt slots 1 || nat_lt queue 1
    then Some ProvidedCapacityIsZero
    else None

-- why there is no machine of this shape, by its capacity
abbrev pub shape_error : Shape → Option UniqueIndexCreationError
shape_error (shapes.Of kind capacity) = capacity_error kind capacity
shape_error (shapes.Loan slots queue) = loan_error slots queue

-- Why no machine is made: its numbers are not admitted, or, if they are, there is no memory.
abbrev pub IsCreationError : Shape → UniqueIndexCreationError → Type 0
IsCreationError shape e =
    (shape_error shape ≡ Some e) ⊎ (shape_error shape ≡ None) × (e ≡ NoMemory)

-- the words at the opening, by the number of words of a value, the capacity and the second number
abbrev pub words_opened : Kind → (size capacity queue : ℕ) → List ℕ
words_opened Loan size capacity queue = opening_words capacity queue
words_opened kind size capacity queue = (opening_of kind).words size capacity

-- what is kept beside the words at the opening
abbrev pub kept_opened : {T : Type 0} → Kind → ℕ → ℕ → Registry T
kept_opened Loan capacity queue = opening_kept capacity queue
kept_opened kind capacity queue = (opening_of kind).kept capacity

module _ {T : Type 0} where
  -- The machine of a state of the code, given how its values are written in words.
  abbrev pub trace_in : Coding T → State T → Trace T
  trace_in code s =
      record {
        world =
            record {
              coding = code;
              kind = s.kind;
              capacity = s.capacity;
              parties = s.parties;
              words = s.words;
              kept = s.kept;
              latest = s.latest;
              changes = s.changes;
              turns = s.turns;
            };
        events = s.events;
      }

  -- The machine of a state of the code, without its events.
  abbrev pub world_in : Coding T → State T → World T
  world_in code s = (trace_in code s).world

  -- The machine of a kind, capacity and number of parties as it opens, before its first turn.
  abbrev pub opening : Coding T → Kind → (capacity parties : ℕ) → Trace T
  opening code kind capacity parties =
      record {
        world =
            record {
              coding = code;
              kind = kind;
              capacity = capacity;
              parties = parties;
              words = (opening_of kind).words code.size capacity;
              kept = (opening_of kind).kept capacity;
              latest = [];
              changes = 0;
              turns = 0;
            };
        events = [];
      }

  -- The machine as it opens, before its first turn. The second number, `queue`, is the capacity of
  -- a loan channel's submission queue; other kinds do not use it.
  abbrev pub opened : Coding T → Kind → (capacity queue parties : ℕ) → Trace T
  opened code kind capacity queue parties =
      record {
        world =
            record {
              coding = code;
              kind = kind;
              capacity = capacity;
              parties = parties;
              words = words_opened kind code.size capacity queue;
              kept = kept_opened kind capacity queue;
              latest = [];
              changes = 0;
              turns = 0;
            };
        events = [];
      }

  -- the machine of a structure in which nothing has happened
  abbrev pub opening_as : Coding T → Shape → ℕ → Trace T
  opening_as code shape parties =
      opened code (kind_in shape) (capacity_in shape) (queue_in shape) parties

  -- the party's call under way
  abbrev pub flight_in : World T → ℕ → Option (Flight T)
  flight_in w p = flight_of (doing_of (party_of p w.latest))

  -- how far the party's latest call has come
  abbrev pub progress_in : World T → ℕ → Option Progress
  progress_in w p = progress_after w.changes (party_of p w.latest)
