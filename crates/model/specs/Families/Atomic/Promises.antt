-- What holds of the machine of the single value, after any turns.
use Rattle.std.specs.Prelude.{◌≡◌, ℕ, ◌+◌, ◌-◌, List, length, drop, take, replicate, Option, Some, slice_index}
use Rattle.steps.specs.declared.ask.Ask.{Ask}
use Rattle.steps.specs.declared.ask.Op.TheVariants.{Add, Exchange}
use Rattle.steps.specs.Atomic.{cell_word}
use Rattle.model.specs.declared.event.Start.{Start}
use Rattle.model.specs.declared.event.Start.TheVariants.{Atomic}
use Rattle.model.specs.declared.event.Answer.{Answer}
use Rattle.model.specs.declared.event.Answer.TheVariants.{Loaded, Number}
use Rattle.model.specs.declared.event.Event.{Event}
use Rattle.model.specs.declared.event.Event.TheVariants.{Acted, Finished}
use Rattle.model.specs.declared.families.atomic.AtomicStart.TheVariants.{Store, Load, Version}
use Rattle.model.specs.Coding.{Coding}
use Rattle.model.specs.Families.Atomic.Bounds.{most_steps}
use Rattle.model.specs.Families.Atomic.Calls.{version_word}
use Rattle.model.specs.Families.Atomic.Objects.{one_value}
use Rattle.model.specs.Families.Atomic.Reading.{stored}
use Rattle.model.specs.Families.Atomic.Roles.{GrantsRight, KeepsHolder}
use Rattle.model.specs.Families.Atomic.Spans.{moments_of}
use Rattle.model.specs.Objects.{Object, IsLegal, standing}
use Rattle.model.specs.Promise.{Promise}
use Rattle.model.specs.Reading.{Each, moments, Span}
use Rattle.model.specs.World.{Trace}

-- The words of the cell that the version names, where a value has `size` words.
abbrev pub cell_in : ℕ → List ℕ → List ℕ
cell_in size words =
    take size (drop (cell_word size (slice_index words version_word - 1)) words)

-- the operation with which a store takes effect
abbrev pub add_to_version : Ask
add_to_version = record { word = version_word; op = Add 1 }

-- The operation with which a load takes effect:
-- an exchange of the version for itself, which succeeds where it is this one.
abbrev pub check_of_version : ℕ → Ask
check_of_version version = record { word = version_word; op = Exchange version version }

module _ {T : Type 0} where
  -- The object of stores and loads: at first the value whose words are all 0, replaced by each store.
  abbrev pub value_of_zeros : Coding T → Object T T
  value_of_zeros code = one_value (code.value_of (replicate code.size 0))

  -- the value that stands after these events
  abbrev pub value_in : Coding T → List (Event T) → T
  value_in code events = standing (value_of_zeros code) (moments events)

  -- A load answers the value that stands. The version is 1 more than
  -- the number of the values that were stored as the look ends.
  abbrev pub AnswersRight : Coding T → List (Event T) → Event T → Type 0
  AnswersRight code before (Acted p (Atomic Load) answer) = answer ≡ Loaded (value_in code before)
  AnswersRight code before (Finished p (Atomic Version) answer) =
      answer ≡ Number (length (stored before) + 1)
  AnswersRight code before e = Unit {0}

  -- What holds of the single value's machine after any turns: the words of the cell that the version
  -- names make the value that was stored last, and acts, answers and roles are right.
  pub record IsValue (t : Trace T) : Type 0 where
    -- stores and loads act as on one value
    pub moments : IsLegal (value_of_zeros t.world.coding) (moments t.events)
    -- each answer is right
    pub answers : Each (AnswersRight t.world.coding) t.events
    pub cell : t.world.coding.value_of (cell_in t.world.coding.size t.world.words)
        ≡ value_in t.world.coding t.events
    -- each answer on the role is right
    pub roles : Each GrantsRight t.events
    -- the machine keeps who holds the role
    pub holder : KeepsHolder t.world.kept t.events

  -- A store acts in the turn that adds 1 to the version, a load in the turn that finds the version
  -- unchanged, with the value that stands. Both act in a turn of their own party, and no other call acts.
  abbrev pub ActsRight : Trace T → Option Ask → (ℕ → Type 0) → Event T → Type 0
  ActsRight old ask IsTurnOf (Acted p (Atomic (Store value)) answer) =
      IsTurnOf p × (ask ≡ Some add_to_version)
  ActsRight old ask IsTurnOf (Acted p (Atomic Load) answer) =
      IsTurnOf p
      × (ask ≡ Some (check_of_version (slice_index old.world.words version_word)))
      × (answer ≡ Loaded (value_in old.world.coding old.events))
  ActsRight old ask IsTurnOf e = ⊥

  -- ---- the promise

  -- no event but a begin, an act and an end is written
  abbrev pub may_stand : Event T → Span T → Type 0
  may_stand e span = ⊥

  -- what a call that has finished with this answer has written; a call of another family has not begun
  abbrev pub wrote : ℕ → Start T → Answer T → List (Event T) → Type 0
  wrote capacity (Atomic start) answer events = moments events ≡ moments_of start answer
  wrote capacity start answer events = ⊥

  -- how many steps a call takes at most; a call of another family does not begin
  abbrev pub most : (capacity size : ℕ) → Start T → ℕ → ℕ
  most capacity size (Atomic start) backs = most_steps size start backs
  most capacity size start backs = 0

  -- what the single value promises of each run
  abbrev pub promise : Promise T
  promise =
      record {
        may_stand = may_stand;
        wrote = wrote;
        most_steps = most;
        acts_right = ActsRight;
        tells = λ old turn new. Unit {0};
        holds = IsValue;
      }
