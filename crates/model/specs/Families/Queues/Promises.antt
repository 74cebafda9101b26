-- What holds of the machine of a queue, after any turns.
use Rattle.std.specs.Prelude.{◌≡◌, ◌⊎◌, ℕ, zero, suc, ◌+◌, true, false, Option, Some, None, List, [], length, take, slice_index}
use Rattle.steps.specs.declared.ask.Ask.{Ask}
use Rattle.steps.specs.declared.ask.Op.TheVariants.{Load}
use Rattle.model.specs.declared.event.Start.{Start}
use Rattle.model.specs.declared.event.Start.TheVariants.{Queues}
use Rattle.model.specs.declared.event.Answer.TheVariants.{Truth, PoppedNone, PoppedIndex, Popped}
use Rattle.model.specs.declared.event.Event.{Event}
use Rattle.model.specs.declared.event.Answer.{Answer}
use Rattle.model.specs.declared.event.Event.TheVariants.{Published, HandedOut, Acted}
use Rattle.model.specs.declared.families.queues.QueueStart.TheVariants.{PushIndex, Push, Pop}
use Rattle.model.specs.declared.families.queues.QueueKind.{QueueKind}
use Rattle.model.specs.declared.families.queues.QueueKind.TheVariants.{IndexQueue, Overflow, Queue}
use Rattle.model.specs.Families.Queues.Book.{IsBook, AnswersRight}
use Rattle.model.specs.Families.Queues.Calls.{write_word, read_word}
use Rattle.model.specs.Families.Queues.Lengths.{TellsLength}
use Rattle.model.specs.Families.Queues.Objects.{list_of}
use Rattle.model.specs.Families.Queues.Reading.{waiting}
use Rattle.model.specs.Families.Queues.Roles.{GrantsRight, KeepsHolders}
use Rattle.model.specs.Families.Queues.Bounds.{most_steps}
use Rattle.model.specs.Families.Queues.Spans.{Wrote, MayPublish, MayHandOut}
use Rattle.model.specs.Objects.{IsLegal, standing}
use Rattle.model.specs.Promise.{Promise}
use Rattle.model.specs.Reading.{Each, moments, Span}
use Rattle.model.specs.Turns.{words_after}
use Rattle.model.specs.World.{Trace}

-- the load of the write position
abbrev pub load_of_write : Ask
load_of_write = record { word = write_word; op = Load }

-- the load of the read position
abbrev pub load_of_read : Ask
load_of_read = record { word = read_word; op = Load }

-- The operation by which a pop finds that nothing waits: its load of the write position, or none in an
-- overflowing queue without capacity, whose pop uses no word.
abbrev pub finding_none : QueueKind → ℕ → Option Ask
finding_none IndexQueue capacity = Some load_of_write
finding_none Overflow zero = None
finding_none Overflow (suc less) = Some load_of_write
finding_none Queue capacity = Some load_of_write

-- the operation that a turn asks for adds 1 to this word
abbrev pub AddsOne : ℕ → List ℕ → Option Ask → Type 0
AddsOne word words ask = slice_index (words_after words ask) word ≡ slice_index words word + 1

-- The operation by which an overflowing push hands a value back: it adds 1 to the read position. Without
-- capacity there is no operation, since the push uses no word.
abbrev pub HandsBack : ℕ → List ℕ → Option Ask → Type 0
HandsBack zero words ask = ask ≡ None
HandsBack (suc less) words ask = AddsOne read_word words ask

module _ {T : Type 0} where
  -- What holds of a queue's machine after any turns. The list on which pushes and pops have acted is what
  -- waits, without the newest value where one more waits than the capacity.
  pub record IsQueue (kind : QueueKind) (t : Trace T) : Type 0 where
    pub list : standing (list_of kind t.world.capacity) (moments t.events)
        ≡ take t.world.capacity (waiting t.events)
    -- pushes and pops act as on one list
    pub moments : IsLegal (list_of kind t.world.capacity) (moments t.events)
    -- the positions and the cells are right
    pub book : IsBook t.world.coding kind t
    -- each push and pop answers right
    pub answers : Each (AnswersRight t.world.capacity) t.events
    -- each answer on lengths is right
    pub lengths : Each (TellsLength t.world.capacity) t.events
    -- each answer on roles is right
    pub roles : Each GrantsRight t.events
    -- the machine keeps who holds the roles
    pub holders : KeepsHolders t.world.kept t.events

  -- A push that is taken acts in its own turn, as it adds 1 to the write position, and one that answers false in its
  -- own, as it loads read, where capacity values wait. An overflowing push acts as it adds 1 to the write position, or,
  -- where that left one value too many, as the read position goes on: by its own step, with the value that leaves, or
  -- by another party's, with None.
  abbrev pub PushActs : Trace T → Option Ask → Type 0 → Answer T → Type 0
  PushActs old ask Own (Truth true) = Own × AddsOne write_word old.world.words ask
  PushActs old ask Own (Truth false) =
      Own × (ask ≡ Some load_of_read) × (length (waiting old.events) ≡ old.world.capacity)
  PushActs old ask Own PoppedNone =
      (Own × AddsOne write_word old.world.words ask)
      ⊎ ((¬ Own) × AddsOne read_word old.world.words ask)
  PushActs old ask Own (PoppedIndex index) =
      Own × HandsBack old.world.capacity old.world.words ask
  PushActs old ask Own answer = ⊥

  -- A pop acts in its own turn: with a value as it adds 1 to the read position, with None only where nothing waits as
  -- it loads write, or where it loads none, without capacity.
  abbrev pub PopActs : QueueKind → Trace T → Option Ask → Type 0 → Answer T → Type 0
  PopActs kind old ask Own PoppedNone =
      Own × (ask ≡ finding_none kind old.world.capacity) × (waiting old.events ≡ [])
  PopActs kind old ask Own (PoppedIndex index) = Own × AddsOne read_word old.world.words ask
  PopActs kind old ask Own (Popped value) = Own × AddsOne read_word old.world.words ask
  PopActs kind old ask Own answer = ⊥

  -- pushes and pops act, and no other call
  abbrev pub ActsRight : QueueKind → Trace T → Option Ask → (ℕ → Type 0) → Event T → Type 0
  ActsRight kind old ask IsTurnOf (Acted p (Queues (PushIndex index)) answer) =
      PushActs old ask (IsTurnOf p) answer
  ActsRight kind old ask IsTurnOf (Acted p (Queues (Push value)) answer) =
      PushActs old ask (IsTurnOf p) answer
  ActsRight kind old ask IsTurnOf (Acted p (Queues Pop) answer) =
      PopActs kind old ask (IsTurnOf p) answer
  ActsRight kind old ask IsTurnOf e = ⊥

  -- ---- the promise

  -- where in its party's span an event may stand that tells what a step did
  abbrev pub may_stand : QueueKind → Event T → Span T → Type 0
  may_stand kind (Published p item) span = MayPublish item span
  may_stand kind (HandedOut p item) span = MayHandOut kind span
  may_stand kind e span = ⊥

  -- what a call that has finished with this answer has written; a call of another family has not begun
  abbrev pub wrote : QueueKind → ℕ → Start T → Answer T → List (Event T) → Type 0
  wrote kind capacity (Queues start) answer events = Wrote kind capacity start answer events
  wrote kind capacity start answer events = ⊥

  -- how many steps a call takes at most; a call of another family does not begin
  abbrev pub most : QueueKind → (capacity size : ℕ) → Start T → ℕ → ℕ
  most kind capacity size (Queues start) backs = most_steps size kind start backs
  most kind capacity size start backs = 0

  -- what a queue of this kind promises of each run
  abbrev pub promise : QueueKind → Promise T
  promise kind =
      record {
        may_stand = may_stand kind;
        wrote = wrote kind;
        most_steps = most kind;
        acts_right = ActsRight kind;
        tells = λ old turn new. Unit {0};
        holds = IsQueue kind;
      }
