-- What a push, a pop and a peek of a bounded queue know at each stage, and how many steps they have taken.
-- V is the type of the values, R of the rooms.
use Rattle.laws_queues.proofs.Names.{◌≡◌, ℕ, ◌+◌, ◌-◌, ◌^◌, ◌<◌, ◌≤◌, Some, List, ◌∷◌, length, get_or, value_in}
use Rattle.laws_queues.proofs.Names.{Roles, Coding}
use Rattle.steps.specs.declared.queues.ring.PushStage.{PushStage}
use Rattle.steps.specs.declared.queues.ring.PushStage.TheVariants as pushes
use Rattle.steps.specs.declared.queues.ring.PopStage.{PopStage}
use Rattle.steps.specs.declared.queues.ring.PopStage.TheVariants as pops
use Rattle.steps.specs.declared.queues.peek.PeekStage.{PeekStage}
use Rattle.steps.specs.declared.queues.peek.PeekStage.TheVariants as peeks
use Rattle.steps.specs.Queues.Ring.{cell_word}
use Rattle.model.specs.declared.families.queues.calls.RingCall.{RingCall}
use Rattle.model.specs.declared.families.queues.calls.RingCall.TheVariants as rings
use Rattle.laws_queues.proofs.Queues.Core.{Core, Holds}
pub use Rattle.model.specs.Fresh.{IsFresh}

-- ---- the calls by their stages

module _ {V R : Type 0} where
  -- the push of `v` at a stage
  abbrev pub push_at : ℕ → V → PushStage → RingCall V R
  push_at c v stage =
      rings.Push (record { call = record { capacity = c; stage = stage; of = record {} }; given = v; room = tt })

  -- a pop at a stage
  abbrev pub pop_at : ℕ → R → PopStage → RingCall V R
  pop_at c room stage =
      rings.Pop (record { call = record { capacity = c; stage = stage; of = record {} }; given = tt; room = room })

  -- a peek at a stage
  abbrev pub peek_at : ℕ → R → PeekStage → RingCall V R
  peek_at c room stage =
      rings.Peek (record { call = record { capacity = c; stage = stage; of = record {} }; given = tt; room = room })

-- ---- what they know

module _ {V : Type 0} (en : Coding V) where
  -- what a push of `v` knows at each stage: its write position is the queue's, there is room, and the words
  -- that it has stored stand in the cell
  abbrev pub KnowsPush : ℕ → Core V → V → PushStage → Type 0
  KnowsPush c k v pushes.LoadsWrite = Unit {0}
  KnowsPush c k v (pushes.LoadsRead write) = (write ≡ k.write) × (k.write < 2 ^ 64 - 1)
  KnowsPush c k v (pushes.StoresCell write cell at) =
      (write ≡ k.write) × (length k.waiting < c) × (cell ≡ cell_word c en.size k.write) × (at < en.size)
      × Holds en.size en.words_of c k.cells k.write v at × (k.write < 2 ^ 64 - 1)
  KnowsPush c k v (pushes.StoresWrite write) =
      (write ≡ k.write) × (length k.waiting < c) × Holds en.size en.words_of c k.cells k.write v en.size × (k.write < 2 ^ 64 - 1)

  -- What a pop knows at each stage: its read position is the queue's, and its room has the words of the
  -- front value that are loaded so far; once all are, the room has that value.
  abbrev pub KnowsPop : ℕ → Core V → List ℕ → PopStage → Type 0
  KnowsPop c k room pops.LoadsRead = en.size ≤ length room
  KnowsPop c k room (pops.LoadsWrite read) = (en.size ≤ length room) × (read ≡ k.read)
  KnowsPop c k room (pops.LoadsCell read cell at) =
      (en.size ≤ length room) × (v : V) × (rest : List V) × (read ≡ k.read) × (k.waiting ≡ v ∷ rest)
      × (cell ≡ cell_word c en.size k.read) × (at < en.size)
      × ((i : ℕ) → i < at → get_or room i 0 ≡ get_or (en.words_of v) i 0)
  KnowsPop c k room (pops.StoresRead read) =
      (rest : List V) × (read ≡ k.read) × (k.waiting ≡ value_in en.value_of en.size room ∷ rest)

  -- a peek knows what a pop knows at that stage
  abbrev pub KnowsPeek : ℕ → Core V → List ℕ → PeekStage → Type 0
  KnowsPeek c k room peeks.LoadsRead = KnowsPop c k room pops.LoadsRead
  KnowsPeek c k room (peeks.LoadsWrite read) = KnowsPop c k room (pops.LoadsWrite read)
  KnowsPeek c k room (peeks.LoadsCell cell at) = KnowsPop c k room (pops.LoadsCell k.read cell at)

-- how many steps a push has taken at most at each stage, where a value has `size` words
abbrev pub push_number : ℕ → PushStage → ℕ
push_number size pushes.LoadsWrite = 0
push_number size (pushes.LoadsRead write) = 1
push_number size (pushes.StoresCell write cell at) = 2 + at
push_number size (pushes.StoresWrite write) = 2 + size

-- how many steps a pop has taken at most at each stage
abbrev pub pop_number : ℕ → PopStage → ℕ
pop_number size pops.LoadsRead = 0
pop_number size (pops.LoadsWrite read) = 1
pop_number size (pops.LoadsCell read cell at) = 2 + at
pop_number size (pops.StoresRead read) = 2 + size

-- how many steps a peek has taken at most at each stage
abbrev pub peek_number : ℕ → PeekStage → ℕ
peek_number size peeks.LoadsRead = 0
peek_number size (peeks.LoadsWrite read) = 1
peek_number size (peeks.LoadsCell cell at) = 2 + at

module _ {V R : Type 0} (en : Coding V) (words_in : R → List ℕ) where
  -- how many steps a call of a bounded queue has taken at most, by its stage
  abbrev pub ring_number : RingCall V R → ℕ
  ring_number (rings.Push run) = push_number en.size run.call.stage
  ring_number (rings.Pop run) = pop_number en.size run.call.stage
  ring_number (rings.Peek run) = peek_number en.size run.call.stage

  -- where a push stands: its party holds the producer's role, and it knows what its stage says
  abbrev pub PushAt : ℕ → Roles → Core V → ℕ → V → RingCall V R → Type 0
  PushAt c ro k p v (rings.Push run) =
      (ro.producer ≡ Some p) × (run.call.capacity ≡ c) × (run.given ≡ v) × KnowsPush en c k v run.call.stage
  PushAt c ro k p v other = ⊥

  -- where a pop stands: its party holds the consumer's role, and it knows what its stage says
  abbrev pub PopAt : ℕ → Roles → Core V → ℕ → RingCall V R → Type 0
  PopAt c ro k p (rings.Pop run) =
      (ro.consumer ≡ Some p) × (run.call.capacity ≡ c) × KnowsPop en c k (words_in run.room) run.call.stage
  PopAt c ro k p other = ⊥

  -- where a peek stands: its party holds the consumer's role, and it knows what its stage says
  abbrev pub PeekAt : ℕ → Roles → Core V → ℕ → RingCall V R → Type 0
  PeekAt c ro k p (rings.Peek run) =
      (ro.consumer ≡ Some p) × (run.call.capacity ≡ c) × KnowsPeek en c k (words_in run.room) run.call.stage
  PeekAt c ro k p other = ⊥
